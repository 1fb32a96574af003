-- `saved::read::read_files` meets its contract. The invariant: the files read so far are in the slots, and the rest of the bytes is still to be read. Assumes nothing.
use mathlib.Core.Path.{◌≡◌}
use native.Mathlib.Omega.{arith}
use Rattle.std.specs.Prelude.{Some, None}
use Rattle.layout.specs.declared.Refusal.TheVariants.{Damaged}
use Rattle.std.proofs.lemmas.Result.{err_from_is_err_and}
use Rattle.saved.proofs.Files.{entry_small, filled_start, filled_damaged, filled_turn, filled_trailing, filled_done}
use Rattle.saved.proofs.read.read_files.Goals as goal

pub loop-i-init : goal.loop-i-init
loop-i-init c = filled_start _ _ _ _ c.requires c.empty-t.ensures

pub bounds-t-i : goal.bounds-t-i
bounds-t-i c = omega (arith, c.loop-i-test.true, c.loop-i.invariant.count_le)

pub overflow_add-least : goal.overflow_add-least
overflow_add-least c =
    let some : c.read_entry.result ≡ Some c.in_ok-entry.field-0 = grind arith in
    omega (arith, entry_small _ _ _ _ _ _ (λ k l. (c.type_inv.bytes k).fits) c.read_entry.ensures some)

pub loop-i-preserved : goal.loop-i-preserved
loop-i-preserved c =
    let some : c.read_entry.result ≡ Some c.in_ok-entry.field-0 = grind arith in
    filled_turn _ _ _ _ _ _ _ c.loop-i.invariant _ c.read_entry.ensures c.loop-i-test.true _ _ some

pub returns-in_err-entry : goal.returns-in_err-entry
returns-in_err-entry c =
    let none : c.read_entry.result ≡ None = grind arith in
    let p = err_from_is_err_and c.from_residual.result c.from_residual.ensures.1 in
    let is : c.in_err-entry.field-0.0 ≡ Damaged = grind arith in
    rw (p.1, p.2, is) (filled_damaged _ _ _ _ _ _ _ c.loop-i.invariant _ c.read_entry.ensures c.loop-i-test.true none)

pub returns-then-p-bytes : goal.returns-then-p-bytes
returns-then-p-bytes c = filled_trailing _ _ _ _ _ _ _ c.loop-i.invariant c.loop-i-test.false c.if-p-bytes.true

pub returns : goal.returns
returns c = filled_done _ _ _ _ _ _ _ c.loop-i.invariant c.loop-i-test.false c.if-p-bytes.false
