-- `saved::load` meets its contract: the number of files, then the files. Assumes nothing.
use mathlib.Core.Path.{◌≡◌}
use native.Mathlib.Omega.{arith}
use Rattle.std.specs.Prelude.{Some, None}
use Rattle.layout.specs.declared.Refusal.TheVariants.{Damaged}
use Rattle.std.proofs.lemmas.Result.{err_from_is_err_and}
use Rattle.saved.proofs.Files.{load_damaged, load_count, load_files}
use Rattle.saved.proofs.load.Goals as goal

pub read_files-requires : goal.read_files-requires
read_files-requires c =
    let some : c.read_number.result ≡ Some c.in_ok-count.count = grind arith in
    load_count _ _ c.read_number.ensures _ _ some

pub returns-in_err-count : goal.returns-in_err-count
returns-in_err-count c =
    let none : c.read_number.result ≡ None = grind arith in
    let p = err_from_is_err_and c.from_residual.result c.from_residual.ensures.1 in
    let is : c.in_err-count.field-0.0 ≡ Damaged = grind arith in
    rw (p.1, p.2, is) (load_damaged _ _ c.read_number.ensures none)

pub returns : goal.returns
returns c =
    let some : c.read_number.result ≡ Some c.in_ok-count.count = grind arith in
    load_files _ _ c.read_number.ensures _ _ _ some c.read_files.ensures
