-- `files::change::place` meets its contract. The invariant: the files passed, and those before the number among the rest. Assumes nothing.
use mathlib.Core.Path.{◌≡◌, sym, ◌∙◌}
use native.Mathlib.Omega.{arith}
use Rattle.files.proofs.Laws.{slots_ok, count_ok}
use Rattle.files.proofs.Turns.{place_here, place_on, place_end}
use Rattle.files.proofs.change.place.Goals as goal

pub loop-i-init : goal.loop-i-init
loop-i-init c = (slots_ok _ c.requires, count_ok _ c.requires, omega arith)

pub bounds-t-i : goal.bounds-t-i
bounds-t-i c = omega (arith, c.loop-i.invariant.1, c.loop-i-test.true)

pub returns-then-number-t : goal.returns-then-number-t
returns-then-number-t c =
    let inv = c.loop-i.invariant in
    sym (inv.2 ∙ place_here _ _ _ _ c.loop-i-test.true (omega arith) c.if-number-t.true)

pub loop-i-preserved : goal.loop-i-preserved
loop-i-preserved c =
    let inv = c.loop-i.invariant in
    (inv.0, inv.1, inv.2 ∙ place_on _ _ _ _ c.loop-i-test.true (omega arith) c.if-number-t.false)

pub returns : goal.returns
returns c =
    let inv = c.loop-i.invariant in
    let end : c.args.t.count ≡ c.loop-i.i = omega arith in
    end ∙ sym (inv.2 ∙ place_end _ _ _ _ c.loop-i.auto.i-end c.loop-i-test.false)
