-- `files::search` meets its contract. The invariant: the search among all files is the search among those from `i` on. Assumes nothing.
use mathlib.Core.Path.{refl, sym, ◌∙◌}
use native.Mathlib.Omega.{arith}
use Rattle.files.proofs.Laws.{slots_ok, count_ok}
use Rattle.files.proofs.Turns.{search_here, search_on, search_end}
use Rattle.files.proofs.search.Goals as goal

pub loop-i-init : goal.loop-i-init
loop-i-init c = (slots_ok _ c.requires, count_ok _ c.requires, refl)

pub bounds-t-i : goal.bounds-t-i
bounds-t-i c = omega (arith, c.loop-i.invariant.1, c.loop-i-test.true)

pub returns-then-t-i : goal.returns-then-t-i
returns-then-t-i c =
    let inv = c.loop-i.invariant in
    sym (inv.2 ∙ search_here _ _ _ _ c.loop-i-test.true (omega arith) c.if-t-i.true)

pub loop-i-preserved : goal.loop-i-preserved
loop-i-preserved c =
    let inv = c.loop-i.invariant in
    (inv.0, inv.1, inv.2 ∙ search_on _ _ _ _ c.loop-i-test.true (omega arith) c.if-t-i.false)

pub returns : goal.returns
returns c =
    let inv = c.loop-i.invariant in
    sym (inv.2 ∙ search_end _ _ _ _ c.loop-i.auto.i-end c.loop-i-test.false)
