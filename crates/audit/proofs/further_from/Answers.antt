-- `audit::further_from` meets its contract. The loop's invariant: the answer is still that of the indexes from here down, on a clean walk.
-- Assumes nothing.
use mathlib.Core.Path.{sym, ◌∙◌}
use native.Mathlib.Omega.{arith}
use Rattle.ctz.proofs.Room.{first_asked}
use Rattle.audit.proofs.Further.{head_below, behind, further_none, further_on, then_sound, then_unsound}
use Rattle.audit.proofs.further_from.Goals as goal

pub returns-in-Some : goal.returns-in-Some
returns-in-Some c =
    sym
    (c.loop-index.invariant.0 ∙ further_on _ _ _ c.loop-index-test.true
    ∙ then_unsound _ _ _ c.pointers_at.ensures _ c.in-Some.is ∙ c.in-Some.is)

pub pointer-k-requires : goal.pointer-k-requires
pointer-k-requires c =
    let l = c.loop-index in
    first_asked c.args.card.facts (head_below l.invariant.1)

pub loop-index-preserved : goal.loop-index-preserved
loop-index-preserved c =
    let l = c.loop-index in
    rw c.pointer-k.ensures (
      l.invariant.0 ∙ further_on _ _ _ c.loop-index-test.true ∙ then_sound _ _ _ c.pointers_at.ensures c.in_default.is,
      behind c.loop-index-test.true l.invariant.1,
    )

pub returns : goal.returns
returns c = sym (c.loop-index.invariant.0 ∙ further_none _ _ _ (omega arith))
