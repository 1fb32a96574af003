-- `lists::visited` meets its contract: what is left of the visit answers the whole. Assumes nothing.
use mathlib.Core.Path.{◌∙◌, sym}
use Rattle.replay.proofs.Listed.{step_is, refusal_is, step_refused, step_other, step_last, step_more, none_left}
use Rattle.replay.proofs.lists.visited.Goals as goal

pub returns-then-step-word : goal.returns-then-step-word
returns-then-step-word c =
    sym
    (c.loop-i.invariant ∙ step_other _ _ _ _ _ _ _ c.loop-i-test.true
    (step_is _ _ _ _ _ _ c.geometry-g.ensures c.image.ensures c.ctz_traverse.ensures) _ _
    c.word.ensures c.in-Ok.is c.if-step-word.true)

pub returns-in-None : goal.returns-in-None
returns-in-None c =
    c.told.ensures ∙ sym
    (c.loop-i.invariant ∙ step_last _ _ _ _ _ _ _ c.loop-i-test.true
    (step_is _ _ _ _ _ _ c.geometry-g.ensures c.image.ensures c.ctz_traverse.ensures) _ _
    c.word.ensures c.in-Ok.is c.if-step-word.false c.in-None.is)

pub returns-in-Err : goal.returns-in-Err
returns-in-Err c =
    c.told-in-Err.ensures ∙ sym
    (c.loop-i.invariant ∙ step_refused _ _ _ _ _ _ _ c.loop-i-test.true
    (step_is _ _ _ _ _ _ c.geometry-g.ensures c.image.ensures c.ctz_traverse.ensures) _ _
    (refusal_is _ _ _ c.code.ensures c.bare.ensures) c.in-Err.is)

pub loop-i-preserved : goal.loop-i-preserved
loop-i-preserved c =
    c.loop-i.invariant ∙ step_more _ _ _ _ _ _ _ c.loop-i-test.true
    (step_is _ _ _ _ _ _ c.geometry-g.ensures c.image.ensures c.ctz_traverse.ensures) _ _
    c.word.ensures c.in-Ok.is c.if-step-word.false _ c.in-Some.is

pub returns : goal.returns
returns c = sym (c.loop-i.invariant ∙ none_left _ _ _ _ _ _ c.loop-i-test.false)
