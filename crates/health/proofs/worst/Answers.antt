-- `health::worst` meets its contract: the largest byte passed decides for all of them. Assumes nothing.
use mathlib.Core.Path.{refl, sym, ◌∙◌}
use Rattle.health.proofs.Health.{worst_turn, turns_done}
use Rattle.health.proofs.worst.Goals as goal

pub loop-h-init : goal.loop-h-init
loop-h-init c = refl

pub loop-h-preserved : goal.loop-h-preserved
loop-h-preserved c =
    c.loop-h.invariant ∙ worst_turn c.args.health.now c.loop-h.most c.loop-h.h-index c.loop-h-test.true c.max-most.result c.max-most.ensures

pub returns : goal.returns
returns c = sym (c.loop-h.invariant ∙ turns_done c.args.health.now c.loop-h.most c.loop-h.h-index c.loop-h-test.false)
