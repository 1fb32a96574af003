-- `alloc::mark_file` meets its contract: what is left of the visit, marked from the map as it stands, comes to what the whole visit does. Assumes nothing.
use mathlib.Core.Path.{sym, ◌∙◌}
use native.Mathlib.Omega.{arith}
use Rattle.layout.proofs.Served.{served}
use Rattle.ctz.proofs.Visiting.{visit_damaged, step_answers, step_below, visit_last, visit_more}
use Rattle.alloc.proofs.Files.{goes, goes_on, goes_last, goes_wrong, no_block, mark_asked}
use borrow.Author.Rules.{rules}
use Rattle.std.proofs.lemmas.Result.{err_from_is_err_and}
use Rattle.alloc.proofs.mark_file.Goals as goal

pub returns-then-bytes-eq0 : goal.returns-then-bytes-eq0
returns-then-bytes-eq0 c = no_block _ _ _ _ _ _ _ _ c.if-bytes-eq0.true

pub index_at-requires : goal.index_at-requires
index_at-requires c = served c.args.card.facts.sized (search rules)

pub loop-step-init : goal.loop-step-init
loop-step-init c = goes _ _ _ _ _ _ _ _ _ c.if-bytes-eq0.false c.index_at.ensures

pub mark-requires : goal.mark-requires
mark-requires c = mark_asked c.args.card.facts c.requires (step_below _ _ _ (sym c.visit_step.ensures ∙ c.in_ok-step.was))

pub loop-step-smaller : goal.loop-step-smaller
loop-step-smaller c =
    omega (arith, (visit_more _ _ _ (sym c.visit_step.ensures ∙ c.in_ok-step.was) c.in-Some.is).falls)

pub loop-step-preserved : goal.loop-step-preserved
loop-step-preserved c =
    goes_on c.loop-step.invariant (visit_more _ _ _ (sym c.visit_step.ensures ∙ c.in_ok-step.was) c.in-Some.is).rest c.mark.ensures

pub returns-in-None : goal.returns-in-None
returns-in-None c =
    goes_last c.loop-step.invariant (visit_last _ _ _ (sym c.visit_step.ensures ∙ c.in_ok-step.was) c.in-None.is).1 c.mark.ensures

pub returns-in_err-step : goal.returns-in_err-step
returns-in_err-step c =
    let refused = sym c.visit_step.ensures ∙ c.in_err-step.was in
    let p = err_from_is_err_and c.from_residual.result c.from_residual.ensures.1 in
    rw (p.1, p.2, step_answers _ _ _ refused) (goes_wrong c.loop-step.invariant (visit_damaged _ _ _ refused))
