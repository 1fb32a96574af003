-- `copy_found` copies a run exactly if every lookup finds its block: the first block's part, then the rest, once all of it was found. Assumes nothing.
use Rattle.std.proofs.lemmas.Result.{err_from_is_err_and}
use mathlib.Core.Path.{sym, ◌∙◌}
use native.Mathlib.Omega.{arith}
use Rattle.finding.proofs.Gathers.{on_card, offset_below, step, clean_turn, copy_keeps, copy_first, copy_only, all_lost}
use Rattle.copies.proofs.Outcomes.{run_copied, run_lost, first_parted}
use Rattle.copies.proofs.copy_found.Goals as goal

pub returns-in_err-found : goal.returns-in_err-found
returns-in_err-found c =
    let p = err_from_is_err_and c.from_residual.result c.from_residual.ensures.1 in
    rw (p.1, p.2) (run_lost _ _ (all_lost c.args.card.image.now _ (on_card c.args.card.facts c.requires.run) c.requires.some (sym c.in_err-found.ensures)))

pub overflow_sub-card : goal.overflow_sub-card
overflow_sub-card c =
    omega (arith, offset_below c.args.card.image.now c.args.head (on_card c.args.card.facts c.requires.run) c.requires.some (sym c.in_ok-found.ensures))

pub copy_part-requires : goal.copy_part-requires
copy_part-requires c = first_parted c.args.card.image.now c.args.head c.args.card.facts c.requires (sym c.in_ok-found.ensures) c.min-part.ensures

pub returns-then-rest-eq0 : goal.returns-then-rest-eq0
returns-then-rest-eq0 c =
    let a = c.args in
    let o =
    copy_only a.card.image.now a.head (on_card c.args.card.facts c.requires.run) c.requires.some c.min-part.result (sym c.in_ok-found.ensures) c.min-part.ensures
    a.buffer.now _ (omega (arith, c.if-rest-eq0.true)) c.copy_part.ensures in
    run_copied _ _ _ o.0 o.1

pub returns-in_err-found_all : goal.returns-in_err-found_all
returns-in_err-found_all c =
    let a = c.args in
    let p = err_from_is_err_and c.from_residual-in_err-found_all.result c.from_residual-in_err-found_all.ensures.1 in
    rw (p.1, p.2)
    (run_lost _ _
    (clean_turn a.card.image.now a.head (on_card c.args.card.facts c.requires.run) c.requires.some c.min-part.result (sym c.in_ok-found.ensures) c.min-part.ensures
    ∙ sym c.found_all.ensures.is ∙ c.in_err-found_all.was))

pub copy_part-requires-2 : goal.copy_part-requires-2
copy_part-requires-2 c = first_parted c.args.card.image.now c.args.head c.args.card.facts c.requires (sym c.in_ok-found.ensures) c.min-part.ensures

pub copy_all-requires : goal.copy_all-requires
copy_all-requires c =
    let a = c.args in
    let s = step a.card.image.now a.head (on_card c.args.card.facts c.requires.run) c.requires.some c.min-part.result (sym c.in_ok-found.ensures) c.min-part.ensures in
    let long =
    copy_keeps a.card.image.now a.head (on_card c.args.card.facts c.requires.run) c.requires.some c.min-part.result (sym c.in_ok-found.ensures) c.min-part.ensures
    a.buffer.now _ 0 c.copy_part-2.ensures in
    record {
      run = record { most = s.rest.most; inside = s.rest.inside };
      some = omega (arith, c.if-rest-eq0.false);
      found = sym c.found_all.ensures.is ∙ c.in_ok-found_all.was;
      noted = c.found_all.ensures.noted c.in_ok-found_all.was;
      fits = omega (arith, long, s.most_left, c.requires.fits);
    }

pub returns : goal.returns
returns c =
    let a = c.args in
    let w =
    clean_turn a.card.image.now a.head (on_card c.args.card.facts c.requires.run) c.requires.some c.min-part.result (sym c.in_ok-found.ensures) c.min-part.ensures
    ∙ sym c.found_all.ensures.is ∙ c.in_ok-found_all.was in
    run_copied _ _ _ w
    (copy_first a.card.image.now a.head (on_card c.args.card.facts c.requires.run) c.requires.some c.min-part.result (sym c.in_ok-found.ensures) c.min-part.ensures
    a.buffer.now _ _ w c.copy_part-2.ensures c.copy_all.ensures)
