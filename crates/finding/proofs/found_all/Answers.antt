-- `found_all` answers whether every lookup of the run finds its block: those of the indexes from its first position's to its last one's. Assumes nothing.
use Rattle.std.proofs.lemmas.Result.{err_from_is_err_and}
use Prim.Native.Nat.{◌+◌, ◌-◌}
use native.Mathlib.Nat.{min-le_left, min-le_right}
use native.Mathlib.Omega.{arith}
use Rattle.finding.proofs.Positions.{indexed, ordered}
use Rattle.finding.proofs.Gathers.{on_card}
use Rattle.finding.proofs.Answers.{answered_lost, answered_short, answered_on}
use Rattle.finding.proofs.found_all.Goals as goal

pub overflow_sub-last : goal.overflow_sub-last
overflow_sub-last c = ordered (on_card c.args.card.facts c.requires.run) c.requires.some c.index_at-first.ensures c.index_at-last.ensures

pub overflow_add-last : goal.overflow_add-last
overflow_add-last c =
    let l = indexed (on_card c.args.card.facts c.requires.run) c.requires.some c.index_at-top.ensures c.index_at-last.ensures in
    omega (arith, l.below, l.short)

pub find_run-requires : goal.find_run-requires
find_run-requires c =
    let l = indexed (on_card c.args.card.facts c.requires.run) c.requires.some c.index_at-top.ensures c.index_at-last.ensures in
    let m = min-le_left (c.index_at-last.result - c.index_at-first.result + 1) 1024 in
    let k = min-le_right (c.index_at-last.result - c.index_at-first.result + 1) 1024 in
    record {
      walks = l.walks;
      inside = omega (arith, c.min-part.ensures, l.below, ordered (on_card c.args.card.facts c.requires.run) c.requires.some c.index_at-first.ensures c.index_at-last.ensures);
      fits = omega (arith, c.min-part.ensures, c.requires.long);
      few = omega (arith, c.requires.long);
    }

pub returns-in_err-find_run : goal.returns-in_err-find_run
returns-in_err-find_run c =
    let p = err_from_is_err_and c.from_residual.result c.from_residual.ensures.1 in
    rw (p.1, p.2)
    (answered_lost c.args.card.image.now c.args.card.facts c.requires c.index_at-top.ensures c.index_at-first.ensures c.index_at-last.ensures
    c.min-part.ensures _ c.find_run.ensures c.in_err-find_run.was)

pub overflow_sub-last-2 : goal.overflow_sub-last-2
overflow_sub-last-2 c =
    ordered (on_card c.args.card.facts c.requires.run) c.requires.some c.index_at-first.ensures c.index_at-last.ensures

pub returns-then-last-first-lt1024 : goal.returns-then-last-first-lt1024
returns-then-last-first-lt1024 c =
    answered_short c.args.card.image.now c.args.card.facts c.requires c.index_at-top.ensures c.index_at-first.ensures c.index_at-last.ensures
    c.min-part.ensures _ c.find_run.ensures c.in_ok-find_run.was c.if-last-first-lt1024.true

pub found_from-requires : goal.found_from-requires
found_from-requires c =
    indexed (on_card c.args.card.facts c.requires.run) c.requires.some c.index_at-top.ensures c.index_at-last.ensures

pub returns : goal.returns
returns c =
    answered_on c.args.card.image.now c.args.card.facts c.requires c.index_at-top.ensures c.index_at-first.ensures c.index_at-last.ensures
    c.min-part.ensures _ c.find_run.ensures _ c.in_ok-find_run.was c.if-last-first-lt1024.false c.found_from.ensures
