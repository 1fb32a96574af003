-- `found_from` tells whether every lookup of the run of indexes finds its block. The invariant: those passed are found.
use Rattle.std.proofs.lemmas.Result.{err_from_is_err_and}
use mathlib.Core.Path.{refl, ◌∙◌}
use Prim.Native.Nat.{◌+◌, ◌-◌, ◌≤◌}
use native.Mathlib.Nat.{min-le_left, min-le_right, min-eq_left, min-eq_right}
use native.Mathlib.Omega.{arith}
use Rattle.finding.proofs.Runs.{passed_none, passed_more, passed_all, run_missed}
use Rattle.finding.proofs.found_from.Goals as goal

pub loop-i-init : goal.loop-i-init
loop-i-init c = (omega arith, refl, passed_none _ _ _ _ _)

pub find_run-requires : goal.find_run-requires
find_run-requires c =
    let m = min-le_left (c.args.last - c.loop-i.i + 1) 1024 in
    let r = min-le_right (c.args.last - c.loop-i.i + 1) 1024 in
    record {
      walks = c.requires.walks;
      inside = omega (arith, c.min-part.ensures, c.loop-i-test.true, c.requires.below);
      fits = omega (arith, c.min-part.ensures, c.loop-i.invariant.1);
      few = omega (arith, c.loop-i.invariant.1);
    }

pub returns-in_err-find_run : goal.returns-in_err-find_run
returns-in_err-find_run c =
    let m = min-le_left (c.args.last - c.loop-i.i + 1) 1024 in
    let p = err_from_is_err_and c.from_residual.result c.from_residual.ensures.1 in
    rw (p.1, p.2)
    (run_missed _ _ _ _ _ _ c.in_err-find_run.was c.loop-i.invariant.0
    (omega (arith, c.min-part.ensures, c.loop-i-test.true)) c.find_run.ensures)

pub loop-i-preserved : goal.loop-i-preserved
loop-i-preserved c =
    let i = c.loop-i.invariant in
    let g = c.find_run.ensures in
    let whole : 1024 ≤ c.args.last - c.loop-i.i + 1 = omega arith in
    let m = min-eq_right whole in
    (omega (arith, i.0), g.long ∙ i.1, λ x l h. passed_more _ _ _ _ _ _ c.in_ok-find_run.was i.2 g x l (omega (arith, c.min-part.ensures, m)))

pub returns-in_ok-find_run : goal.returns-in_ok-find_run
returns-in_ok-find_run c =
    let i = c.loop-i.invariant in
    let whole : c.args.last - c.loop-i.i + 1 ≤ 1024 = omega arith in
    let m = min-eq_left whole in
    passed_all _ _ _ _ _ (omega (arith, c.min-part.ensures, m)) (passed_more _ _ _ _ _ _ c.in_ok-find_run.was i.2 c.find_run.ensures)

pub returns : goal.returns
returns c = passed_all _ _ _ _ _ (omega arith) c.loop-i.invariant.2
