-- `ctz::run::find_run` meets its contract. The loop's invariant: the blocks of the indexes passed are known. Assumes nothing.
use Rattle.std.proofs.lemmas.Result.{err_from_is_err_and}
use mathlib.Core.Path.{sym, ◌∙◌}
use Prim.Native.Nat.{◌-◌}
use native.Mathlib.Omega.{arith}
use lib.ListN.{length-set}
use Rattle.ctz.proofs.Runs.{known_more, block_finds, run_lost}
use Rattle.ctz.proofs.run.find_run.Goals as goal

pub returns-in_err-blocks : goal.returns-in_err-blocks
returns-in_err-blocks c =
    let p = err_from_is_err_and c.from_residual.result c.from_residual.ensures.1 in
    rw (p.1, p.2) (run_lost _ _ _ _ _ _ _ (c.loop-j.j - 1) c.loop-j.invariant.0 (omega arith) (sym c.in_err-blocks.was ∙ c.led.ensures))

pub loop-j-preserved : goal.loop-j-preserved
loop-j-preserved c =
    let l = c.loop-j in
    let found = block_finds _ _ _ _ _ (sym c.in_ok-blocks.was ∙ c.led.ensures) in (
      simp length-set l.invariant.0,
      known_more _ _ _ _ _ _ l.blocks l.j (l.j - 1) _ (omega arith)
          (omega (arith, l.invariant.0, c.requires.fits)) l.invariant.1 found,
    )
