-- `health::merged` meets its contract: a turn passes one byte of each run. Assumes nothing.
use Prim.Native.Nat.{◌*◌}
use Rattle.health.proofs.Runs.{Passed}
use Rattle.health.proofs.merged.Given as goal

abbrev pub invariant-loop-i : goal.invariant-loop-i
invariant-loop-i l = Passed l.health 0 l.q l.i l.low × Passed l.health (4 * l.q) l.q l.i l.high
