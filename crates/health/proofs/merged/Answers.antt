-- `health::merged` meets its contract: a turn passes one byte of each run. Assumes nothing.
use mathlib.Core.Path.{refl}
use Prim.Native.Nat.{◌+◌, ◌*◌}
use native.Mathlib.Omega.{arith}
use Rattle.health.proofs.Runs.{passed_none, passed_turn, passed_all}
use Rattle.health.proofs.merged.Goals as goal

pub loop-i-init : goal.loop-i-init
loop-i-init c =
    let a = c.args in
    let h = a.health.now in
    let q = a.q in
    (passed_none h 0 q 0, passed_none h (4 * q) q 0)

pub loop-i-preserved : goal.loop-i-preserved
loop-i-preserved c =
    let q = c.args.q in
    let i = c.loop-i.i in
    let s = c.loop-i.invariant in (
      passed_turn i c.with_four-low.result (omega arith) c.with_four-low.ensures s.0,
      passed_turn (4 * q + i) c.with_four-high.result refl c.with_four-high.ensures s.1,
    )

pub returns : goal.returns
returns c =
    let s = c.loop-i.invariant in
    passed_all (omega arith) s.0 s.1
