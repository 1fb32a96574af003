-- `saved::read::read_number` meets its contract. The invariant: the number is what the groups so far are worth and the rest adds. Assumes nothing.
use Prim.Native.Nat.{◌-◌, ◌<◌}
use native.Mathlib.Omega.{arith}
use Rattle.saved.proofs.Scaling.{start_is, group_fits, group_below, number_turn, number_last, number_over, number_end}
use Rattle.saved.proofs.read.read_number.Goals as goal

pub loop-i-init : goal.loop-i-init
loop-i-init c =
    (record { below = omega arith; scale_le = omega arith }, omega arith, c.ranges.limit.fits, start_is _ _)

pub last_group-requires : goal.last_group-requires
last_group-requires c = (c.loop-i.invariant.0, c.if-b-lt128.true)

pub returns-then-b-lt128 : goal.returns-then-b-lt128
returns-then-b-lt128 c =
    number_last _ _ _ _ _ _ c.loop-i.invariant.3 _ _ c.loop-i-test.true c.wide-b.ensures.0 c.if-b-lt128.true c.last_group.ensures

pub overflow_mul-value : goal.overflow_mul-value
overflow_mul-value c = let i = c.loop-i.invariant in omega (arith, group_fits _ _ _ i.0 c.wide-b.ensures.1)

pub overflow_add-value : goal.overflow_add-value
overflow_add-value c = let i = c.loop-i.invariant in omega (arith, group_fits _ _ _ i.0 c.wide-b.ensures.1)

pub overflow_mul-scale : goal.overflow_mul-scale
overflow_mul-scale c = omega (arith, c.loop-i.invariant.0.scale_le)

pub returns-then-limit-scale : goal.returns-then-limit-scale
returns-then-limit-scale c =
    let l = c.loop-i in
    number_over _ _ _ _ _ _ l.invariant.3 _ c.loop-i-test.true c.wide-b.ensures.0 c.if-b-lt128.false l.invariant.1 c.if-limit-scale.true

pub loop-i-preserved : goal.loop-i-preserved
loop-i-preserved c =
    let l = c.loop-i in
    let inv = l.invariant in
    let a = c.args in
    let small : c.wide-b.result - 128 < 128 = omega (arith, c.wide-b.ensures.1) in (
      record { below = group_below _ _ _ inv.0.below inv.0.scale_le small; scale_le = omega (arith, inv.2) },
      omega (arith, inv.1),
      inv.2,
      number_turn a.bytes.now a.at a.limit l.value l.scale l.i inv.3 _ c.loop-i-test.true
          c.wide-b.ensures.0 c.if-b-lt128.false inv.1,
    )

pub returns : goal.returns
returns c = number_end _ _ _ _ _ _ c.loop-i.invariant.3 c.loop-i-test.false
