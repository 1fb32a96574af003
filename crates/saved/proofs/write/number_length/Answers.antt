-- `saved::write::number_length` meets its contract. The invariant: the groups passed and those left are all. Assumes nothing.
use mathlib.Core.Path.{◌≡◌, refl}
use native.Mathlib.Omega.{arith}
use lib.ListN.{length}
use Rattle.saved.specs.Save.{groups}
use Rattle.saved.proofs.Numbers.{length_last, length_more, counted_five}
use Rattle.saved.proofs.write.number_length.Goals as goal

pub loop-m-init : goal.loop-m-init
loop-m-init c = (refl, omega arith)

pub overflow_add-k : goal.overflow_add-k
overflow_add-k c = omega (arith, c.loop-m.invariant.1, c.ranges.n.fits)

pub loop-m-smaller : goal.loop-m-smaller
loop-m-smaller c = omega arith

pub loop-m-preserved : goal.loop-m-preserved
loop-m-preserved c =
    let inv = c.loop-m.invariant in
    (omega (arith, inv.0, length_more c.loop-m.m c.loop-m-test.true), omega (arith, inv.1))

pub returns : goal.returns
returns c =
    let is : c.loop-m.k ≡ length (groups c.args.n) = omega (arith, c.loop-m.invariant.0, length_last c.loop-m.m c.loop-m-test.false) in
    counted_five _ _ c.ranges.n.fits is
