-- `ctz::run::led` meets its contract: a walk, or one pointer of the block that the walk passes through last. Assumes nothing.
use Prim.Native.Nat.{◌+◌}
use native.Mathlib.Omega.{arith}
use Rattle.layout.proofs.Bits.{trailing_lt}
use Rattle.ctz.proofs.Runs.{near_asked, near_found, near_lost}
use borrow.Author.Rules.{rules}
use Rattle.ctz.proofs.run.led.Goals as goal

pub overflow_add-i : goal.overflow_add-i
overflow_add-i c = omega (arith, c.requires.next, c.requires.asked.inside, c.ranges.top.fits)

pub power-d-requires : goal.power-d-requires
power-d-requires c = let a = c.args in omega (arith, trailing_lt 32 32 (a.first + a.j) (omega arith) (search rules))

pub pointer-block-requires : goal.pointer-block-requires
pointer-block-requires c =
    near_asked c.requires c.power-d.result (omega arith) c.power-d.ensures (omega arith) c.ranges.top.fits
    c.args.card.facts (omega arith)

pub returns-then-card-block : goal.returns-then-card-block
returns-then-card-block c =
    let p = c.power-d in
    near_lost c.requires p.result (omega arith) p.ensures (omega arith) c.ranges.top.fits (omega (arith, c.pointer-block.ensures))

pub returns : goal.returns
returns c =
    let p = c.power-d in
    rw c.pointer-block.ensures (near_found c.requires p.result (omega arith) p.ensures (omega arith) c.ranges.top.fits (omega (arith, c.pointer-block.ensures)))
