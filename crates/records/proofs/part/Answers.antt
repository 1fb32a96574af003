-- `records::part` meets its contract: the two tests are whether the bytes are all in the list. Assumes nothing.
use native.Mathlib.Omega.{arith}
use Rattle.records.proofs.Placed.{part_out, part_in}
use Rattle.records.proofs.part.Goals as goal

pub returns-then-list-at : goal.returns-then-list-at
returns-then-list-at c = part_out _ _ _ (omega (arith, c.if-list-at.true))

pub returns-then-list-at-2 : goal.returns-then-list-at-2
returns-then-list-at-2 c = part_out _ _ _ (omega (arith, c.if-list-at.false, c.if-list-at-2.true))

pub returns : goal.returns
returns c = part_in _ _ _ (omega (arith, c.if-list-at.false, c.if-list-at-2.false))
