-- `records::word` meets its contract: the two tests are whether the four bytes are all in the list. Assumes nothing.
use native.Mathlib.Omega.{arith}
use Rattle.records.proofs.Placed.{word_out, word_in}
use Rattle.records.proofs.word.Goals as goal

pub returns-then-list-at : goal.returns-then-list-at
returns-then-list-at c = word_out _ _ _ (omega (arith, c.if-list-at.true))

pub returns-then-list-at-2 : goal.returns-then-list-at-2
returns-then-list-at-2 c = word_out _ _ _ (omega (arith, c.if-list-at.false, c.if-list-at-2.true))

pub returns : goal.returns
returns c = word_in _ _ _ _ (omega (arith, c.if-list-at.false, c.if-list-at-2.false)) c.word.ensures
