-- `records::table` meets its contract. The invariant: the files so far are in the slots. Assumes nothing.
use Rattle.records.proofs.Tables.{filled_start, filled_turn, filled_end, too_many}
use Rattle.records.proofs.table.Goals as goal

pub returns-then-count-gt-MOST : goal.returns-then-count-gt-MOST
returns-then-count-gt-MOST c = too_many _ _ _ _ c.word-count.ensures c.empty-t.ensures c.if-count-gt-MOST.true

pub loop-i-init : goal.loop-i-init
loop-i-init c = filled_start _ _ _ _ c.word-count.ensures c.empty-t.ensures c.if-count-gt-MOST.false

pub loop-i-preserved : goal.loop-i-preserved
loop-i-preserved c =
    filled_turn _ _ _ _ _ _ _ c.loop-i.invariant c.loop-i-test.true
    c.word.ensures c.word-in-loop-i.ensures

pub returns : goal.returns
returns c = filled_end _ _ _ _ _ c.loop-i.invariant c.loop-i-test.false
