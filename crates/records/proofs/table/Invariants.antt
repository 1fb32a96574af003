-- `records::table` meets its contract. The invariant: the files so far are in the slots. Assumes nothing.
use Rattle.records.proofs.Tables.{Filled}
use Rattle.records.proofs.table.Given as goal

abbrev pub invariant-loop-i : goal.invariant-loop-i
invariant-loop-i l = Filled l.list l.at l.count l.t.files l.i
