-- `saved::read::read_files` meets its contract. The invariant: the files read so far are in the slots, and the rest of the bytes is still to be read. Assumes nothing.
use Rattle.saved.proofs.Files.{Filled}
use Rattle.saved.proofs.read.read_files.Given as goal

abbrev pub invariant-loop-i : goal.invariant-loop-i
invariant-loop-i l = Filled l.bytes l.at l.count l.t.files l.least l.p l.i
