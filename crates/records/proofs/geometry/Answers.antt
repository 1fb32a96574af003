-- `records::geometry` meets its contract, field by field. Assumes nothing.
use Rattle.records.proofs.geometry.Goals as goal

pub returns : goal.returns
returns c = rw (c.word-2.ensures, c.word.ensures)
