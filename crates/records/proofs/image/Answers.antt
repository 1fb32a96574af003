-- `records::image` meets its contract. Assumes nothing.
use Rattle.records.proofs.image.Goals as goal

pub returns : goal.returns
returns c = rw (c.part.ensures, c.place-2.ensures, c.place.ensures)
