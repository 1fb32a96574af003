-- `records::window` meets its contract, field by field. Assumes nothing.
use Rattle.records.proofs.window.Goals as goal

pub returns : goal.returns
returns c =
    rw (
      c.word-4.ensures,
      c.word-3.ensures,
      c.word-2.ensures,
      c.word.ensures,
      c.map-bytes.ensures,
      c.place.ensures,
    )
