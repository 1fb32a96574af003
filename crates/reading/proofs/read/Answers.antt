-- `read`: the file that is asked for is none too large.
use mathlib.Core.Path.{sym, ◌∙◌}
use Rattle.reading.proofs.Asks.{entry_size}
use Rattle.reading.proofs.read.Goals as goal

pub read_in-requires : goal.read_in-requires
read_in-requires c = entry_size _ _ _ _ (sym c.ask.ensures ∙ c.in_ok-file.was)
