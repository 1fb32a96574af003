-- `stretch_place`: the file that is asked for is none too large.
use mathlib.Core.Path.{sym, ◌∙◌}
use Rattle.reading.proofs.Asks.{entry_size}
use Rattle.reading.proofs.stretch_place.Goals as goal

pub place_in-requires : goal.place_in-requires
place_in-requires c = entry_size _ _ _ _ (sym c.ask.ensures ∙ c.in_ok-file.was)
