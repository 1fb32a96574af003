-- A call's records, by their parts.
use Rattle.std.specs.Prelude.{List, ℕ}
use Rattle.files.specs.declared.Table.{Table}
use Rattle.window.specs.declared.Lookahead.{Lookahead}
use Rattle.grow.specs.Setting.{Setting, State}

abbrev pub setting : ℕ → ℕ → ℕ → List ℕ → Setting
setting B N l health = record { B = B; N = N; L = l; health = health }

abbrev pub state : Lookahead → Table → List ℕ → State
state w t image = record { window = w; table = t; image = image }
