-- Which health bytes there are, one a block, and what each does: "0 good; 1 refuses erase; 2 refuses its first program; others are invalid".
use Rattle.std.specs.Prelude.{Bool, true, ◌&&◌, List, [], ◌∷◌, ℕ, eqb, leb, length, get_or}
use Rattle.layout.specs.Layout.{BlockNumber}

-- every byte is 0, 1 or 2
unfoldable pub each_valid : List ℕ → Bool
each_valid [] = true
each_valid (h ∷ hs) = leb h 2 && each_valid hs

-- the health slice of a card of N blocks
unfoldable pub health_ok : List ℕ → ℕ → Bool
health_ok health N = eqb (length health) N && each_valid health

-- "1 refuses erase and keeps its bytes"
abbrev pub refuses_erase : List ℕ → BlockNumber → Bool
refuses_erase health k = eqb (get_or health k 0) 1

-- "2 erases, then refuses its first program and stays 0xFF throughout"
abbrev pub refuses_program : List ℕ → BlockNumber → Bool
refuses_program health k = eqb (get_or health k 0) 2
