-- Lists of numbers, and maps of bits.
use Rattle.std.specs.Prelude.{Bool, false, ◌||◌, List, [], ◌∷◌, ℕ, ◌/◌, ◌%◌, ◌^◌, eqb, get_or, set}
use Rattle.std.specs.Int.Bits.{bit_or}

-- whether a number is in a list
unfoldable pub has : List ℕ → ℕ → Bool
has [] b = false
has (x ∷ xs) b = eqb x b || has xs b

-- bit k of a map, eight to a byte, low bit first: bit k % 8 of byte k / 8
abbrev pub bit_at : List ℕ → ℕ → ℕ
bit_at map k = get_or map (k / 8) 0 / 2 ^ (k % 8) % 2

abbrev pub bit_in : List ℕ → ℕ → Bool
bit_in map k = eqb (bit_at map k) 1

-- the map with that bit set
abbrev pub with_bit_in : List ℕ → ℕ → List ℕ
with_bit_in map k = set map (k / 8) (bit_or (get_or map (k / 8) 0) (2 ^ (k % 8)))
