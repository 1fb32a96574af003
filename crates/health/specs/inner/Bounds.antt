-- What the test of the health bytes says of a run of them.
use Rattle.std.specs.Prelude.{List, ℕ, ◌+◌, ◌*◌, ◌≤◌, ◌<◌, get_or}
use Rattle.std.specs.Int.Bits.{bit_or}

-- t ORed with four bytes, q places apart from place a on
unfoldable pub or_four : List ℕ → ℕ → ℕ → ℕ → ℕ
or_four hs a q t = bit_or (bit_or (bit_or (bit_or t (get_or hs a 0)) (get_or hs (a + q) 0)) (get_or hs (a + 2 * q) 0)) (get_or hs (a + 3 * q) 0)

-- no byte from place a up to place e is above t
pub record NoneAbove (hs : List ℕ) (a e t : ℕ) : Type 0 where
  pub below : (i : ℕ) → a ≤ i → i < e → get_or hs i 0 ≤ t
