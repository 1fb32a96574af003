-- A card by plain numbers, what is known of it, and what a pointer is asked with.
use Rattle.std.specs.Prelude.{◌≡◌, List, ℕ, ◌+◌, ◌*◌, ◌≤◌, ◌<◌}
use Rattle.layout.specs.inner.Served.{BlockSized}
use Rattle.card.specs.Card.{Card}

-- block size, block count, image
abbrev pub card_with : ℕ → ℕ → List ℕ → Card
card_with B N image = record { B = B; N = N; image = image }

-- what the test of a card tells, of an image of len bytes
pub record CardFacts (B N len : ℕ) : Type 0 where
  pub sized : BlockSized B
  pub high : B ≤ 65536
  pub some : 0 < N
  pub few : N ≤ 65536
  pub whole : B * N ≤ 16777216
  pub long : len ≡ B * N

-- a pointer lies in its block, and the block in the image
pub record PointerAsked (B k x len : ℕ) : Type 0 where
  pub stored : x * 4 + 4 ≤ B
  pub inside : k * B + B ≤ len
