-- A range by plain numbers, and what no list call refuses.
use Rattle.std.specs.Prelude.{◌≡◌, true, List, ℕ, ◌≤◌, length}
use Rattle.layout.specs.Numbers.{size_max}
use Rattle.layout.specs.inner.Served.{geometry}
use Rattle.card.specs.Card.{good_card}
use Rattle.plain.specs.Reading.{Range}

-- position, length
abbrev pub range : ℕ → ℕ → Range
range p n = record { position = p; length = n }

-- An image and a size that no list call refuses with -22: a card, and a size up to the largest.
pub record GoodList (B N : ℕ) (image : List ℕ) (size : ℕ) : Type 0 where
  pub good : good_card (geometry B N) (length image) ≡ true
  pub fits : size ≤ size_max
