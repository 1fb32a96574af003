-- What the inner functions ask of their callers, as named bounds.
use Rattle.std.specs.Prelude.{ℕ, suc, ◌+◌, ◌*◌, ◌≤◌, ◌<◌}
use Rattle.layout.specs.Numbers.{size_max}
use Rattle.layout.specs.Layout.{pointers}
use Rattle.card.specs.inner.Cards.{CardFacts}

-- A walk from index top down: each block on the way has room for the pointers of its index.
pub record Walks (B top : ℕ) : Type 0 where
  pub room : (i : ℕ) → i ≤ top → 4 * pointers i ≤ B

-- A list behind the tests: a card, and a size that is none too large.
pub record ListFacts (B N size len : ℕ) : Type 0 where
  pub card : CardFacts B N len
  pub most : size ≤ size_max

-- A lookup behind its tests: a size that is none too large, a position below it.
pub record LookupAsked (size p : ℕ) : Type 0 where
  pub most : size ≤ size_max
  pub below : p < size

-- A run of indexes of a list that can be walked, with room for their blocks.
pub record RunAsked (B top first count room : ℕ) : Type 0 where
  pub walks : Walks B top
  pub inside : first + count ≤ suc top
  pub fits : count ≤ room
  pub few : room ≤ 1024
