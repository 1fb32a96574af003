-- What the inner functions ask of their callers, as named bounds.
use Rattle.std.specs.Prelude.{List, ℕ, ◌≤◌, ◌<◌}
use Rattle.card.specs.Card.{pointer}
use Rattle.ctz.specs.Lists.{down}
use Rattle.ctz.specs.inner.Bounds.{Walks}
use Rattle.audit.specs.Check.{Holder}

-- A clean pointer-0 walk of i steps from block k: the blocks have room for their pointers, and every number on the way is below N.
pub record CleanWalk (image : List ℕ) (B N i k : ℕ) : Type 0 where
  pub walks : Walks B i
  pub below : (e : ℕ) → e ≤ i → down (pointer B image) k e < N

-- An index that holds pointers, in block k of such a walk.
pub record Holding (image : List ℕ) (B N i k : ℕ) : Type 0 where
  pub above : 0 < i
  pub clean : CleanWalk image B N i k

-- index, block
abbrev pub holder : ℕ → ℕ → Holder
holder i k = record { index = i; block = k }
