-- Allocators that come to an end. Assumes nothing.
use mathlib.Core.Path.{◌≡◌}
use mathlib.Core.List.{List}
use Prim.Native.Nat.{ℕ, ◌<◌}
use Rattle.trials.specs.Loop.{Took, Block}

-- from a state that is in order each block that is handed out leaves one that is, with fewer tries
pub record Falls {W : Type 0} (alloc : W → List ℕ → Took W) (Ok : W → Type 0) (tries : W → ℕ) : Type 0 where
  pub next : (w w' : W) (img : List ℕ) (k : ℕ) → Ok w → alloc w img ≡ Block k w' → Ok w'
  pub less : (w w' : W) (img : List ℕ) (k : ℕ) → Ok w → alloc w img ≡ Block k w' → tries w' < tries w
