-- What a write asks of an allocator, whatever its state W is: four laws; and what its count of blocks asks: three.
use mathlib.Core.Path.{◌≡◌}
use mathlib.Core.Bool.{true, false}
use mathlib.Core.Logic.{◌≢◌, ◌⊎◌}
use mathlib.Core.List.{List, [], ◌∷◌}
use Prim.Native.Nat.{ℕ, suc, ◌<◌}
use lib.ListN.{length}
use Rattle.card.specs.inner.Cards.{CardFacts}
use Rattle.health.specs.Health.{refuses_erase, refuses_program}
use Rattle.trials.specs.Loop.{Took, Block, None, Bad}
use Rattle.writes.proofs.Cells.{cell}

-- block k is among those of a list: `has` of that list is true (demands: `in_has`), said with its place
abbrev pub In : ℕ → List ℕ → Type 0
In k [] = ⊥
In k (x ∷ xs) = (x ≡ k) ⊎ In k xs

-- the blocks that must stand: the listed ones, L, and those handed out in this call
abbrev pub MustStand : (ℕ → Type 0) → List ℕ → ℕ → Type 0
MustStand L out k = L k ⊎ In k out

-- the frame: every byte of every block with P is as before
abbrev pub Stays : ℕ → (ℕ → Type 0) → List ℕ → List ℕ → Type 0
Stays B P img img' = (k o : ℕ) → P k → o < B → cell B img' k o ≡ cell B img k o

-- What an allocated block k is: below N, neither listed nor handed out in this call; and the tries left fall.
pub record Allotted {W : Type 0} (N : ℕ) (tries : W → ℕ) (L : ℕ → Type 0) (Ok : W → List ℕ → List ℕ → Type 0)
    (w w' : W) (out img : List ℕ) (k : ℕ) : Type 0 where
  pub low : k < N
  pub new : (k' : ℕ) → MustStand L out k' → k ≢ k'
  pub ok : Ok w' (k ∷ out) img
  pub fewer : tries w' < tries w

-- Ok w out img: w is in order, the blocks out were handed out in this call, and img is the image as it stands.
pub record Allocator {W : Type 0} (B N : ℕ) (tries : W → ℕ) (alloc : W → List ℕ → Took W)
    (L : ℕ → Type 0) (Ok : W → List ℕ → List ℕ → Type 0) : Type 0 where
  pub taken : (w w' : W) (out img : List ℕ) (k : ℕ) → Ok w out img → alloc w img ≡ Block k w'
      → Allotted N tries L Ok w w' out img k
  pub none : (w w' : W) (out img : List ℕ) → Ok w out img → alloc w img ≡ None w' → Ok w' out img
  pub never : (w w' : W) (out img : List ℕ) → Ok w out img → alloc w img ≡ Bad w' → ⊥
  -- the listed blocks are all that it looks at
  pub frame : (w : W) (out img img' : List ℕ) → Ok w out img → CardFacts B N (length img') → Stays B L img img' → Ok w out img'

-- For the count, on any list, sound or not: L are blocks that are never handed out, and goods w is the number of good blocks that are yet to come.
pub record Drawn {W : Type 0} (N : ℕ) (health : List ℕ) (tries : W → ℕ) (L : ℕ → Type 0) (Ok : W → List ℕ → Type 0) (goods : W → ℕ)
    (w w' : W) (img : List ℕ) (k : ℕ) : Type 0 where
  pub low : k < N
  pub new : (k' : ℕ) → L k' → k ≢ k'
  pub ok : Ok w' img
  pub fewer : tries w' < tries w
  -- one good block less, if this one takes an erase and a program
  pub refused : refuses_erase health k ≡ true → goods w ≡ goods w'
  pub spoilt : refuses_erase health k ≡ false → refuses_program health k ≡ true → goods w ≡ goods w'
  pub good : refuses_erase health k ≡ false → refuses_program health k ≡ false → goods w ≡ suc (goods w')

-- An allocation may also fail; End holds where it is short of blocks.
pub record Counter {W : Type 0} (B N : ℕ) (health : List ℕ) (tries : W → ℕ) (alloc : W → List ℕ → Took W)
    (L : ℕ → Type 0) (Ok : W → List ℕ → Type 0) (goods : W → ℕ) (End : W → List ℕ → Type 0) : Type 0 where
  pub taken : (w w' : W) (img : List ℕ) (k : ℕ) → Ok w img → alloc w img ≡ Block k w' → Drawn N health tries L Ok goods w w' img k
  pub none : (w w' : W) (img : List ℕ) → Ok w img → alloc w img ≡ None w' → (goods w ≡ 0) × End w' img
  -- the blocks L are all that it looks at
  pub frame : (w : W) (img img' : List ℕ) → Ok w img → CardFacts B N (length img') → Stays B L img img' → Ok w img'
