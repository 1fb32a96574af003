-- The blocks of a run: indexes of one list that stand together, each with the block that its lookup finds.
use Rattle.std.specs.Prelude.{◌≡◌, List, Result, Ok, Err, ℕ, suc, ◌+◌, ◌≤◌, ◌<◌, length, get_or}
use Rattle.layout.specs.declared.Refusal.{Refusal}
use Rattle.layout.specs.declared.Refusal.TheVariants.{Damaged}
use Rattle.ctz.specs.declared.Found.{Found}
use Rattle.ctz.specs.Lookup.{found_at, walk}
use Rattle.ctz.specs.inner.Forms.{pointers_with, target, stand}
use Rattle.ctz.specs.inner.Bounds.{RunAsked}

-- the lookup of index i, in the list with that head at index top
abbrev pub seek : (ℕ → ℕ → ℕ) → ℕ → ℕ → ℕ → ℕ → Result Found Refusal
seek ptr N head top i = walk (suc top) (pointers_with N ptr) (target i 0) (stand top head 0)

-- the block that a lookup hands over
abbrev pub block_found : Result Found Refusal → Result ℕ Refusal
block_found (Ok found) = Ok found.block
block_found (Err refusal) = Err refusal

-- that lookup finds block k
abbrev pub Finds : (ℕ → ℕ → ℕ) → ℕ → ℕ → ℕ → ℕ → ℕ → Type 0
Finds ptr N head top i k = (h : ℕ) × (seek ptr N head top i ≡ found_at k 0 h)

-- the blocks of the run's indexes from first + j on are known
abbrev pub RunFound : (ℕ → ℕ → ℕ) → ℕ → ℕ → ℕ → ℕ → ℕ → List ℕ → ℕ → Type 0
RunFound ptr N head top first count blocks j = (m : ℕ) → j ≤ m → m < count → Finds ptr N head top (first + m) (get_or blocks m 0)

-- A run whose indexes past first + j are known.
pub record RunKnown (ptr : ℕ → ℕ → ℕ) (B N head top first count j : ℕ) (blocks : List ℕ) : Type 0 where
  pub asked : RunAsked B top first count (length blocks)
  pub next : j < count
  pub known : RunFound ptr N head top first count blocks (suc j)

-- A lookup of one of the indexes from `first` on, below first + count, meets -84.
abbrev pub RunLost : (ℕ → ℕ → ℕ) → ℕ → ℕ → ℕ → ℕ → ℕ → Type 0
RunLost ptr N head top first count = (j : ℕ) × ((j < count) × (seek ptr N head top (first + j) ≡ Err Damaged))

-- A run of `count` indexes from `first` on: all are found, and `blocks` begins with their blocks; or some lookup meets -84.
pub record RunGives (ptr : ℕ → ℕ → ℕ) (N head top first count room : ℕ) (whole : Result (Unit {0}) Refusal) (blocks : List ℕ) : Type 0 where
  pub long : length blocks ≡ room
  pub found : whole ≡ Ok tt → (j : ℕ) → j < count → Finds ptr N head top (first + j) (get_or blocks j 0)
  pub lost : (e : Refusal) → whole ≡ Err e → (e ≡ Damaged) × RunLost ptr N head top first count
