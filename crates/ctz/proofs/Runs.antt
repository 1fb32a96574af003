-- A run found from its last index down: each block by one pointer of a block found before, or by a walk. Assumes nothing.
use mathlib.Core.Path.{◌≡◌, refl, sym, ap, ◌∙◌}
use mathlib.Core.Logic.{⊎_elim}
use mathlib.Core.List.{List}
use Prim.Native.Nat.{ℕ, suc, ◌+◌, ◌^◌, ◌≤◌, ◌<◌}
use native.Mathlib.Nat.{eq-or-lt_of_le}
use native.Mathlib.Omega.{arith}
use lib.ListN.{length, get_or, set}
use lib.Pow.{pow_pos}
use lib.Seq.{get_or-set_same, get_or-set_other}
use Rattle.std.specs.Prelude.{Result, Ok, Err}
use Rattle.layout.specs.declared.Refusal.{Refusal}
use Rattle.layout.specs.declared.Refusal.TheVariants.{Damaged}
use Rattle.hops.specs.Walk.{ctz}
use Rattle.hops.proofs.Through.{pick_last}
use Rattle.card.specs.inner.Cards.{CardFacts, PointerAsked}
use Rattle.ctz.specs.declared.Found.{Found}
use Rattle.ctz.specs.inner.Runs.{seek, block_found, Finds, RunFound, RunKnown, RunGives}
use Rattle.ctz.proofs.Room.{asked}
use Rattle.ctz.proofs.Walked.{trail, pick_stored}
use Rattle.ctz.proofs.Through.{through_at, through_lost}
use Rattle.ctz.proofs.Lookups.{tells, answers}

-- ---- what the block of a lookup tells

module _ (ptr : ℕ → ℕ → ℕ) (N head top i : ℕ) where
  -- a block is the one that the lookup finds
  pub block_finds : {k : ℕ} → Ok k ≡ block_found (seek ptr N head top i) → Finds ptr N head top i k
  block_finds {k} e = go (seek ptr N head top i) refl e
    where
      go : (w : Result Found Refusal) → seek ptr N head top i ≡ w → Ok k ≡ block_found w → Finds ptr N head top i k
      go (Ok f) q e =
          let t = tells (trail ptr N 0 i (suc top) top head 0) q in
          let o : f.offset ≡ 0 = t.1 in
          let b : f.block ≡ k = cc in
          (f.hops, q ∙ rw (o, b) refl)
      go (Err r) q e = let z : ◌≡◌ {A = ℕ} 0 1 = cc in absurd (omega arith)

  -- no block: the lookup meets -84
  pub block_lost : {r : Refusal} → Err r ≡ block_found (seek ptr N head top i) → (r ≡ Damaged) × (seek ptr N head top i ≡ Err Damaged)
  block_lost {r} e = go (seek ptr N head top i) refl e
    where
      go : (w : Result Found Refusal) → seek ptr N head top i ≡ w → Err r ≡ block_found w → (r ≡ Damaged) × (seek ptr N head top i ≡ Err Damaged)
      go (Ok f) q e = let z : ◌≡◌ {A = ℕ} 0 1 = cc in absurd (omega arith)
      go (Err r') q e =
          let a = answers (trail ptr N 0 i (suc top) top head 0) q in
          (cc, q ∙ ap Err a)

-- ---- one pointer instead of a walk

-- Index first + j where the index d above it, which its lookup passes through last, lies in the run.
module _ {ptr : ℕ → ℕ → ℕ} {B N head top first count j : ℕ} {blocks : List ℕ} (s : RunKnown ptr B N head top first count j blocks)
    (d : ℕ) (some : 0 < first + j) (jump : d ≡ 2 ^ ctz (first + j)) (within : j + d < count) (small : top < 2 ^ 32) where
  abbrev i : ℕ
  i = first + j

  place : first + (j + d) ≡ i + 2 ^ ctz i
  place = omega arith

  inside : i + 2 ^ ctz i ≤ top
  inside = omega (arith, s.asked.inside)

  block : Finds ptr N head top (i + 2 ^ ctz i) (get_or blocks (j + d) 0)
  block = rw (sym place) (s.known (j + d) (omega (arith, jump, pow_pos (ctz i))) within)

  -- the block there has the pointers that index first + j has
  pub near_asked : {x len : ℕ} → CardFacts B N len → x ≤ ctz (first + j) → PointerAsked B (get_or blocks (j + d) 0) x len
  near_asked c l =
      let stored = pick_stored (i + 2 ^ ctz i) i in
      asked {i = i + 2 ^ ctz i} c s.asked.walks (omega arith) inside (omega (arith, stored, pick_last i some (omega (arith, inside))))
      (tells (trail ptr N 0 (i + 2 ^ ctz i) (suc top) top head 0) block.1).0

  -- and the last of those is what a walk takes
  pub near_found : ptr (get_or blocks (j + d) 0) (ctz (first + j)) < N
      → Ok (ptr (get_or blocks (j + d) 0) (ctz (first + j))) ≡ block_found (seek ptr N head top (first + j))
  near_found l = sym (ap block_found (through_at ptr N head top i (get_or blocks (j + d) 0) block.0 small some inside block.1 l))

  pub near_lost : N ≤ ptr (get_or blocks (j + d) 0) (ctz (first + j)) → Err Damaged ≡ block_found (seek ptr N head top (first + j))
  near_lost l = sym (ap block_found (through_lost ptr N head top i (get_or blocks (j + d) 0) block.0 small some inside block.1 l))

-- ---- the run from index first + j on

module _ (ptr : ℕ → ℕ → ℕ) (N head top first count : ℕ) (blocks : List ℕ) where
  pub known_none : RunFound ptr N head top first count blocks count
  known_none m l h = absurd (omega arith)

  -- one more, below those
  pub known_more : (i j k : ℕ) → i ≤ j + 1 → j < length blocks → RunFound ptr N head top first count blocks i → Finds ptr N head top (first + j) k
      → RunFound ptr N head top first count (set blocks j k) j
  known_more i j k next room old new m l h = ⊎_elim same other (eq-or-lt_of_le l)
    where
      same : j ≡ m → Finds ptr N head top (first + m) (get_or (set blocks j k) m 0)
      same e = rw (sym e, get_or-set_same blocks j k 0 room) new

      other : j < m → Finds ptr N head top (first + m) (get_or (set blocks j k) m 0)
      other b = rw (get_or-set_other blocks j m k 0 (λ e. omega arith)) (old m (omega arith) h)

  pub known_all : (j : ℕ) {room : ℕ} → length blocks ≡ room → j ≤ 0 → RunFound ptr N head top first count blocks j
      → RunGives ptr N head top first count room (Ok tt) blocks
  known_all j e z k = record { long = e; found = λ e m h. k m (omega arith) h; lost = λ r e. let z : ◌≡◌ {A = ℕ} 0 1 = cc in absurd (omega arith) }

  pub run_lost : (j : ℕ) {room : ℕ} {r : Refusal} → length blocks ≡ room → j < count → Err r ≡ block_found (seek ptr N head top (first + j))
      → RunGives ptr N head top first count room (Err r) blocks
  run_lost j l h e =
      let m = block_lost ptr N head top (first + j) e in
      record {
        long = l;
        found = λ e. let z : ◌≡◌ {A = ℕ} 0 1 = cc in absurd (omega arith);
        lost = λ r e. let same = m.0 in (cc, (j, (h, m.1)));
      }
