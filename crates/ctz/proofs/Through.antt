-- The lookups of two indexes of one list: that of i passes through the block of i + 2 ^ ctz i, and pointer ctz i of it is its last hop.
-- On damaged lists too. And the offset that a walk is to answer does not lead it. Assumes nothing.
use mathlib.Core.Path.{◌≡◌, refl, ap, ◌∙◌}
use mathlib.Core.Bool.{Bool, true, false}
use Prim.Native.Nat.{ℕ, zero, suc, ◌+◌, ◌-◌, ◌^◌, ◌≤◌, ◌<◌}
use native.Mathlib.Omega.{arith}
use lib.Dec.{ltb}
use lib.Pow.{pow_pos}
use Rattle.std.specs.Prelude.{Result, Ok, Err}
use Rattle.layout.specs.declared.Refusal.{Refusal}
use Rattle.layout.specs.declared.Refusal.TheVariants.{Damaged}
use Rattle.hops.specs.Walk.{ctz, jump}
use Rattle.hops.specs.inner.Ways.{way}
use Rattle.hops.proofs.Greedy.{pick_best}
use Rattle.hops.proofs.Through.{pick_through, pick_last, pick_next}
use Rattle.ctz.specs.declared.Found.{Found}
use Rattle.ctz.specs.Lookup.{found_at, walk}
use Rattle.ctz.specs.inner.Forms.{pointers_with, target, stand}
use Rattle.ctz.specs.inner.Runs.{seek}
use Rattle.ctz.proofs.Walked.{walk_damaged, walk_at, walk_hop, found_parts, Trail, lost, here, onward, trail}

-- ---- the offset

-- the same answer with another offset
abbrev pub placed : ℕ → Result Found Refusal → Result Found Refusal
placed off (Ok found) = found_at found.block off found.hops
placed off (Err refusal) = Err refusal

module _ (ptr : ℕ → ℕ → ℕ) (N : ℕ) where
  pub walk_placed : (o off f tgt cur k n : ℕ) → walk f (pointers_with N ptr) (target tgt off) (stand cur k n) ≡ placed off (walk f (pointers_with N ptr) (target tgt o) (stand cur k n))
  unfolding walk
  walk_placed o off zero tgt cur k n = refl
  walk_placed o off (suc f) tgt cur k n =
      go (ltb k N) (ltb tgt cur) _ _ (walk_placed o off f tgt (cur - 2 ^ jump (way cur tgt)) (ptr k (jump (way cur tgt))) (suc n))
    where
      go : (b t : Bool) (r s : Result Found Refusal) → r ≡ placed off s
          → elim b [ false ↦ Err Damaged | true ↦ elim t [ false ↦ found_at k off n | true ↦ r ] ]
          ≡ placed off (elim b [ false ↦ Err Damaged | true ↦ elim t [ false ↦ found_at k o n | true ↦ s ] ])
      go false t r s e = refl
      go true false r s e = refl
      go true true r s e = e

  module _ (o off f tgt cur k n : ℕ) where
    -- a walk with another offset ends at the same block after as many hops
    pub walk_offset : {k' o' h : ℕ} → walk f (pointers_with N ptr) (target tgt o) (stand cur k n) ≡ found_at k' o' h → walk f (pointers_with N ptr) (target tgt off) (stand cur k n) ≡ found_at k' off h
    walk_offset e = walk_placed o off f tgt cur k n ∙ ap (placed off) e

-- ---- from one index to another

-- the index one hop above
abbrev above : ℕ → ℕ
above i = i + 2 ^ ctz i

module _ (ptr : ℕ → ℕ → ℕ) (N off i : ℕ) (p : 0 < i) (k' o' h : ℕ) {s : Result Found Refusal}
    (lands : (f : ℕ) → walk (suc f) (pointers_with N ptr) (target i off) (stand i (ptr k' (ctz i)) (suc h)) ≡ s) where
  -- at the block above: the last hop
  last : (f k n : ℕ) → above i ≤ f → above i < 2 ^ 32 → k < N → found_at k off n ≡ found_at k' o' h → walk (suc f) (pointers_with N ptr) (target i off) (stand (above i) k n) ≡ s
  last zero k n l w b e = absurd (omega arith)
  last (suc f) k n l w b e =
      let same = found_parts e in
      let e₃ : above i - 2 ^ ctz i ≡ i = omega arith in
      walk_hop (suc f) ptr N off i (above i) k n b (omega (arith, pow_pos (ctz i))) ∙ rw (pick_last i p w, e₃, same.0, same.2) (lands f)

  -- the walk to the block above, from any index on the way, and then the last hop
  through : {cur k n : ℕ} {r : Result Found Refusal} → Trail ptr N off (above i) cur k n r → r ≡ found_at k' o' h → (f : ℕ) → above i ≤ cur → cur ≤ f → cur < 2 ^ 32
      → walk (suc f) (pointers_with N ptr) (target i off) (stand cur k n) ≡ s
  through lost e f a l w = let z : ◌≡◌ {A = ℕ} 0 1 = cc in absurd (omega arith)
  through {cur} {k} {n} (here b c) e f a l w = let q : cur ≡ above i = omega arith in rw q (last f k n (omega arith) (omega arith) b e)
  through {cur} {k} {n} (onward b c rest) e zero a l w = absurd (omega arith)
  through {cur} {k} {n} (onward b c rest) e (suc f) a l w =
      let r = (pick_best cur (above i) w c).reach in
      let o = pow_pos (jump (way cur (above i))) in
      walk_hop (suc f) ptr N off i cur k n b (omega arith)
      ∙ rw (pick_through cur i w p c) (through rest e f (omega arith) (omega arith) (omega arith))

module _ (ptr : ℕ → ℕ → ℕ) (N head top : ℕ) where
  module _ (i k h : ℕ) (w : top < 2 ^ 32) (p : 0 < i) (l : i + 2 ^ ctz i ≤ top) (e : seek ptr N head top (i + 2 ^ ctz i) ≡ found_at k 0 h) where
    -- THEOREM. The block of index i is what the block found for i + 2 ^ ctz i stores as its pointer ctz i,
    pub through_at : ptr k (ctz i) < N → seek ptr N head top i ≡ found_at (ptr k (ctz i)) 0 (suc h)
    through_at b =
        through ptr N 0 i p k 0 h (λ f. walk_at f ptr N 0 i i (ptr k (ctz i)) (suc h) b (omega arith))
        (trail ptr N 0 (i + 2 ^ ctz i) (suc top) top head 0) e top l (omega arith) w

    -- and the lookup meets -84 where that number is none of a block.
    pub through_lost : N ≤ ptr k (ctz i) → seek ptr N head top i ≡ Err Damaged
    through_lost b =
        through ptr N 0 i p k 0 h (λ f. walk_damaged f ptr N 0 i i (ptr k (ctz i)) (suc h) b)
        (trail ptr N 0 (i + 2 ^ ctz i) (suc top) top head 0) e top l (omega arith) w

-- ---- the index before the head's

module _ (ptr : ℕ → ℕ → ℕ) (N off i head : ℕ) (w : suc i < 2 ^ 32) (b : head < N) where
  next : walk (suc (suc i)) (pointers_with N ptr) (target i off) (stand (suc i) head 0) ≡ walk (suc i) (pointers_with N ptr) (target i off) (stand i (ptr head 0) 1)
  next =
      let e : suc i - 1 ≡ i = omega arith in
      walk_hop (suc i) ptr N off i (suc i) head 0 b (omega arith) ∙ rw (pick_next i w, e) refl

  -- its block is the head's pointer 0,
  pub next_at : ptr head 0 < N → walk (suc (suc i)) (pointers_with N ptr) (target i off) (stand (suc i) head 0) ≡ found_at (ptr head 0) off 1
  next_at l = next ∙ walk_at i ptr N off i i (ptr head 0) 1 l (omega arith)

  -- and the lookup meets -84 where that is none
  pub next_lost : N ≤ ptr head 0 → walk (suc (suc i)) (pointers_with N ptr) (target i off) (stand (suc i) head 0) ≡ Err Damaged
  next_lost l = next ∙ walk_damaged i ptr N off i i (ptr head 0) 1 l
