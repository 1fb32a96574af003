-- A lookup by its cases, and what its answer tells. Assumes nothing.
use mathlib.Core.Path.{◌≡◌, sym}
use mathlib.Core.Bool.{true, false}
use mathlib.Core.List.{List}
use Prim.Native.Nat.{ℕ, suc, ◌-◌, ◌≤◌, ◌<◌}
use native.Mathlib.Omega.{arith}
use borrow.Author.Tests.{lt-ltb, le-ltb, eq-eqb, ne_eqb}
use lib.ListN.{length}
use Rattle.std.specs.Prelude.{Result, Err}
use Rattle.layout.specs.declared.Refusal.{Refusal}
use Rattle.layout.specs.declared.Refusal.TheVariants.{Invalid, Damaged}
use Rattle.layout.specs.Layout.{index_at, offset_at}
use Rattle.layout.specs.inner.Served.{geometry, block_list}
use Rattle.layout.proofs.Places.{offset_inside}
use Rattle.layout.proofs.Served.{served, index_in}
use Rattle.card.specs.Card.{good_card, pointer}
use Rattle.card.specs.inner.Cards.{CardFacts, card_with}
use Rattle.ctz.specs.declared.Found.{Found}
use Rattle.ctz.specs.Lookup.{found_at, walk, walk_to, lookup_of}
use Rattle.ctz.specs.inner.Forms.{pointers_with, target, stand}
use Rattle.ctz.specs.inner.Bounds.{LookupAsked}
use Rattle.ctz.proofs.Walked.{found_parts, Trail, lost, here, onward, trail}

module _ (B N : ℕ) (image : List ℕ) (head size p : ℕ) where
  pub lookup_card : good_card (geometry B N) (length image) ≡ false → Err Invalid ≡ lookup_of (card_with B N image) (block_list head size) p
  unfolding lookup_of
  lookup_card g = rw (lookup_of, g)

  module _ (g : good_card (geometry B N) (length image) ≡ true) where
    pub lookup_large : 2147483647 < size → Err Invalid ≡ lookup_of (card_with B N image) (block_list head size) p
    unfolding lookup_of
    lookup_large l = rw (lookup_of, g, lt-ltb _ _ l)

    pub lookup_empty : size ≤ 2147483647 → size ≡ 0 → found_at 4294967295 0 0 ≡ lookup_of (card_with B N image) (block_list head size) p
    unfolding lookup_of
    lookup_empty l z = rw (lookup_of, g, le-ltb _ _ l, eq-eqb _ _ z)

    pub lookup_past : size ≤ 2147483647 → (size ≡ 0 → ⊥) → size ≤ p → Err Invalid ≡ lookup_of (card_with B N image) (block_list head size) p
    unfolding lookup_of
    lookup_past l z h = rw (lookup_of, g, le-ltb _ _ l, ne_eqb _ _ z, le-ltb _ _ h)

    pub lookup_walks : size ≤ 2147483647 → p < size → walk_to (card_with B N image) (block_list head size) p ≡ lookup_of (card_with B N image) (block_list head size) p
    unfolding lookup_of
    lookup_walks l h =
        let z : size ≡ 0 → ⊥ = λ e. omega arith in
        rw (lookup_of, g, le-ltb _ _ l, ne_eqb _ _ z, lt-ltb _ _ h)

  -- the walk with the numbers that the code computes
  pub walk_is : (top tgt off : ℕ) → top ≡ index_at B (size - 1) → tgt ≡ index_at B p → off ≡ offset_at B p
      → walk (suc top) (pointers_with N (pointer B image)) (target tgt off) (stand top head 0) ≡ walk_to (card_with B N image) (block_list head size) p
  unfolding walk_to
  walk_is top tgt off e f o = rw (e, f, o)

-- ---- what an answer tells

-- a block that is handed back was compared with N, and the offset is the one given
pub tells : {ptr : ℕ → ℕ → ℕ} {N off tgt cur k n k' off' h : ℕ} {r : Result Found Refusal} → Trail ptr N off tgt cur k n r → r ≡ found_at k' off' h → (k' < N) × (off' ≡ off)
tells lost e = let z : ◌≡◌ {A = ℕ} 0 1 = cc in absurd (omega arith)
tells (here b l) e =
    let same = found_parts e in
    (omega (arith, same.0), sym same.1)
tells (onward b l rest) e = tells rest e

-- the walk refuses nothing but a number that is none of a block
pub answers : {ptr : ℕ → ℕ → ℕ} {N off tgt cur k n : ℕ} {r : Result Found Refusal} {e : Refusal} → Trail ptr N off tgt cur k n r → r ≡ Err e → e ≡ Damaged
answers lost q = cc
answers (here b l) q = cc
answers (onward b l rest) q = answers rest q

-- a block and an offset that a lookup behind its tests hands back
pub record Told (B N p k off : ℕ) : Type 0 where
  pub below : k < N
  pub place : off ≡ offset_at B p
  pub inside : off < B

module _ {B N size p len : ℕ} (image : List ℕ) (head : ℕ) (c : CardFacts B N len) (s : LookupAsked size p) where
  -- the way of the walk that a lookup makes
  pub found_trail : Trail (pointer B image) N (offset_at B p) (index_at B p) (index_at B (size - 1)) head 0 (walk_to (card_with B N image) (block_list head size) p)
  unfolding walk_to
  found_trail = trail (pointer B image) N (offset_at B p) (index_at B p) (suc (index_at B (size - 1))) (index_at B (size - 1)) head 0

  pub found_tells : {k off h : ℕ} → walk_to (card_with B N image) (block_list head size) p ≡ found_at k off h → Told B N p k off
  found_tells e =
      let t = tells found_trail e in
      let inside = offset_inside B p (index_in (served c.sized (omega (arith, s.most, s.below)))) in
      record { below = t.0; place = t.1; inside = omega (arith, t.1) }

  pub found_answers : {e : Refusal} → walk_to (card_with B N image) (block_list head size) p ≡ Err e → e ≡ Damaged
  found_answers q = answers found_trail q
