-- One more block in a list: the new block stands for its index, the others are as they were. Assumes nothing.
use mathlib.Core.Path.{◌≡◌, refl, sym, ap, ◌∙◌, subst}
use mathlib.Core.Logic.{◌≢◌, ◌⊎◌, inl, inr}
use mathlib.Core.Bool.{Bool, true, false}
use mathlib.Core.List.{List}
use Prim.Native.Nat.{ℕ, suc, ◌-◌, ◌^◌, ◌≤◌, ◌<◌}
use native.Mathlib.Omega.{arith}
use borrow.Author.Tests.{eq-eqb, ne_eqb, eqb-true, eqb-false}
use lib.Dec.{eqb}
use lib.Pow.{pow_pos}
use Rattle.layout.specs.Layout.{pointers, start, index_at, offset_at}
use Rattle.layout.specs.inner.Served.{BlockSized}
use Rattle.layout.proofs.Laws.{start_mono}
use Rattle.layout.proofs.Places.{offset_inside}
use Rattle.card.specs.Card.{pointer}
use Rattle.writes.proofs.Cells.{pointer_same, cell, byte_by}
use Rattle.writes.proofs.Index.{in_block, roomy, start_lt, index_is, pow_le}
use Rattle.writes.proofs.Holds.{either, used, Holds}

-- blocks f, with k for index i
unfoldable pub put : (ℕ → ℕ) → ℕ → ℕ → ℕ → ℕ
put f i k j = elim (eqb j i) [ true ↦ k | false ↦ f j ]

-- the new block stands for its index
pub put_same : (f : ℕ → ℕ) (i k : ℕ) → put f i k i ≡ k
unfolding put
put_same f i k = rw (put, eq-eqb i i refl)

-- every other index keeps its block
pub put_other : (f : ℕ → ℕ) (i k j : ℕ) → j ≢ i → put f i k j ≡ f j
unfolding put
put_other f i k j h = rw (put, ne_eqb j i h)

-- what a growth and what fills its block leave: block k stands for index i, with the old bytes from the block's first position up to s
pub record Made (B : ℕ) (img img' : List ℕ) (f : ℕ → ℕ) (k i s : ℕ) : Type 0 where
  pub others : (k' o : ℕ) → k ≢ k' → o < B → cell B img' k' o ≡ cell B img k' o
  pub heads : (x : ℕ) → x < pointers i → pointer B img' k x ≡ f (i - 2 ^ x)
  pub front : (p : ℕ) → start B i ≤ p → p < s → cell B img' k (offset_at B p) ≡ cell B img (f i) (offset_at B p)

module _ (B N : ℕ) (sized : BlockSized B) (img img' : List ℕ) (f : ℕ → ℕ) (s k i : ℕ) (h : Holds B N img f s) (ei : index_at B s ≡ i)
    (low : k < N) (free : (j : ℕ) → start B j < s → k ≢ f j) (m : Made B img img' f k i s) where
  inside : (start B i ≤ s) × (s < start B (suc i))
  inside = let a = in_block B sized s h.short in rw (← ei) (a.from, a.until)

  -- an index in use up to s' is i or was in use
  pub earlier : (s' j : ℕ) → s' ≤ start B (suc i) → start B j < s' → j ≢ i → (j < i) × (start B j < s)
  earlier s' j l u ne = go (either i j)
    where
      go : (i < j) ⊎ (j ≤ i) → (j < i) × (start B j < s)
      go (inl g) = absurd (omega (arith, start_mono B (suc i) j g))
      go (inr g) =
          let lt : j < i = omega (arith, ne) in
          (lt, omega (arith, inside.0, start_lt B sized s j i h.short inside.0 lt))

  -- A list with one more block is a list of every size up to the end of that block.
  pub grown : (s' : ℕ) → s' < 2 ^ 32 → s' ≤ start B (suc i) → Holds B N img' (put f i k) s'
  grown s' l e = record {
    short = l;
    low = λ j u. low_at j u (eqb j i) refl;
    apart = λ j j' u u' q. apart_at j j' u u' q (eqb j i) refl (eqb j' i) refl;
    points = λ j x u g. points_at j x u g (eqb j i) refl;
  }
    where
      low_at : (j : ℕ) → start B j < s' → (t : Bool) → eqb j i ≡ t → put f i k j < N
      low_at j u true q = rw (eqb-true j i q, put_same f i k) low
      low_at j u false q = rw (put_other f i k j (eqb-false j i q)) (h.low j (earlier s' j e u (eqb-false j i q)).1)

      apart_at : (j j' : ℕ) → start B j < s' → start B j' < s' → put f i k j ≡ put f i k j'
          → (t : Bool) → eqb j i ≡ t → (t' : Bool) → eqb j' i ≡ t' → j ≡ j'
      apart_at j j' u u' q true a true b = eqb-true j i a ∙ sym (eqb-true j' i b)
      apart_at j j' u u' q true a false b =
          let e₁ : put f i k j ≡ k = ap (put f i k) (eqb-true j i a) ∙ put_same f i k in
          absurd (free j' (earlier s' j' e u' (eqb-false j' i b)).1 (sym e₁ ∙ q ∙ put_other f i k j' (eqb-false j' i b)))
      apart_at j j' u u' q false a true b =
          let e₁ : put f i k j' ≡ k = ap (put f i k) (eqb-true j' i b) ∙ put_same f i k in
          absurd (free j (earlier s' j e u (eqb-false j i a)).1 (sym e₁ ∙ sym q ∙ put_other f i k j (eqb-false j i a)))
      apart_at j j' u u' q false a false b =
          h.apart j j' (earlier s' j e u (eqb-false j i a)).1 (earlier s' j' e u' (eqb-false j' i b)).1
          (sym (put_other f i k j (eqb-false j i a)) ∙ q ∙ put_other f i k j' (eqb-false j' i b))

      points_at : (j x : ℕ) → start B j < s' → x < pointers j → (t : Bool) → eqb j i ≡ t → pointer B img' (put f i k j) x ≡ put f i k (j - 2 ^ x)
      points_at j x u g true q =
          let ji = eqb-true j i q in
          let g' : x < pointers i = rw ji at g in
          let ne : i - 2 ^ x ≢ i = λ z. omega (arith, z, pow_le i x g', pow_pos x) in
          rw (ji, put_same f i k, put_other f i k (i - 2 ^ x) ne) (m.heads x g')
      points_at j x u g false q =
          let ne = eqb-false j i q in
          let a = earlier s' j e u ne in
          let ne' : j - 2 ^ x ≢ i = λ z. omega (arith, z, a.0) in
          let r = roomy B sized s j h.short (omega (arith, a.1)) in
          rw (put_other f i k j ne, put_other f i k (j - 2 ^ x) ne')
          (pointer_same B img img' (f j) (f j) x (omega arith) (λ o p p'. m.others (f j) o (free j a.1) (omega arith)) ∙ h.points j x a.1 g)

  -- its earlier bytes are as they were
  pub grown_old : (p : ℕ) → p < s → byte_by B img' (put f i k) p ≡ byte_by B img f p
  unfolding byte_by
  grown_old p l = go (eqb (index_at B p) i) refl
    where
      l32 : p < 2 ^ 32
      l32 = omega (arith, h.short)

      go : (t : Bool) → eqb (index_at B p) i ≡ t → cell B img' (put f i k (index_at B p)) (offset_at B p) ≡ cell B img (f (index_at B p)) (offset_at B p)
      go true q =
          let e = eqb-true (index_at B p) i q in
          rw (e, put_same f i k) (m.front p (subst (λ (z : ℕ). start B z ≤ p) e (in_block B sized p l32).from) l)
      go false q =
          rw (put_other f i k (index_at B p) (eqb-false (index_at B p) i q))
          (m.others (f (index_at B p)) (offset_at B p) (free (index_at B p) (used B N sized p s l h.short)) (offset_inside B p (in_block B sized p l32)))

  -- its further bytes are the new block's
  pub grown_new : (p : ℕ) → s ≤ p → p < start B (suc i) → p < 2 ^ 32 → byte_by B img' (put f i k) p ≡ cell B img' k (offset_at B p)
  unfolding byte_by
  grown_new p l u b =
      ap (λ (z : ℕ). cell B img' z (offset_at B p)) (ap (put f i k) (index_is B sized p i b (omega (arith, inside.0)) u) ∙ put_same f i k)
