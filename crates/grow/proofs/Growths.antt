-- The nested growth puts the bytes of the trial's growth into the block. Assumes nothing.
use mathlib.Core.Path.{◌≡◌, refl, sym, ap, ◌∙◌}
use mathlib.Core.Logic.{◌⊎◌, inl, inr}
use mathlib.Core.Bool.{Bool, true, false}
use mathlib.Core.List.{List, []}
use Prim.Native.Nat.{ℕ, zero, suc, ◌*◌, ◌^◌, ◌≤◌, ◌<◌}
use native.Mathlib.Omega.{arith}
use borrow.Author.Tests.{ltb-true, eqb-true, eq-eqb, ne_eqb}
use lib.Dec.{ltb, eqb}
use lib.ListN.{length}
use Rattle.layout.specs.Layout.{pointers, start, index_at, offset_at}
use Rattle.layout.specs.inner.Served.{BlockSized}
use Rattle.layout.proofs.Places.{offset_inside, offset_past, next_place, Same, Next}
use Rattle.layout.proofs.Served.{served, index_in}
use Rattle.card.specs.inner.Cards.{CardFacts}
use Rattle.device.specs.Device.{stored}
use Rattle.trials.specs.Trial.{Trial, Whole, Fault, ends, whole}
use Rattle.trials.specs.Loop.{Candidate}
use Rattle.trials.proofs.Laws.{try_at}
use Rattle.grow.specs.Growth.{index, offset, Link, links, growth}
use Rattle.grow.specs.inner.Grow.{part, link_of}
use Rattle.grow.proofs.Pointed.{part_block, part_length, given, links_nested, links_length, links_lost, links_some, links_ends, pointers_some}

-- ---- the growth

-- it is whole, or ends in a fault
pub growth_ends : (q : Candidate) (img : List ℕ) → ((growth q img).ending ≡ Whole) ⊎ ((growth q img).ending ≡ Fault)
unfolding growth
growth_ends q img = by (eqb (offset q) (4 * pointers (index q))) refl (ltb q.head q.N) refl
  where
    by : (t : Bool) → eqb (offset q) (4 * pointers (index q)) ≡ t → (u : Bool) → ltb q.head q.N ≡ u
        → ((growth q img).ending ≡ Whole) ⊎ ((growth q img).ending ≡ Fault)
    by true e u f = rw (growth, e) (links_ends q (pointers (index q)) _ img)
    by false e true f = inl (rw (growth, e, f) refl)
    by false e false f = inr (rw (growth, e, f) refl)

-- the first pointer names the head
abbrev first : ℕ → Link
first h = record { x = 0; names = h }

module _ (B N k h : ℕ) (sized : BlockSized B) where
  pub offset_le : (s : ℕ) → s < 2 ^ 32 → offset_at B s ≤ B
  offset_le s l = omega (arith, offset_inside B s (index_in (served sized l)))

  -- a full last block, and an incomplete one
  grown_links : (p : ℕ) (img : List ℕ) → Next B p → growth (try_at B N k h (suc p)) img ≡ links (try_at B N k h (suc p)) (pointers (suc (index_at B p))) (first h) img
  unfolding growth
  grown_links p img n =
      let e : offset_at B (suc p) ≡ 4 * pointers (index_at B (suc p)) = n.offset ∙ ap (λ (i : ℕ). 4 * pointers i) (sym n.index) in
      let t : eqb (offset_at B (suc p)) (4 * pointers (index_at B (suc p))) ≡ true = eq-eqb _ _ e in
      rw (growth, t) (ap (λ (i : ℕ). links (try_at B N k h (suc p)) (pointers i) (first h) img) n.index)

  grown_copy : (p : ℕ) (img : List ℕ) → suc p < 2 ^ 32 → Same B p
      → growth (try_at B N k h (suc p)) img ≡ elim (ltb h N) [ true ↦ whole (part B h 0 (offset_at B (suc p)) img) | false ↦ ends Fault ]
  unfolding growth
  grown_copy p img l s =
      let i = ap (λ (i : ℕ). 4 * pointers i) s.index in
      let t : eqb (offset_at B (suc p)) (4 * pointers (index_at B (suc p))) ≡ false = ne_eqb (offset_at B (suc p)) (4 * pointers (index_at B (suc p))) (λ z. omega (arith, offset_past B p, s.offset)) in
      let d = part_block B h 0 (offset_at B (suc p)) img (omega (arith, offset_le (suc p) l)) in
      rw (growth, t) (ap (λ (v : List ℕ). elim (ltb h N) [ true ↦ whole v | false ↦ ends Fault ]) d)

  place_of : (p : ℕ) → suc p < 2 ^ 32 → Same B p ⊎ Next B p
  place_of p l = next_place B p (index_in (served sized (omega arith)))

  module _ {W : Type 0} (w : W) (img : List ℕ) where
    link_first : link_of B N k h 0 img w ≡ given (try_at B N k h 0) (offset_at B 0) 0 (growth (try_at B N k h 0) img) img w
    unfolding link_of growth links index_at offset_at pointers start stored
    link_first = refl

    link_next : (p : ℕ) → suc p < 2 ^ 32 → link_of B N k h (suc p) img w ≡ given (try_at B N k h (suc p)) (offset_at B (suc p)) 0 (growth (try_at B N k h (suc p)) img) img w
    unfolding link_of stored
    link_next p l = by (ltb h N) refl (place_of p l)
      where
        -- the growth's bytes are t
        with_bytes : (t : Trial) → growth (try_at B N k h (suc p)) img ≡ t → link_of B N k h (suc p) img w ≡ given (try_at B N k h (suc p)) (offset_at B (suc p)) 0 t img w
            → link_of B N k h (suc p) img w ≡ given (try_at B N k h (suc p)) (offset_at B (suc p)) 0 (growth (try_at B N k h (suc p)) img) img w
        with_bytes t e g = g ∙ ap (λ (u : Trial). given (try_at B N k h (suc p)) (offset_at B (suc p)) 0 u img w) (sym e)

        by : (t : Bool) → ltb h N ≡ t → Same B p ⊎ Next B p
            → link_of B N k h (suc p) img w ≡ given (try_at B N k h (suc p)) (offset_at B (suc p)) 0 (growth (try_at B N k h (suc p)) img) img w
        by false e (inl s) =
            let g : growth (try_at B N k h (suc p)) img ≡ ends Fault = grown_copy p img l s ∙ rw e refl in
            with_bytes (ends Fault) g (rw (link_of, e) refl)
        by false e (inr n) =
            let g : growth (try_at B N k h (suc p)) img ≡ ends Fault = grown_links p img n ∙ links_lost (try_at B N k h (suc p)) _ (first h) img (pointers_some (index_at B p)) e in
            with_bytes (ends Fault) g (rw (link_of, e) refl)
        by true e (inl s) =
            let i = offset_inside B (suc p) (index_in (served sized l)) in
            let f : eqb (suc (offset_at B p)) B ≡ false = ne_eqb (suc (offset_at B p)) B (λ z. omega (arith, s.offset)) in
            let g : growth (try_at B N k h (suc p)) img ≡ whole (part B h 0 (offset_at B (suc p)) img) = grown_copy p img l s ∙ rw e refl in
            with_bytes (whole (part B h 0 (offset_at B (suc p)) img)) g (rw (link_of, e, f, s.offset) refl)
        by true e (inr n) =
            let f : eqb (suc (offset_at B p)) B ≡ true = eq-eqb _ _ n.full in
            with_bytes (links (try_at B N k h (suc p)) (pointers (suc (index_at B p))) (first h) img) (grown_links p img n)
            (rw (link_of, e, f, n.offset) (links_nested (try_at B N k h (suc p)) (4 * pointers (suc (index_at B p))) w (pointers (suc (index_at B p))) (first h) img))

    -- the nested growth in block k
    pub link_nested : (s : ℕ) → s < 2 ^ 32 → link_of B N k h s img w ≡ given (try_at B N k h s) (offset_at B s) 0 (growth (try_at B N k h s) img) img w
    link_nested zero l = link_first
    link_nested (suc p) l = link_next p l

  module _ (img : List ℕ) (c : CardFacts B N (length img)) where
    -- where the growth is whole, the data goes on at the position's offset
    pub growth_length : (s : ℕ) → s < 2 ^ 32 → (growth (try_at B N k h s) img).ending ≡ Whole → length (growth (try_at B N k h s) img).bytes ≡ offset_at B s
    unfolding growth
    growth_length s l w = by (eqb (offset_at B s) (4 * pointers (index_at B s))) refl (ltb h N) refl
      where
        by : (t : Bool) → eqb (offset_at B s) (4 * pointers (index_at B s)) ≡ t → (u : Bool) → ltb h N ≡ u → length (growth (try_at B N k h s) img).bytes ≡ offset_at B s
        by true e u f =
            let r : (links (try_at B N k h s) (pointers (index_at B s)) (first h) img).ending ≡ Whole = rw (growth, e) at w in
            rw (growth, e) (links_length (try_at B N k h s) (pointers (index_at B s)) (first h) img r ∙ sym (eqb-true (offset_at B s) (4 * pointers (index_at B s)) e))
        by false e true f =
            let o = offset_le s l in
            rw (growth, e, f, part_block B h 0 (offset_at B s) img (omega arith)) (part_length B N h (offset_at B s) img c (ltb-true h N f) o)
        by false e false f =
            let z : Fault ≡ Whole = rw (growth, e, f) at w in
            let y : ◌≡◌ {A = ℕ} 0 1 = cc in
            absurd (omega arith)

    -- behind a list with a head it has bytes
    pub growth_some : (p : ℕ) → suc p < 2 ^ 32 → ltb h N ≡ true → 0 < length (growth (try_at B N k h (suc p)) img).bytes
    growth_some p l e = by (place_of p l)
      where
        by : Same B p ⊎ Next B p → 0 < length (growth (try_at B N k h (suc p)) img).bytes
        by (inl s) =
            let g : growth (try_at B N k h (suc p)) img ≡ whole (part B h 0 (offset_at B (suc p)) img) = grown_copy p img l s ∙ rw e refl in
            rw g (omega (arith, part_length B N h (offset_at B (suc p)) img c (ltb-true h N e) (offset_le (suc p) l), s.offset))
        by (inr n) = rw (grown_links p img n) (links_some (try_at B N k h (suc p)) _ (first h) img (pointers_some (index_at B p)) e)

  -- and without one it is a fault at once
  pub growth_lost : (p : ℕ) (img : List ℕ) → suc p < 2 ^ 32 → ltb h N ≡ false → growth (try_at B N k h (suc p)) img ≡ ends Fault
  growth_lost p img l e = by (place_of p l)
    where
      by : Same B p ⊎ Next B p → growth (try_at B N k h (suc p)) img ≡ ends Fault
      by (inl s) = grown_copy p img l s ∙ rw e refl
      by (inr n) = grown_links p img n ∙ links_lost (try_at B N k h (suc p)) _ (first h) img (pointers_some (index_at B p)) e

  -- the first block has none
  pub growth_first : (img : List ℕ) → growth (try_at B N k h 0) img ≡ whole []
  unfolding growth links index_at offset_at pointers start
  growth_first img = refl
