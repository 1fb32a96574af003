-- A step of a visit by its cases, and how a visit begins. Assumes nothing.
use mathlib.Core.Path.{◌≡◌}
use mathlib.Core.Bool.{true, false}
use mathlib.Core.List.{List}
use Prim.Native.Nat.{ℕ, ◌-◌, ◌%◌, ◌≤◌, ◌<◌}
use borrow.Author.Tests.{lt-ltb, le-ltb, eq-eqb, ne_eqb}
use lib.ListN.{length}
use Rattle.std.specs.Prelude.{None, Some, Ok, Err}
use Rattle.layout.specs.declared.Refusal.TheVariants.{Invalid, Damaged}
use Rattle.layout.specs.Geometry.{card_fits}
use Rattle.layout.specs.Layout.{index_at}
use Rattle.layout.specs.inner.Served.{geometry, block_list}
use Rattle.card.specs.Card.{good_card, pointer}
use Rattle.card.specs.inner.Cards.{card_with}
use Rattle.ctz.specs.declared.visit.Visit.{Visit}
use Rattle.ctz.specs.Visits.{handing, step_of, traverse_of, begin_of}
use Rattle.ctz.specs.inner.Forms.{pointers_with}
use Rattle.ctz.specs.inner.Held.{visit_at}

module _ (ptr : ℕ → ℕ → ℕ) (N : ℕ) (v : Visit) where
  pub step_damaged : N ≤ v.block → Err Damaged ≡ step_of (pointers_with N ptr) v
  unfolding step_of
  step_damaged h = rw (step_of, le-ltb v.block N h)

  pub step_last : v.block < N → v.index ≡ 0 → handing v.block None ≡ step_of (pointers_with N ptr) v
  unfolding step_of
  step_last h e = rw (step_of, lt-ltb v.block N h, eq-eqb v.index 0 e)

  -- above index 0: the number that is held
  pub step_held : {held : ℕ} → v.block < N → (v.index ≡ 0 → ⊥) → v.after ≡ Some held
      → handing v.block (Some (record { index = v.index - 1; block = held; after = None })) ≡ step_of (pointers_with N ptr) v
  unfolding step_of
  step_held h e t = rw (step_of, lt-ltb v.block N h, ne_eqb v.index 0 e, t)

  -- one pointer at an odd index
  pub step_odd : (q : ℕ) → v.block < N → (v.index ≡ 0 → ⊥) → v.after ≡ None → v.index % 2 ≡ 1 → q ≡ ptr v.block 0
      → handing v.block (Some (record { index = v.index - 1; block = q; after = None })) ≡ step_of (pointers_with N ptr) v
  unfolding step_of
  step_odd q h e t o r = rw (step_of, lt-ltb v.block N h, ne_eqb v.index 0 e, t, eq-eqb (v.index % 2) 1 o, r)

  -- two at an even one
  pub step_even : (q q' : ℕ) → v.block < N → (v.index ≡ 0 → ⊥) → v.after ≡ None → (v.index % 2 ≡ 1 → ⊥)
      → q ≡ ptr v.block 0 → q' ≡ ptr v.block 1
      → handing v.block (Some (record { index = v.index - 1; block = q; after = Some q' })) ≡ step_of (pointers_with N ptr) v
  unfolding step_of
  step_even q q' h e t o r r' = rw (step_of, lt-ltb v.block N h, ne_eqb v.index 0 e, t, ne_eqb (v.index % 2) 1 o, r, r')

module _ (B N : ℕ) (image : List ℕ) (v : Visit) where
  pub traverse_refused : good_card (geometry B N) (length image) ≡ false → Err Invalid ≡ traverse_of (card_with B N image) v
  unfolding traverse_of
  traverse_refused g = rw (traverse_of, g)

  pub traverse_steps : good_card (geometry B N) (length image) ≡ true → step_of (pointers_with N (pointer B image)) v ≡ traverse_of (card_with B N image) v
  unfolding traverse_of
  traverse_steps g = rw (traverse_of, g)

module _ (B N head size : ℕ) where
  pub begin_refused : card_fits (geometry B N) ≡ false → Err Invalid ≡ begin_of (geometry B N) (block_list head size)
  unfolding begin_of
  begin_refused g = rw (begin_of, g)

  module _ (g : card_fits (geometry B N) ≡ true) where
    pub begin_large : 2147483647 < size → Err Invalid ≡ begin_of (geometry B N) (block_list head size)
    unfolding begin_of
    begin_large l = rw (begin_of, g, lt-ltb _ _ l)

    pub begin_empty : size ≤ 2147483647 → size ≡ 0 → Ok None ≡ begin_of (geometry B N) (block_list head size)
    unfolding begin_of
    begin_empty l z = rw (begin_of, g, le-ltb _ _ l, eq-eqb _ _ z)

    pub begin_at : (top : ℕ) → size ≤ 2147483647 → (size ≡ 0 → ⊥) → top ≡ index_at B (size - 1)
        → Ok (Some (visit_at head top)) ≡ begin_of (geometry B N) (block_list head size)
    unfolding begin_of
    begin_at top l z t = rw (begin_of, g, le-ltb _ _ l, ne_eqb _ _ z, t)
