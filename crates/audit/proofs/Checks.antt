-- The list check by its cases. Assumes nothing.
use mathlib.Core.Path.{◌≡◌}
use mathlib.Core.Bool.{true, false}
use mathlib.Core.List.{List, []}
use Prim.Native.Nat.{ℕ, ◌-◌, ◌≤◌, ◌<◌}
use borrow.Author.Tests.{lt-ltb, le-ltb, eq-eqb, ne_eqb}
use lib.ListN.{length}
use Rattle.std.specs.Prelude.{None, Some, Ok, Err}
use Rattle.layout.specs.declared.Refusal.TheVariants.{Invalid}
use Rattle.layout.specs.Layout.{index_at}
use Rattle.layout.specs.inner.Served.{geometry, block_list}
use Rattle.card.specs.Card.{good_card, pointer}
use Rattle.card.specs.inner.Cards.{card_with}
use Rattle.ctz.specs.inner.Forms.{pointers_with}
use Rattle.audit.specs.declared.Fault.TheVariants.{NotNull}
use Rattle.audit.specs.Check.{falls, further, and_then, check_of}

module _ (B N : ℕ) (image : List ℕ) (head size : ℕ) where
  pub check_card : good_card (geometry B N) (length image) ≡ false → Err Invalid ≡ check_of (card_with B N image) (block_list head size)
  unfolding check_of
  check_card g = rw (check_of, g)

  module _ (g : good_card (geometry B N) (length image) ≡ true) where
    pub check_large : 2147483647 < size → Err Invalid ≡ check_of (card_with B N image) (block_list head size)
    unfolding check_of
    check_large l = rw (check_of, g, lt-ltb _ _ l)

    pub check_empty : size ≤ 2147483647 → size ≡ 0 → head ≡ 4294967295 → Ok None ≡ check_of (card_with B N image) (block_list head size)
    unfolding check_of
    check_empty l z h = rw (check_of, g, le-ltb _ _ l, eq-eqb _ _ z, eq-eqb _ _ h)

    pub check_head : size ≤ 2147483647 → size ≡ 0 → (head ≡ 4294967295 → ⊥) → Ok (Some (NotNull 0 0)) ≡ check_of (card_with B N image) (block_list head size)
    unfolding check_of
    check_head l z h = rw (check_of, g, le-ltb _ _ l, eq-eqb _ _ z, ne_eqb _ _ h)

    pub check_list : (top : ℕ) → size ≤ 2147483647 → (size ≡ 0 → ⊥) → top ≡ index_at B (size - 1)
        → Ok (and_then (falls (pointers_with N (pointer B image)) top head []) (further (pointer B image) top head)) ≡ check_of (card_with B N image) (block_list head size)
    unfolding check_of
    check_list top l z t = rw (check_of, g, le-ltb _ _ l, ne_eqb _ _ z, t)
