-- Positions and indexes of a list: which indexes a size uses, and runs of positions in one block. Assumes nothing.
use mathlib.Core.Path.{◌≡◌, refl}
use mathlib.Core.Logic.{◌⊎◌, inl, inr}
use mathlib.Core.Bool.{Bool, true, false}
use mathlib.Core.List.{List}
use Prim.Native.Nat.{ℕ, zero, suc, ◌+◌, ◌-◌, ◌^◌, ◌≤◌, ◌<◌}
use native.Mathlib.Nat.{eq-or-lt_of_le}
use native.Mathlib.Omega.{arith}
use borrow.Author.Tests.{ltb-true, ltb-false}
use lib.Dec.{ltb, leb}
use lib.ListN.{length}
use Rattle.layout.specs.Layout.{onward, index_at, offset_at, start}
use Rattle.layout.specs.inner.Served.{Served}
use Rattle.layout.proofs.Laws.{start_mono}
use Rattle.layout.proofs.Places.{start_suc, index_mono, offset_of}
use Rattle.layout.proofs.Served.{served, index_in, index_found, index_below}
use Rattle.layout.proofs.InBlock.{InBlock}
use Rattle.card.specs.inner.Cards.{CardFacts}
use Rattle.card.proofs.Cards.{card}
use Rattle.plain.specs.inner.Forms.{GoodList}

-- the index of a position is at most that of the last
pub index_le : (B size p : ℕ) → p < size → index_at B p ≤ index_at B (size - 1)
index_le B size p h = index_mono B p (size - 1) (omega arith)

onward_one : (t : Bool) (i : ℕ) → onward t i ≤ suc i
onward_one true i = omega arith
onward_one false i = omega arith

-- no index is passed over: each one up to a position's is some position's
pub index_met : (B p i : ℕ) → i ≤ index_at B p → (r : ℕ) × (r ≤ p) × (index_at B r ≡ i)
unfolding index_at
index_met B zero i h = (0, omega arith, omega arith)
index_met B (suc p) i h = go (eq-or-lt_of_le h) (index_met B p i)
  where
    go : (i ≡ index_at B (suc p)) ⊎ (i < index_at B (suc p)) → (i ≤ index_at B p → (r : ℕ) × (r ≤ p) × (index_at B r ≡ i))
        → (r : ℕ) × (r ≤ suc p) × (index_at B r ≡ i)
    go (inl e) ih = (suc p, omega arith, omega arith)
    go (inr l) ih =
        let s : index_at B (suc p) ≤ suc (index_at B p) = onward_one (leb (start B (suc (index_at B p))) (suc p)) (index_at B p) in
        let r = ih (omega arith) in
        (r.0, omega arith, r.2)

-- ---- positions that share a block

module _ (B p d : ℕ) (word : Served B (p + d)) (room : offset_at B p + d < B) where
  begun : InBlock B p (index_at B p)
  begun = index_in (served word.sized (omega (arith, word.word)))

  inside : InBlock B (p + d) (index_at B p)
  inside =
      let a = begun in
      record {
        from = omega (arith, a.from);
        until = omega (arith, a.from, a.until, start_suc B (index_at B p), offset_of B p (index_at B p) refl);
      }

  -- d positions further, still inside the block: the same index
  pub run_index : index_at B (p + d) ≡ index_at B p
  run_index = index_found word (index_at B p) inside

  -- and an offset d further
  pub run_offset : offset_at B (p + d) ≡ offset_at B p + d
  run_offset =
      let a = begun in
      omega (arith, a.from, offset_of B (p + d) (index_at B p) run_index, offset_of B p (index_at B p) refl)

-- ---- the positions of a file that no list call refuses

module _ {B N : ℕ} {image : List ℕ} {size : ℕ} (g : GoodList B N image size) where
  -- the card's numbers
  pub card_of_lem : CardFacts B N (length image)
  card_of_lem = card B N (length image) g.good

  -- each position up to the size is answered by the layout
  pub within : (p : ℕ) → p ≤ size → Served B p
  within p h = served card_of_lem.sized (omega (arith, g.fits))

  -- and lies in the block of its index
  pub in_block : (p : ℕ) → p ≤ size → InBlock B p (index_at B p)
  in_block p h = index_in (within p h)

  -- the last index is a 32-bit number
  pub top_small : 0 < size → index_at B (size - 1) < 2 ^ 32
  top_small h = omega (arith, index_below (within (size - 1) (omega arith)))

  -- an index whose data starts below the size is in use
  pub used_index : (i : ℕ) → start B i < size → i ≤ index_at B (size - 1)
  used_index i h = go (ltb (index_at B (size - 1)) i) refl
    where
      go : (u : Bool) → ltb (index_at B (size - 1)) i ≡ u → i ≤ index_at B (size - 1)
      go true e =
          absurd (omega (
            arith,
            start_mono B (suc (index_at B (size - 1))) i (ltb-true (index_at B (size - 1)) i e),
            (in_block (size - 1) (omega arith)).until,
          ))
      go false e = ltb-false (index_at B (size - 1)) i e

  -- and only such
  pub index_used : (i : ℕ) → 0 < size → i ≤ index_at B (size - 1) → start B i < size
  index_used i p h = omega (arith, start_mono B i (index_at B (size - 1)) h, (in_block (size - 1) (omega arith)).from)
