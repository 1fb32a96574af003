-- A write or truncate of one file, case by case, and the change of the table at its end. Assumes nothing.
use mathlib.Core.Path.{◌≡◌, refl, ap, ◌∙◌}
use mathlib.Core.Bool.{Bool, true, false}
use mathlib.Core.List.{List, []}
use Prim.Native.Nat.{ℕ, ◌+◌, ◌-◌, ◌≤◌, ◌<◌}
use borrow.Author.Tests.{lt-ltb, le-ltb, eq-eqb, ne_eqb}
use lib.Dec.{eqb}
use lib.ListN.{length}
use Rattle.std.specs.Prelude.{Result, Ok, Err}
use Rattle.layout.specs.Numbers.{size_max, null_block}
use Rattle.layout.specs.inner.Served.{block_list}
use Rattle.layout.specs.declared.Refusal.{Refusal}
use Rattle.layout.specs.declared.Refusal.TheVariants as refusal
use Rattle.card.specs.inner.Cards.{card_with}
use Rattle.ctz.specs.declared.Found.{Found}
use Rattle.ctz.specs.Lookup.{walk_to}
use Rattle.files.specs.declared.Table.{Table}
use Rattle.files.specs.Table.{file}
use Rattle.files.specs.Change.{with_list}
use Rattle.window.specs.declared.Lookahead.{Lookahead}
use Rattle.trials.specs.Loop.{Writing, Written, NoRoom, Corrupt, WriteOut}
use Rattle.old_list.specs.Write.{zeros}
use Rattle.new_list.specs.inner.Put.{Wrote, wrote_of, WroteGives, puts}
use Rattle.new_list.proofs.Puts.{puts_as_gap}
use Rattle.store.specs.declared.Stored.{Stored}
use Rattle.store.specs.Store.{Answer, stored_of, StoreOut, left, written, written_of}
use Rattle.store.specs.inner.Store.{stays, write_file, shrunk, shrinks, truncate_file}
use Rattle.store.specs.inner.Gives.{StoreGives}
use Rattle.store.specs.inner.Calls.{finish_of}

pub gives : {o : StoreOut} {a : Answer} {w : Lookahead} {t : Table} {image : List ℕ} {r : Stored} → o ≡ left a w t image → r ≡ stays a w t
    → StoreGives o r image
gives e f = rw (e, f) (record { stored = refl; image = refl })

-- ---- the table changes last

pub finishes : (t : Table) (i : ℕ) {o : WriteOut Lookahead} {r : Wrote} {after : List ℕ} {s : Stored} → WroteGives o r after
    → s ≡ finish_of t i r.answer r.window → StoreGives (written_of t i o) s after
finishes t i {o} {r} {after} {s} g e = rw (e, g.answer, g.window, g.image) (go o.answer)
  where
    go : (a : Writing) → StoreGives (written t i a o.rest o.image) (finish_of t i (wrote_of a) o.rest) o.image
    go (Written h z) = record { stored = refl; image = refl }
    go NoRoom = record { stored = refl; image = refl }
    go Corrupt = record { stored = refl; image = refl }

-- ---- write

module _ (B N l : ℕ) (image health : List ℕ) (w : Lookahead) (t : Table) (i p : ℕ) (src : List ℕ) where
  pub file_far : size_max < p → write_file B N l image health w t i p src ≡ left (Err refusal.Invalid) w t image
  unfolding write_file
  file_far h = rw (write_file, lt-ltb size_max p h)

  module _ (h : p ≤ size_max) where
    pub file_large : size_max < p + length src → write_file B N l image health w t i p src ≡ left (Err refusal.TooLarge) w t image
    unfolding write_file
    file_large m = rw (write_file, le-ltb size_max p h, lt-ltb size_max (p + length src) m)

    module _ (m : p + length src ≤ size_max) where
      pub file_none : length src ≡ 0 → write_file B N l image health w t i p src ≡ left (Ok tt) w t image
      unfolding write_file
      file_none z = rw (write_file, le-ltb size_max p h, le-ltb size_max (p + length src) m, eq-eqb (length src) 0 z)

      pub file_some : (length src ≡ 0 → ⊥)
          → write_file B N l image health w t i p src ≡ written_of t i (puts B N l health t (file t i) p src w image)
      unfolding write_file
      file_some z = rw (write_file, le-ltb size_max p h, le-ltb size_max (p + length src) m, ne_eqb (length src) 0 z)

-- ---- shrinking

module _ (B N : ℕ) (image : List ℕ) (w : Lookahead) (t : Table) (i size : ℕ) where
  -- to 0
  pub shrinks_none : size ≡ 0 → shrinks B N image w t i size ≡ left (Ok tt) w (with_list t i (record { head = null_block; size = 0 })) image
  unfolding shrinks
  shrinks_none z = rw (shrinks, eq-eqb size 0 z)

  pub shrinks_some : (size ≡ 0 → ⊥)
      → shrinks B N image w t i size ≡ shrunk t i size w image (walk_to (card_with B N image) (block_list (file t i).head (file t i).size) (size - 1))
  unfolding shrinks
  shrinks_some z = rw (shrinks, ne_eqb size 0 z)

  pub shrinks_empty : {u : Table} → size ≡ 0 → u ≡ with_list t i (record { head = null_block; size = 0 })
      → stays (Ok tt) w u ≡ stored_of (shrinks B N image w t i size)
  shrinks_empty z f = rw (shrinks_none z, f)

  module _ (z : size ≡ 0 → ⊥) {x : Result Found Refusal} (g : x ≡ walk_to (card_with B N image) (block_list (file t i).head (file t i).size) (size - 1)) where
    pub shrinks_found : {found : Found} {u : Table} → x ≡ Ok found → u ≡ with_list t i (record { head = found.block; size = size })
        → stays (Ok tt) w u ≡ stored_of (shrinks B N image w t i size)
    shrinks_found e f = rw (shrinks_some z, ← g, e, f)

    pub shrinks_refused : {r : Refusal} → x ≡ Err r → stays (Err refusal.Damaged) w t ≡ stored_of (shrinks B N image w t i size)
    shrinks_refused e = rw (shrinks_some z, ← g, e)

  -- card and window stay as they were
  pub shrinks_keeps : ((shrinks B N image w t i size).state.image ≡ image) × ((shrinks B N image w t i size).state.window ≡ w)
  unfolding shrinks
  shrinks_keeps = go (eqb size 0) (walk_to (card_with B N image) (block_list (file t i).head (file t i).size) (size - 1))
    where
      pick : Bool → Result Found Refusal → StoreOut
      pick b x = elim b [ true ↦ left (Ok tt) w (with_list t i (record { head = null_block; size = 0 })) image | false ↦ shrunk t i size w image x ]

      go : (b : Bool) (x : Result Found Refusal) → ((pick b x).state.image ≡ image) × ((pick b x).state.window ≡ w)
      go true x = (refl, refl)
      go false (Ok found) = (refl, refl)
      go false (Err refusal) = (refl, refl)

-- ---- truncate

module _ (B N l : ℕ) (image health : List ℕ) (w : Lookahead) (t : Table) (i size : ℕ) where
  pub cut_far : size_max < size → truncate_file B N l image health w t i size ≡ left (Err refusal.Invalid) w t image
  unfolding truncate_file
  cut_far h = rw (truncate_file, lt-ltb size_max size h)

  module _ (h : size ≤ size_max) where
    pub cut_shrinks : size < (file t i).size → truncate_file B N l image health w t i size ≡ shrinks B N image w t i size
    unfolding truncate_file
    cut_shrinks m = rw (truncate_file, le-ltb size_max size h, lt-ltb size (file t i).size m)

    module _ (m : (file t i).size ≤ size) where
      pub cut_same : size ≡ (file t i).size → truncate_file B N l image health w t i size ≡ left (Ok tt) w t image
      unfolding truncate_file
      cut_same z = rw (truncate_file, le-ltb size_max size h, le-ltb size (file t i).size m, eq-eqb size (file t i).size z)

      pub cut_more : (size ≡ (file t i).size → ⊥)
          → truncate_file B N l image health w t i size
          ≡ written_of t i (puts B N l health t (file t i) (file t i).size (zeros (size - (file t i).size)) w image)
      unfolding truncate_file
      cut_more z = rw (truncate_file, le-ltb size_max size h, le-ltb size (file t i).size m, ne_eqb size (file t i).size z)

      -- its zeros are a gap
      pub cut_grows : (size ≡ (file t i).size → ⊥)
          → truncate_file B N l image health w t i size ≡ written_of t i (puts B N l health t (file t i) size [] w image)
      cut_grows z = cut_more z ∙ ap (written_of t i) (puts_as_gap B N l health t (file t i) size w image m)
