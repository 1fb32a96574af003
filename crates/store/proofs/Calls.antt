-- write and truncate by their cases, in the order of the tests; behind them, what the inner functions leave. Assumes nothing.
use mathlib.Core.Path.{◌≡◌, ◌∙◌}
use mathlib.Core.Bool.{true, false}
use mathlib.Core.List.{List, []}
use Prim.Native.Nat.{ℕ, ◌+◌, ◌-◌, ◌≤◌, ◌<◌}
use lib.ListN.{length}
use Rattle.std.specs.Prelude.{Ok, Err}
use Rattle.layout.specs.Numbers.{size_max}
use Rattle.layout.specs.declared.Refusal.{Refusal}
use Rattle.layout.specs.declared.Refusal.TheVariants as refusal
use Rattle.files.specs.declared.Table.{Table}
use Rattle.files.specs.Table.{file, find_of}
use Rattle.window.specs.declared.Lookahead.{Lookahead}
use Rattle.grow.specs.Setting.{tested_of}
use Rattle.grow.specs.inner.Setting.{setting, state}
use Rattle.old_list.specs.Write.{zeros}
use Rattle.new_list.specs.inner.Put.{puts}
use Rattle.store.specs.Store.{StoreOut, left, written_of, at_file, store_write, store_truncate}
use Rattle.store.specs.inner.Store.{write_file, shrinks, truncate_file}
use Rattle.store.specs.inner.Calls.{ask_write, ask_truncate}
use Rattle.store.proofs.Files as files
use Rattle.store.proofs.Tested.{asked}
use Rattle.store.proofs.Same.{file_same, size_same}

-- ---- write

module _ (B N l : ℕ) (image health : List ℕ) (w : Lookahead) (t : Table) (number p : ℕ) (src : List ℕ) where
  abbrev pub write_call : StoreOut
  write_call = store_write (setting B N l health) (state w t image) (ask_write number p src)

  pub write_untested : tested_of (setting B N l health) w (length image) ≡ false → write_call ≡ left (Err refusal.Invalid) w t image
  unfolding store_write at_file tested_of
  write_untested e = rw (store_write, at_file, e)

  module _ (e : tested_of (setting B N l health) w (length image) ≡ true) where
    pub write_refused : (r : Refusal) → find_of t number ≡ Err r → write_call ≡ left (Err r) w t image
    unfolding store_write at_file tested_of
    write_refused r f = rw (store_write, at_file, e, f)

    module _ (i : ℕ) (f : find_of t number ≡ Ok i) where
      pub write_found : write_call ≡ write_file B N l image health w t i p src
      unfolding store_write at_file tested_of
      write_found = rw (store_write, at_file, e, f) (file_same B N l image health w t i (asked B N l image health w t number i e f) number p src)

      pub write_far : size_max < p → write_call ≡ left (Err refusal.Invalid) w t image
      write_far h = write_found ∙ files.file_far B N l image health w t i p src h

      module _ (h : p ≤ size_max) where
        pub write_large : size_max < p + length src → write_call ≡ left (Err refusal.TooLarge) w t image
        write_large m = write_found ∙ files.file_large B N l image health w t i p src h m

        module _ (m : p + length src ≤ size_max) where
          pub write_none : length src ≡ 0 → write_call ≡ left (Ok tt) w t image
          write_none z = write_found ∙ files.file_none B N l image health w t i p src h m z

          pub write_some : (length src ≡ 0 → ⊥)
              → write_call ≡ written_of t i (puts B N l health t (file t i) p src w image)
          write_some z = write_found ∙ files.file_some B N l image health w t i p src h m z

-- ---- truncate

module _ (B N l : ℕ) (image health : List ℕ) (w : Lookahead) (t : Table) (number size : ℕ) where
  abbrev pub truncate_call : StoreOut
  truncate_call = store_truncate (setting B N l health) (state w t image) (ask_truncate number size)

  pub truncate_untested : tested_of (setting B N l health) w (length image) ≡ false → truncate_call ≡ left (Err refusal.Invalid) w t image
  unfolding store_truncate at_file tested_of
  truncate_untested e = rw (store_truncate, at_file, e)

  module _ (e : tested_of (setting B N l health) w (length image) ≡ true) where
    pub truncate_refused : (r : Refusal) → find_of t number ≡ Err r → truncate_call ≡ left (Err r) w t image
    unfolding store_truncate at_file tested_of
    truncate_refused r f = rw (store_truncate, at_file, e, f)

    module _ (i : ℕ) (f : find_of t number ≡ Ok i) where
      pub truncate_found : truncate_call ≡ truncate_file B N l image health w t i size
      unfolding store_truncate at_file tested_of
      truncate_found = rw (store_truncate, at_file, e, f) (size_same B N l image health w t i (asked B N l image health w t number i e f) number size)

      pub truncate_far : size_max < size → truncate_call ≡ left (Err refusal.Invalid) w t image
      truncate_far h = truncate_found ∙ files.cut_far B N l image health w t i size h

      module _ (h : size ≤ size_max) where
        pub truncate_shrinks : size < (file t i).size → truncate_call ≡ shrinks B N image w t i size
        truncate_shrinks m = truncate_found ∙ files.cut_shrinks B N l image health w t i size h m

        module _ (m : (file t i).size ≤ size) where
          pub truncate_same : size ≡ (file t i).size → truncate_call ≡ left (Ok tt) w t image
          truncate_same z = truncate_found ∙ files.cut_same B N l image health w t i size h m z

          pub truncate_more : (size ≡ (file t i).size → ⊥)
              → truncate_call
              ≡ written_of t i (puts B N l health t (file t i) (file t i).size (zeros (size - (file t i).size)) w image)
          truncate_more z = truncate_found ∙ files.cut_more B N l image health w t i size h m z

          pub truncate_grows : (size ≡ (file t i).size → ⊥)
              → truncate_call ≡ written_of t i (puts B N l health t (file t i) size [] w image)
          truncate_grows z = truncate_found ∙ files.cut_grows B N l image health w t i size h m z
