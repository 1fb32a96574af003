-- What a call leaves that is refused (01, "Refusal numbers"): the table as it came; for -22, -2 and -27 window and image too. Assumes nothing.
use mathlib.Core.Path.{◌≡◌, refl}
use mathlib.Core.Bool.{Bool, true, false}
use mathlib.Core.List.{List, []}
use Prim.Native.Nat.{ℕ, ◌+◌}
use borrow.Author.Tests.{ltb-true, ltb-false, eqb-true, eqb-false}
use lib.Dec.{ltb, eqb}
use lib.ListN.{length}
use Rattle.std.specs.Prelude.{Result, Ok, Err}
use Rattle.layout.specs.Numbers.{size_max, null_block}
use Rattle.layout.specs.inner.Served.{block_list}
use Rattle.layout.specs.declared.Refusal.{Refusal}
use Rattle.layout.specs.declared.Refusal.TheVariants as refusal
use Rattle.card.specs.inner.Cards.{card_with}
use Rattle.ctz.specs.declared.Found.{Found}
use Rattle.ctz.specs.Lookup.{walk_to}
use Rattle.files.specs.declared.Table.{Table}
use Rattle.files.specs.Table.{file, find_of}
use Rattle.files.specs.Change.{with_list}
use Rattle.window.specs.declared.Lookahead.{Lookahead}
use Rattle.trials.specs.Loop.{Writing, Written, NoRoom, Corrupt, WriteOut}
use Rattle.grow.specs.Setting.{tested_of}
use Rattle.grow.specs.inner.Setting.{setting, state}
use Rattle.new_list.specs.inner.Put.{puts}
use Rattle.store.specs.Store.{Answer, StoreOut, left, written, written_of, store_write, store_truncate}
use Rattle.store.specs.inner.Calls.{ask_write, ask_truncate}
use Rattle.store.specs.inner.Store.{shrunk, shrinks}
use Rattle.store.proofs.Calls as calls

-- the ways of a call: all as it came, or, behind the tests, done with another size and head of one file, -28 or -84
pub data Ends (w : Lookahead) (t : Table) (image : List ℕ) : StoreOut → Type 0 where
  kept : (a : Answer) → Ends w t image (left a w t image)
  done : (v : Lookahead) (i size head : ℕ) (after : List ℕ) → Ends w t image (left (Ok tt) v (with_list t i (record { head = head; size = size })) after)
  full : (v : Lookahead) (after : List ℕ) → Ends w t image (left (Err refusal.NoSpace) v t after)
  damaged : (v : Lookahead) (after : List ℕ) → Ends w t image (left (Err refusal.Damaged) v t after)

module _ {w : Lookahead} {t : Table} {image : List ℕ} where
  -- THEOREM. A refused call hands the table back as it came.
  pub table_kept : {o : StoreOut} → Ends w t image o → (o.answer ≡ Ok tt → ⊥) → o.state.table ≡ t
  table_kept (kept a) n = refl
  table_kept (done v i size head after) n = absurd (n refl)
  table_kept (full v after) n = refl
  table_kept (damaged v after) n = refl

  -- THEOREM. -22, -2 and -27 leave all as it came.
  pub all_kept : {o : StoreOut} → Ends w t image o → (o.answer ≡ Ok tt → ⊥) → (o.answer ≡ Err refusal.NoSpace → ⊥)
      → (o.answer ≡ Err refusal.Damaged → ⊥) → o ≡ left o.answer w t image
  all_kept (kept a) n f d = refl
  all_kept (done v i size head after) n f d = absurd (n refl)
  all_kept (full v after) n f d = absurd (f refl)
  all_kept (damaged v after) n f d = absurd (d refl)

  written_ends : (i : ℕ) (o : WriteOut Lookahead) → Ends w t image (written_of t i o)
  written_ends i o = go o.answer
    where
      go : (a : Writing) → Ends w t image (written t i a o.rest o.image)
      go (Written h s) = done _ _ _ _ _
      go NoRoom = full _ _
      go Corrupt = damaged _ _

  shrinks_ends : (B N i size : ℕ) → Ends w t image (shrinks B N image w t i size)
  unfolding shrinks
  shrinks_ends B N i size = go (eqb size 0) (walk_to (card_with B N image) (block_list _ _) _)
    where
      go : (b : Bool) (x : Result Found Refusal)
          → Ends w t image (elim b [ true ↦ left (Ok tt) w (with_list t i (record { head = null_block; size = 0 })) image | false ↦ shrunk t i size w image x ])
      go true x = done _ _ _ _ _
      go false (Ok found) = done _ _ _ _ _
      go false (Err r) = kept (Err refusal.Damaged)

module _ (B N l : ℕ) (image health : List ℕ) (w : Lookahead) (t : Table) (number : ℕ) where
  module _ (p : ℕ) (src : List ℕ) where
    pub write_ends : Ends w t image (store_write (setting B N l health) (state w t image) (ask_write number p src))
    write_ends = tested (tested_of (setting B N l health) w (length image)) refl (find_of t number) refl
      where
        sized : (e : tested_of (setting B N l health) w (length image) ≡ true) (i : ℕ) (f : find_of t number ≡ Ok i)
            → (a : Bool) → ltb size_max p ≡ a → (b : Bool) → ltb size_max (p + length src) ≡ b → (c : Bool) → eqb (length src) 0 ≡ c
            → Ends w t image (store_write (setting B N l health) (state w t image) (ask_write number p src))
        sized e i f true x b y c z = rw (calls.write_far B N l image health w t number p src e i f (ltb-true _ _ x)) (kept (Err refusal.Invalid))
        sized e i f false x true y c z =
            rw (calls.write_large B N l image health w t number p src e i f (ltb-false _ _ x) (ltb-true _ _ y)) (kept (Err refusal.TooLarge))
        sized e i f false x false y true z =
            rw (calls.write_none B N l image health w t number p src e i f (ltb-false _ _ x) (ltb-false _ _ y) (eqb-true _ _ z)) (kept (Ok tt))
        sized e i f false x false y false z =
            rw (calls.write_some B N l image health w t number p src e i f (ltb-false _ _ x) (ltb-false _ _ y) (eqb-false _ _ z)) (written_ends i (puts B N l health t (file t i) p src w image))

        tested : (a : Bool) → tested_of (setting B N l health) w (length image) ≡ a → (r : Result ℕ Refusal) → find_of t number ≡ r
            → Ends w t image (store_write (setting B N l health) (state w t image) (ask_write number p src))
        tested false e r f = rw (calls.write_untested B N l image health w t number p src e) (kept (Err refusal.Invalid))
        tested true e (Err r) f = rw (calls.write_refused B N l image health w t number p src e r f) (kept (Err r))
        tested true e (Ok i) f = sized e i f (ltb size_max p) refl (ltb size_max (p + length src)) refl (eqb (length src) 0) refl

    -- THEOREM. A write of no bytes changes nothing, the window included.
    pub write_nothing : length src ≡ 0 → store_write (setting B N l health) (state w t image) (ask_write number p src) ≡ left (store_write (setting B N l health) (state w t image) (ask_write number p src)).answer w t image
    write_nothing z = tested (tested_of (setting B N l health) w (length image)) refl (find_of t number) refl
      where
        same : (a : Answer) → store_write (setting B N l health) (state w t image) (ask_write number p src) ≡ left a w t image
            → store_write (setting B N l health) (state w t image) (ask_write number p src) ≡ left (store_write (setting B N l health) (state w t image) (ask_write number p src)).answer w t image
        same a e = rw e

        sized : (e : tested_of (setting B N l health) w (length image) ≡ true) (i : ℕ) (f : find_of t number ≡ Ok i)
            → (a : Bool) → ltb size_max p ≡ a → (b : Bool) → ltb size_max (p + length src) ≡ b
            → store_write (setting B N l health) (state w t image) (ask_write number p src) ≡ left (store_write (setting B N l health) (state w t image) (ask_write number p src)).answer w t image
        sized e i f true x b y = same (Err refusal.Invalid) (calls.write_far B N l image health w t number p src e i f (ltb-true _ _ x))
        sized e i f false x true y = same (Err refusal.TooLarge) (calls.write_large B N l image health w t number p src e i f (ltb-false _ _ x) (ltb-true _ _ y))
        sized e i f false x false y = same (Ok tt) (calls.write_none B N l image health w t number p src e i f (ltb-false _ _ x) (ltb-false _ _ y) z)

        tested : (a : Bool) → tested_of (setting B N l health) w (length image) ≡ a → (r : Result ℕ Refusal) → find_of t number ≡ r
            → store_write (setting B N l health) (state w t image) (ask_write number p src) ≡ left (store_write (setting B N l health) (state w t image) (ask_write number p src)).answer w t image
        tested false e r f = same (Err refusal.Invalid) (calls.write_untested B N l image health w t number p src e)
        tested true e (Err r) f = same (Err r) (calls.write_refused B N l image health w t number p src e r f)
        tested true e (Ok i) f = sized e i f (ltb size_max p) refl (ltb size_max (p + length src)) refl

  pub truncate_ends : (size : ℕ) → Ends w t image (store_truncate (setting B N l health) (state w t image) (ask_truncate number size))
  truncate_ends size = tested (tested_of (setting B N l health) w (length image)) refl (find_of t number) refl
    where
      sized : (e : tested_of (setting B N l health) w (length image) ≡ true) (i : ℕ) (f : find_of t number ≡ Ok i)
          → (a : Bool) → ltb size_max size ≡ a → (b : Bool) → ltb size (file t i).size ≡ b → (c : Bool) → eqb size (file t i).size ≡ c
          → Ends w t image (store_truncate (setting B N l health) (state w t image) (ask_truncate number size))
      sized e i f true x b y c z = rw (calls.truncate_far B N l image health w t number size e i f (ltb-true _ _ x)) (kept (Err refusal.Invalid))
      sized e i f false x true y c z =
          rw (calls.truncate_shrinks B N l image health w t number size e i f (ltb-false _ _ x) (ltb-true _ _ y)) (shrinks_ends B N i size)
      sized e i f false x false y true z =
          rw (calls.truncate_same B N l image health w t number size e i f (ltb-false _ _ x) (ltb-false _ _ y) (eqb-true _ _ z)) (kept (Ok tt))
      sized e i f false x false y false z =
          rw (calls.truncate_grows B N l image health w t number size e i f (ltb-false _ _ x) (ltb-false _ _ y) (eqb-false _ _ z)) (written_ends i (puts B N l health t (file t i) size [] w image))

      tested : (a : Bool) → tested_of (setting B N l health) w (length image) ≡ a → (r : Result ℕ Refusal) → find_of t number ≡ r
          → Ends w t image (store_truncate (setting B N l health) (state w t image) (ask_truncate number size))
      tested false e r f = rw (calls.truncate_untested B N l image health w t number size e) (kept (Err refusal.Invalid))
      tested true e (Err r) f = rw (calls.truncate_refused B N l image health w t number size e r f) (kept (Err r))
      tested true e (Ok i) f = sized e i f (ltb size_max size) refl (ltb size (file t i).size) refl (eqb size (file t i).size) refl
