-- A write or truncate of one file, behind the tests: the loop's definitions are the nested ones, which the inner functions meet. Assumes nothing.
use mathlib.Core.Path.{◌≡◌, refl, sym, ap, ◌∙◌}
use mathlib.Core.Bool.{Bool, true, false}
use mathlib.Core.List.{List}
use Prim.Native.Nat.{ℕ, zero, suc, ◌+◌, ◌-◌, ◌≤◌, ◌<◌}
use native.Mathlib.Omega.{arith}
use borrow.Author.Tests.{ltb-false, eqb-false}
use lib.Dec.{ltb, eqb}
use lib.ListN.{length, length-replicate}
use Rattle.layout.specs.Numbers.{size_max}
use Rattle.layout.specs.inner.Served.{block_list}
use Rattle.card.specs.inner.Cards.{card_with}
use Rattle.std.specs.Prelude.{Result, Ok, Err}
use Rattle.layout.specs.declared.Refusal.{Refusal}
use Rattle.ctz.specs.declared.Found as ctz
use Rattle.ctz.specs.Lookup.{walk_to}
use Rattle.files.specs.declared.Table.{Table}
use Rattle.files.specs.Table.{file, list_of}
use Rattle.window.specs.declared.Lookahead.{Lookahead}
use Rattle.window.specs.Value.{checkpoint_of}
use Rattle.window.proofs.Kept.{checkpoint_valid}
use Rattle.trials.specs.Loop.{Flash, write_out}
use Rattle.grow.specs.inner.Setting.{setting, state}
use Rattle.grow.specs.inner.Extend.{window_alloc}
use Rattle.grow.proofs.Same.{window_falls}
use Rattle.old_list.specs.Write.{zeros, kept, wanted, looked, first_head, job_of}
use Rattle.old_list.specs.inner.Lookups.{look_in}
use Rattle.new_list.specs.inner.Write.{put_of}
use Rattle.new_list.specs.inner.Put.{puts}
use Rattle.store.specs.Store.{look_on, put_on, written_of, write_at, cut_down, truncate_at}
use Rattle.store.specs.inner.Store.{write_file, shrunk, shrinks, truncate_file}
use Rattle.store.specs.inner.Calls.{ask_write, ask_truncate, CallAsked}
use Rattle.store.proofs.Files.{shrinks_some}
use Rattle.store.proofs.Equal.{write_same}

module _ (B N l : ℕ) (image health : List ℕ) (w : Lookahead) (t : Table) (i : ℕ) (a : CallAsked B N l image health w t i) where
  pub put_same : (p : ℕ) (src : List ℕ) → p + length src ≤ size_max → 0 < p + length src
      → put_on (setting B N l health) (state w t image) (job_of (file t i) p src) ≡ puts B N l health t (file t i) p src w image
  unfolding put_on puts put_of window_alloc
  put_same p src h o = by (looked (look_in B N (file t i) image) (wanted B (job_of (file t i) p src))) refl
    where
      c : Flash Lookahead
      c = record { B = B; N = N; health = health; alloc = window_alloc B N l t }

      by : (x : Bool) → looked (look_in B N (file t i) image) (wanted B (job_of (file t i) p src)) ≡ x
          → put_on (setting B N l health) (state w t image) (job_of (file t i) p src) ≡ puts B N l health t (file t i) p src w image
      by false e = rw (put_on, puts, put_of, e) refl
      by true e =
          rw (put_on, puts, put_of, e)
          (sym (write_same (look_in B N (file t i)) (λ (v : Lookahead). v.ckpoint) c (job_of (file t i) p src) (omega (arith, a.most)) (window_falls B N l t) o
          (suc N) (suc N) (first_head (look_in B N (file t i) image) (kept (job_of (file t i) p src))) (kept (job_of (file t i) p src)) image (checkpoint_of N w)
          a.ready.card (checkpoint_valid a.ready.window) (omega arith) (omega arith)))

  -- a write to the file
  pub file_same : (number p : ℕ) (src : List ℕ)
      → write_at (setting B N l health) (state w t image) (ask_write number p src) i ≡ write_file B N l image health w t i p src
  unfolding write_at write_file
  file_same number p src = by (ltb size_max p) refl (ltb size_max (p + length src)) refl (eqb (length src) 0) refl
    where
      by : (x : Bool) → ltb size_max p ≡ x → (y : Bool) → ltb size_max (p + length src) ≡ y → (z : Bool) → eqb (length src) 0 ≡ z
          → write_at (setting B N l health) (state w t image) (ask_write number p src) i ≡ write_file B N l image health w t i p src
      by true e y f z g = rw (write_at, write_file, e) refl
      by false e true f z g = rw (write_at, write_file, e, f) refl
      by false e false f true g = rw (write_at, write_file, e, f, g) refl
      by false e false f false g =
          let n = eqb-false (length src) 0 g in
          rw (write_at, write_file, e, f, g) (ap (written_of t i) (put_same p src (ltb-false size_max (p + length src) f) (omega arith)))

  -- the file cut down
  cut_same : (size : ℕ) → written_of t i (write_out (cut_down (look_on (setting B N l health) (list_of (file t i)) image) size) image w) ≡ shrinks B N image w t i size
  unfolding cut_down shrinks
  cut_same zero = refl
  cut_same (suc p) = by (walk_to (card_with B N image) (block_list (file t i).head (file t i).size) p) refl
    where
      -- the lookup is that of byte size - 1
      shrunk_by : shrinks B N image w t i (suc p) ≡ shrunk t i (suc p) w image (walk_to (card_with B N image) (block_list (file t i).head (file t i).size) p)
      shrunk_by =
          let d : suc p - 1 ≡ p = omega arith in
          shrinks_some B N image w t i (suc p) (λ z. omega arith)
          ∙ ap (λ (n : ℕ). shrunk t i (suc p) w image (walk_to (card_with B N image) (block_list (file t i).head (file t i).size) n)) d

      by : (x : Result ctz.Found Refusal) → walk_to (card_with B N image) (block_list (file t i).head (file t i).size) p ≡ x
          → written_of t i (write_out (cut_down (look_on (setting B N l health) (list_of (file t i)) image) (suc p)) image w) ≡ shrinks B N image w t i (suc p)
      by (Ok found) e = rw (shrunk_by, cut_down, e) refl
      by (Err r) e = rw (shrunk_by, cut_down, e) refl

  -- a truncate of the file
  pub size_same : (number size : ℕ)
      → truncate_at (setting B N l health) (state w t image) (ask_truncate number size) i ≡ truncate_file B N l image health w t i size
  unfolding truncate_at truncate_file
  size_same number size = by (ltb size_max size) refl (ltb size (file t i).size) refl (eqb size (file t i).size) refl
    where
      by : (x : Bool) → ltb size_max size ≡ x → (y : Bool) → ltb size (file t i).size ≡ y → (z : Bool) → eqb size (file t i).size ≡ z
          → truncate_at (setting B N l health) (state w t image) (ask_truncate number size) i ≡ truncate_file B N l image health w t i size
      by true e y f z g = rw (truncate_at, truncate_file, e) refl
      by false e true f z g = rw (truncate_at, truncate_file, e, f) (cut_same size)
      by false e false f true g = rw (truncate_at, truncate_file, e, f, g) refl
      by false e false f false g =
          let m = ltb-false size_max size e in
          let v = ltb-false size (file t i).size f in
          let u = eqb-false size (file t i).size g in
          let n : length (zeros (size - (file t i).size)) ≡ size - (file t i).size = length-replicate (size - (file t i).size) 0 in
          rw (truncate_at, truncate_file, e, f, g)
          (ap (written_of t i) (put_same (file t i).size (zeros (size - (file t i).size)) (omega arith) (omega arith)))
