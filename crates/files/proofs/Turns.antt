-- One turn of each loop over the files from place i on. Assumes nothing.
use mathlib.Core.Path.{◌≡◌, sym, ap, ◌∙◌}
use mathlib.Core.List.{List, ◌++◌, append_assoc}
use Prim.Native.Nat.{ℕ, ◌+◌, ◌-◌, ◌≤◌, ◌<◌}
use native.Mathlib.Omega.{arith}
use native.Mathlib.Numerals.{add-one}
use borrow.Author.Tests.{lt-ltb, le-ltb, eq-eqb, ne_eqb}
use borrow.Rule.Slice.PartMut.{put_mid}
use lib.ListN.{length, get_or, take, drop}
use lib.Seq.{slice, slice-cons, sets, sets-eq, length-slice, drop-drop}
use Rattle.std.specs.List.{between}
use Rattle.std.proofs.lemmas.Slice.{between_is}
use Rattle.layout.specs.Numbers.{files_max}
use Rattle.files.specs.declared.Entry.{Entry}
use Rattle.files.specs.declared.Table.{Table}
use Rattle.std.specs.Prelude.{Ok, Err}
use Rattle.layout.specs.declared.Refusal.TheVariants.{Missing}
use Rattle.files.specs.Table.{no_entry, search_of}
use Rattle.files.specs.inner.Facts.{append_of, slot_for, AppendRoom}
use Rattle.files.proofs.Laws.{slice_end}

module _ (fs : List Entry) (i count : ℕ) where
  pub search_here : (number : ℕ) → i < count → count ≤ length fs → (get_or fs i no_entry).number ≡ number → search_of number (slice i count fs) i ≡ Ok i
  unfolding search_of
  search_here number h l e = rw (slice-cons i count fs no_entry h l, search_of, eq-eqb (get_or fs i no_entry).number number e)

  pub search_on : (number : ℕ) → i < count → count ≤ length fs → ((get_or fs i no_entry).number ≡ number → ⊥)
      → search_of number (slice i count fs) i ≡ search_of number (slice (i + 1) count fs) (i + 1)
  unfolding search_of
  search_on number h l e = rw (slice-cons i count fs no_entry h l, search_of, ne_eqb (get_or fs i no_entry).number number e, add-one i)

  pub search_end : (number : ℕ) → i ≤ count → count ≤ i → search_of number (slice i count fs) i ≡ Err Missing
  unfolding search_of
  search_end number h l = rw (slice_end fs i count h l)

  pub place_here : (number : ℕ) → i < count → count ≤ length fs → number ≤ (get_or fs i no_entry).number → i + slot_for number (slice i count fs) ≡ i
  unfolding slot_for
  place_here number h l e = rw (slice-cons i count fs no_entry h l, slot_for, le-ltb (get_or fs i no_entry).number number e) (omega arith)

  pub place_on : (number : ℕ) → i < count → count ≤ length fs → (get_or fs i no_entry).number < number
      → i + slot_for number (slice i count fs) ≡ i + 1 + slot_for number (slice (i + 1) count fs)
  unfolding slot_for
  place_on number h l e =
      rw (slice-cons i count fs no_entry h l, slot_for, lt-ltb (get_or fs i no_entry).number number e, add-one i) (omega arith)

  pub place_end : (number : ℕ) → i ≤ count → count ≤ i → i + slot_for number (slice i count fs) ≡ i
  unfolding slot_for
  place_end number h l = rw (slice_end fs i count h l) (omega arith)

-- the files copied at once are the files stored one after another
copied : (xs ys : List Entry) (a k : ℕ) → k ≡ length ys → a + k ≤ length xs → put_mid a k xs ys ≡ sets xs a ys
copied xs ys a k e h =
    ap (λ (l : List Entry). take a xs ++ (ys ++ l)) (drop-drop k a xs ∙ ap (λ (m : ℕ). drop (a + m) xs) e)
    ∙ sym (append_assoc (take a xs) ys (drop (a + length ys) xs))
    ∙ sym (sets-eq ys xs a (omega arith))

pub append_copied : (u t : Table) (from to : ℕ) (new : List Entry) → length u.files ≡ files_max → AppendRoom u t from to → new ≡ between from to t.files
    → record { files = put_mid u.count (u.count + (to - from) - u.count) u.files new; count = u.count + (to - from) } ≡ append_of u (slice from to t.files)
append_copied u t from to new l r e =
    let s = slice from to t.files in
    let n : length s ≡ to - from = length-slice from to t.files (omega (arith, r.slots, r.to_le)) in
    let q : new ≡ s = e ∙ between_is t.files from to in
    let p : put_mid u.count (u.count + (to - from) - u.count) u.files s ≡ sets u.files u.count s
    = copied u.files s u.count (u.count + (to - from) - u.count) (omega arith) (omega (arith, r.fits)) in
    rw (q, p, n)
