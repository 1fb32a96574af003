-- A table read file by file: the stores still to be made on what is there. Assumes nothing.
use mathlib.Core.Path.{◌≡◌, refl, sym, ap, ◌∙◌}
use mathlib.Core.List.{List, []}
use Prim.Native.Nat.{ℕ, zero, suc, ◌+◌, ◌-◌, ◌*◌, ◌≤◌, ◌<◌}
use native.Mathlib.Nat.{sub-zero, zero-add}
use native.Mathlib.Numerals.{add-one}
use native.Mathlib.Omega.{arith}
use borrow.Author.Tests.{le-leb, lt-leb}
use lib.ListN.{length, set}
use lib.Seq.{sets}
use Rattle.layout.specs.Numbers.{files_max}
use Rattle.files.specs.declared.Entry.{Entry}
use Rattle.files.specs.declared.Table.{Table}
use Rattle.files.specs.Table.{table_of}
use Rattle.files.specs.inner.Facts.{append_of}
use Rattle.files.proofs.Lists.{append_table}
use Rattle.records.specs.Records.{word_of, entries_of, table_at}

entries_length : (list : List ℕ) (at i k : ℕ) → length (entries_of list at i k) ≡ k
unfolding entries_of
entries_length list at i zero = refl
entries_length list at i (suc k) = ap suc (entries_length list at (suc i) k)

-- the slots are filled up to file i: with the files from i on they are those of the whole table
pub record Filled (list : List ℕ) (at count : ℕ) (files : List Entry) (i : ℕ) : Type 0 where
  pub is : count ≡ word_of list at 0
  pub i_le : i ≤ count
  pub count_le : count ≤ files_max
  pub filled : sets files i (entries_of list at i (count - i)) ≡ sets (table_of []).files 0 (entries_of list at 0 count)

module _ (list : List ℕ) (at count : ℕ) where
  pub filled_start : (t : Table) → count ≡ word_of list at 0 → t ≡ table_of [] → count ≤ files_max → Filled list at count t.files 0
  filled_start t c e h = record { is = c; i_le = omega arith; count_le = h; filled = rw (e, sub-zero count) }

  pub filled_turn : (files : List Entry) (i size head : ℕ) → Filled list at count files i → i < count → size ≡ word_of list at (2 * i + 1) → head ≡ word_of list at (2 * i + 2)
      → Filled list at count (set files i (record { number = i; size = size; head = head })) (i + 1)
  unfolding entries_of
  filled_turn files i size head f h a b =
      let e : count - i ≡ suc (count - (i + 1)) = omega arith in
      record {
        is = f.is;
        i_le = omega arith;
        count_le = f.count_le;
        filled = rw (a, b, add-one i) (rw (e, add-one i) at f.filled);
      }

  is : count ≡ word_of list at 0 → count ≤ files_max → table_at list at ≡ table_of (entries_of list at 0 count)
  unfolding table_at
  is c h = rw (table_at, ← c, le-leb count files_max h, ← c)

  pub filled_end : (files : List Entry) (i : ℕ) → Filled list at count files i → count ≤ i → record { files = files; count = count } ≡ table_at list at
  unfolding table_at entries_of
  filled_end files i f h =
      let e : count - i ≡ zero = omega (arith, f.i_le) in
      let l = entries_length list at 0 count in
      let s : files ≡ sets (table_of []).files 0 (entries_of list at 0 count) = rw e at f.filled in
      let t : record { files = files; count = count } ≡ append_of (table_of []) (entries_of list at 0 count) = rw (s, l, zero-add count) in
      t ∙ append_table [] (entries_of list at 0 count) (omega (arith, f.count_le)) ∙ sym (is f.is f.count_le)

  pub too_many : (t : Table) → count ≡ word_of list at 0 → t ≡ table_of [] → files_max < count → t ≡ table_at list at
  unfolding table_at
  too_many t c e h = e ∙ rw (table_at, ← c, lt-leb count files_max h)
