-- Reading a table, step by step: one law for each way that a step can go. Assumes nothing.
use mathlib.Core.Path.{◌≡◌, ap}
use mathlib.Core.List.{List, []}
use Prim.Native.Nat.{ℕ, suc, ◌+◌, ◌≤◌, ◌<◌}
use native.Mathlib.Omega.{arith}
use borrow.Author.Tests.{le-leb, lt-leb, eq-eqb, ne_eqb}
use lib.ListN.{length, length-append}
use Rattle.std.specs.Prelude.{Err}
use Rattle.layout.specs.declared.Refusal.TheVariants.{Damaged}
use Rattle.layout.specs.Numbers.{files_max, number_max, size_max, head_max}
use Rattle.files.specs.declared.Entry.{Entry}
use Rattle.files.specs.Change.{empty_file}
use Rattle.saved.specs.Load.{damaged, read, read_up_to, read_head, read_size, read_entry, read_files, finish, load_of, file_before, then_read}
use Rattle.saved.specs.Save.{head_bytes, entry_bytes, groups}
use Rattle.saved.specs.inner.Steps.{Counted}

pub head_none : (e : Entry) → e.size ≡ 0 → head_bytes e ≡ []
unfolding head_bytes
head_none e z = rw (head_bytes, eq-eqb e.size 0 z)

pub head_some : (e : Entry) → (e.size ≡ 0 → ⊥) → head_bytes e ≡ groups e.head
unfolding head_bytes
head_some e z = rw (head_bytes, ne_eqb e.size 0 z)

-- the length of a file's bytes, and what is left to store after its number and its size
pub entry_parts : (e : Entry) → length (entry_bytes e) ≡ length (groups e.number) + (length (groups e.size) + length (head_bytes e))
unfolding entry_bytes
entry_parts e = simp length-append

pub length_none : (e : Entry) → e.size ≡ 0 → length (entry_bytes e) ≡ length (groups e.number) + length (groups e.size)
length_none e z = omega (arith, entry_parts e, ap length (head_none e z))

pub length_some : (e : Entry) → (e.size ≡ 0 → ⊥) → length (entry_bytes e) ≡ length (groups e.number) + length (groups e.size) + length (groups e.head)
length_some e z = omega (arith, entry_parts e, ap length (head_some e z))

pub counted_none : (e : Entry) (a b : ℕ) → Counted (groups e.number) 5 a → Counted (groups e.size) 5 b → e.size ≡ 0 → Counted (entry_bytes e) 15 (a + b)
counted_none e a b p q z = record { is = omega (arith, p.is, q.is, length_none e z); small = omega (arith, p.small, q.small) }

pub counted_some : (e : Entry) (a b c : ℕ) → Counted (groups e.number) 5 a → Counted (groups e.size) 5 b → Counted (groups e.head) 5 c
    → (e.size ≡ 0 → ⊥) → Counted (entry_bytes e) 15 (a + b + c)
counted_some e a b c p q r z =
    record { is = omega (arith, p.is, q.is, r.is, length_some e z); small = omega (arith, p.small, q.small, r.small) }

module _ (number size : ℕ) (bs : List ℕ) where
  pub head_no : read_up_to head_max bs ≡ damaged → read_head (record { number = number; size = size; head = 0 }) bs ≡ damaged
  unfolding read_head
  head_no e = rw (read_head, e)

  pub head_yes : (head : ℕ) (rest : List ℕ) → read_up_to head_max bs ≡ read head rest
      → read_head (record { number = number; size = size; head = 0 }) bs ≡ read (record { number = number; size = size; head = head }) rest
  unfolding read_head
  head_yes head rest e = rw (read_head, e)

module _ (number : ℕ) (bs : List ℕ) where
  pub size_no : read_up_to size_max bs ≡ damaged → read_size number bs ≡ damaged
  unfolding read_size
  size_no e = rw (read_size, e)

  pub size_empty : (size : ℕ) (rest : List ℕ) → read_up_to size_max bs ≡ read size rest → size ≡ 0 → read_size number bs ≡ read (empty_file number) rest
  unfolding read_size
  size_empty size rest e z = rw (read_size, e, then_read, eq-eqb size 0 z)

  pub size_some : (size : ℕ) (rest : List ℕ) → read_up_to size_max bs ≡ read size rest → (size ≡ 0 → ⊥) → read_size number bs ≡ read_head (record { number = number; size = size; head = 0 }) rest
  unfolding read_size
  size_some size rest e z = rw (read_size, e, then_read, ne_eqb size 0 z)

module _ (least : ℕ) (bs : List ℕ) where
  pub entry_no : read_up_to number_max bs ≡ damaged → read_entry least bs ≡ damaged
  unfolding read_entry
  entry_no e = rw (read_entry, e)

  pub entry_low : (number : ℕ) (rest : List ℕ) → read_up_to number_max bs ≡ read number rest → number < least → read_entry least bs ≡ damaged
  unfolding read_entry
  entry_low number rest e h = rw (read_entry, e, then_read, lt-leb least number h)

  pub entry_yes : (number : ℕ) (rest : List ℕ) → read_up_to number_max bs ≡ read number rest → least ≤ number → read_entry least bs ≡ read_size number rest
  unfolding read_entry
  entry_yes number rest e h = rw (read_entry, e, then_read, le-leb least number h)

module _ (k least : ℕ) (bs : List ℕ) where
  pub files_no : read_entry least bs ≡ damaged → read_files (suc k) bs least ≡ damaged
  unfolding read_files
  files_no e = rw (read_files, e)

  pub files_yes : (e : Entry) (rest : List ℕ) → read_entry least bs ≡ read e rest → read_files (suc k) bs least ≡ file_before e (read_files k rest (suc e.number))
  unfolding read_files
  files_yes e rest q = rw (read_files, q)

module _ (bs : List ℕ) where
  pub load_no : read_up_to files_max bs ≡ damaged → load_of bs ≡ Err Damaged
  unfolding load_of finish
  load_no e = rw (load_of, e)

  pub load_yes : (count : ℕ) (rest : List ℕ) → read_up_to files_max bs ≡ read count rest → load_of bs ≡ finish (read_files count rest 0)
  unfolding load_of
  load_yes count rest e = rw (load_of, e)
