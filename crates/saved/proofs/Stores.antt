-- Stores of a list in a row, and of the groups of a number. Assumes nothing.
use mathlib.Core.Path.{◌≡◌, sym, ap, ◌∙◌}
use mathlib.Core.Bool.{true, false}
use mathlib.Core.List.{List, [], ◌∷◌, ◌++◌, append_assoc, append-nil}
use Prim.Native.Nat.{ℕ, suc, ◌+◌, ◌/◌, ◌%◌, ◌≤◌, ◌<◌}
use native.Mathlib.Nat.{add-zero, add-suc, suc-add}
use native.Mathlib.Numerals.{add-one}
use native.Mathlib.Omega.{arith}
use borrow.Author.Tests.{le-leb, lt-leb}
use lib.Dec.{leb}
use lib.ListN.{length, set, get_or, drop, length-append, drop_of_length-le}
use lib.Seq.{sets, drop-cons}
use Rattle.files.specs.declared.Entry.{Entry}
use Rattle.files.specs.declared.Table.{Table}
use Rattle.files.specs.Table.{no_entry, held, table_ok}
use Rattle.std.specs.Prelude.{Ok, Err}
use Rattle.layout.specs.declared.Refusal.TheVariants.{Invalid}
use Rattle.saved.specs.Save.{entry_bytes, files_bytes, save_of, savable, saved_of, buffer_of, groups}
use Rattle.saved.proofs.Steps.{head_none, head_some}
use Rattle.saved.proofs.Numbers.{groups_last, groups_more}

pub store_more : (l : List ℕ) (i m : ℕ) → 128 ≤ m → sets l i (groups m) ≡ sets (set l i (128 + m % 128)) (i + 1) (groups (m / 128))
store_more l i m h = rw (groups_more m h, add-one i)

pub store_last : (l : List ℕ) (i m : ℕ) → m < 128 → sets l i (groups m) ≡ set l i m
store_last l i m h = rw (groups_last m h)

-- one list after another
pub stores : (l : List ℕ) (i : ℕ) (xs ys : List ℕ) → sets l i (xs ++ ys) ≡ sets (sets l i xs) (i + length xs) ys
stores l i [] ys = rw (add-zero i)
stores l i (x ∷ xs) ys = rw (add-suc i (length xs), ← suc-add i (length xs)) (stores (set l i x) (suc i) xs ys)

-- a file: its number, its size, and its head unless the size is 0
module _ (l : List ℕ) (at : ℕ) (e : Entry) (a b : ℕ) (m n : List ℕ)
    (pa : a ≡ at + length (groups e.number)) (pm : m ≡ sets l at (groups e.number))
    (pb : b ≡ a + length (groups e.size)) (pn : n ≡ sets m a (groups e.size)) where
  start : n ≡ sets l at (groups e.number ++ groups e.size)
  start = pn ∙ rw (pm, pa) (sym (stores l at (groups e.number) (groups e.size)))

  start_end : b ≡ at + length (groups e.number ++ groups e.size)
  start_end = rw (length-append (groups e.number) (groups e.size)) (omega arith)

  pub entry_none : e.size ≡ 0 → (b ≡ at + length (entry_bytes e)) × (n ≡ sets l at (entry_bytes e))
  unfolding entry_bytes
  entry_none z = rw (head_none e z, append-nil (groups e.size)) (start_end, start)

  pub entry_some : (c : ℕ) (o : List ℕ) → (e.size ≡ 0 → ⊥) → c ≡ b + length (groups e.head) → o ≡ sets n b (groups e.head)
      → (c ≡ at + length (entry_bytes e)) × (o ≡ sets l at (entry_bytes e))
  unfolding entry_bytes
  entry_some c o z pc po =
      let xs = groups e.number ++ groups e.size in
      let h = groups e.head in
      let q : o ≡ sets l at (xs ++ h) = po ∙ rw (start, start_end) (sym (stores l at xs h)) in
      let k : c ≡ at + length (xs ++ h) = rw (length-append xs h) (omega (arith, start_end)) in
      rw (head_some e z, ← append_assoc (groups e.number) (groups e.size) h) (k, q)

-- the files from place i on: the first of them, then the rest
module _ (es : List Entry) (i : ℕ) (h : i < length es) where
  pub bytes_turn : files_bytes (drop i es) ≡ entry_bytes (get_or es i no_entry) ++ files_bytes (drop (i + 1) es)
  unfolding files_bytes
  bytes_turn = rw (drop-cons es i no_entry h, add-one i)

  pub length_turn : length (files_bytes (drop i es)) ≡ length (entry_bytes (get_or es i no_entry)) + length (files_bytes (drop (i + 1) es))
  length_turn = ap length bytes_turn ∙ length-append (entry_bytes (get_or es i no_entry)) (files_bytes (drop (i + 1) es))

  pub files_turn : (l m : List ℕ) (at r : ℕ) → r ≡ at + length (entry_bytes (get_or es i no_entry)) → m ≡ sets l at (entry_bytes (get_or es i no_entry))
      → sets l at (files_bytes (drop i es)) ≡ sets m r (files_bytes (drop (i + 1) es))
  files_turn l m at r p q = rw (bytes_turn, p, q) (stores l at (entry_bytes (get_or es i no_entry)) (files_bytes (drop (i + 1) es)))

pub bytes_end : (es : List Entry) (i : ℕ) → length es ≤ i → files_bytes (drop i es) ≡ []
unfolding files_bytes
bytes_end es i h = rw (drop_of_length-le es h)

-- the whole table
pub save_length : (t : Table) → length (save_of t) ≡ length (groups t.count) + length (files_bytes (held t))
unfolding save_of
save_length t = length-append (groups t.count) (files_bytes (held t))

pub save_stores : (l : List ℕ) (t : Table) → sets l 0 (save_of t) ≡ sets (sets l 0 (groups t.count)) (0 + length (groups t.count)) (files_bytes (held t))
unfolding save_of
save_stores l t = stores l 0 (groups t.count) (files_bytes (held t))

-- all files stored: what the buffer holds is the saved form
pub save_end : (l b m : List ℕ) (t : Table) (a at i : ℕ) → m ≡ sets l 0 (groups t.count) → a ≡ 0 + length (groups t.count)
    → sets m a (files_bytes (held t)) ≡ sets b at (files_bytes (drop i (held t))) → length (held t) ≤ i → b ≡ sets l 0 (save_of t)
save_end l b m t a at i p q e h =
    sym (save_stores l t ∙ rw (← p, ← q) (e ∙ rw (bytes_end (held t) i h)))

-- what save answers and leaves, case by case
module _ (t : Table) (buffer : List ℕ) where
  pub save_fits : (n : ℕ) (m : List ℕ) → table_ok t ≡ true → n ≡ length (save_of t) → n ≤ length buffer → m ≡ sets buffer 0 (save_of t)
      → (Ok n ≡ saved_of t buffer) × (m ≡ buffer_of t buffer)
  unfolding saved_of buffer_of savable
  save_fits n m h e l p =
      let k : leb (length (save_of t)) (length buffer) ≡ true = le-leb (length (save_of t)) (length buffer) (omega arith) in
      (rw (saved_of, h, k, e), rw (buffer_of, h, k, p))

  pub save_short : (n : ℕ) → table_ok t ≡ true → n ≡ length (save_of t) → length buffer < n → (Err Invalid ≡ saved_of t buffer) × (buffer ≡ buffer_of t buffer)
  unfolding saved_of buffer_of savable
  save_short n h e l =
      let k : leb (length (save_of t)) (length buffer) ≡ false = lt-leb (length (save_of t)) (length buffer) (omega arith) in
      (rw (saved_of, h, k), rw (buffer_of, h, k))

  pub save_no_table : table_ok t ≡ false → (Err Invalid ≡ saved_of t buffer) × (buffer ≡ buffer_of t buffer)
  unfolding saved_of buffer_of savable
  save_no_table h = (rw (saved_of, h), rw (buffer_of, h))
