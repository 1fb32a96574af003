-- What a valid table says of each of its files. Assumes nothing.
use mathlib.Core.Path.{◌≡◌, refl}
use mathlib.Core.Bool.{true, false, ◌&&◌, and-false}
use mathlib.Core.List.{List, [], ◌∷◌}
use Prim.Native.Nat.{ℕ, zero, suc, ◌+◌, ◌≤◌, ◌<◌}
use native.Mathlib.Omega.{arith}
use native.Mathlib.Numerals.{add-one}
use borrow.Author.Tests.{leb-true, eqb-true, le-leb, lt-leb, eq-eqb, ne_eqb}
use lib.ListN.{length, get_or, drop, drop_of_length-le}
use lib.Seq.{slice, slice_empty, drop-cons, get_or-take, length-take-le}
use lib.Dec.{leb, eqb}
use Rattle.layout.specs.Numbers.{files_max, number_max, size_max, null_block, head_max}
use Rattle.files.specs.declared.Entry.{Entry}
use Rattle.files.specs.declared.Table.{Table}
use Rattle.files.specs.Table.{no_entry, held, file, head_ok, entry_ok, files_ok, table_ok}
use Rattle.files.specs.inner.Facts.{ValidTable}
use Rattle.files.proofs.Tests.{both_left, both_right, eqb_cases}

-- a file that can stand in a table, with a number from `least` on
pub record GoodEntry (least : ℕ) (e : Entry) : Type 0 where
  pub least_le : least ≤ e.number
  pub number_le : e.number ≤ number_max
  pub size_le : e.size ≤ size_max
  pub head_null : e.size ≡ 0 → e.head ≡ null_block
  pub head_le : zero < e.size → e.head ≤ head_max

head_null' : (e : Entry) → head_ok e ≡ true → e.size ≡ 0 → e.head ≡ null_block
unfolding head_ok
head_null' e h z = eqb-true e.head null_block (rw (head_ok, eq-eqb e.size 0 z) at h)

head_le' : (e : Entry) → head_ok e ≡ true → zero < e.size → e.head ≤ head_max
unfolding head_ok
head_le' e h p = leb-true e.head head_max (rw (head_ok, ne_eqb e.size 0 (λ z. omega arith)) at h)

pub entry_good : (least : ℕ) (e : Entry) → entry_ok least e ≡ true → GoodEntry least e
unfolding entry_ok
entry_good least e h =
    let h3 = both_left (leb least e.number && leb e.number number_max && leb e.size size_max) (head_ok e) h in
    let h2 = both_left (leb least e.number && leb e.number number_max) (leb e.size size_max) h3 in
    let h4 = both_right (leb least e.number && leb e.number number_max && leb e.size size_max) (head_ok e) h in
    record {
      least_le = leb-true least e.number (both_left (leb least e.number) (leb e.number number_max) h2);
      number_le = leb-true e.number number_max (both_right (leb least e.number) (leb e.number number_max) h2);
      size_le = leb-true e.size size_max (both_right (leb least e.number && leb e.number number_max) (leb e.size size_max) h3);
      head_null = head_null' e h4;
      head_le = head_le' e h4;
    }

pub good_entry : (least : ℕ) (e : Entry) → GoodEntry least e → entry_ok least e ≡ true
unfolding entry_ok head_ok
good_entry least e g =
    rw (le-leb least e.number g.least_le, le-leb e.number number_max g.number_le, le-leb e.size size_max g.size_le)
    (eqb_cases e.size 0 (λ b. (elim b [ true ↦ eqb e.head null_block | false ↦ leb e.head head_max ]) ≡ true)
    (λ z. eq-eqb e.head null_block (g.head_null z))
    (λ z. le-leb e.head head_max (g.head_le (omega arith))))

-- where the earlier tests hold, the last one decides
pub entry_last : (least : ℕ) (e : Entry) → least ≤ e.number → e.number ≤ number_max → e.size ≤ size_max → head_ok e ≡ entry_ok least e
unfolding entry_ok
entry_last least e a b c = rw (le-leb least e.number a, le-leb e.number number_max b, le-leb e.size size_max c)

pub head_empty : (e : Entry) → e.size ≡ 0 → eqb e.head null_block ≡ head_ok e
unfolding head_ok
head_empty e z = rw (head_ok, eq-eqb e.size 0 z)

pub head_some : (e : Entry) → (e.size ≡ 0 → ⊥) → leb e.head head_max ≡ head_ok e
unfolding head_ok
head_some e z = rw (head_ok, ne_eqb e.size 0 z)

-- the first file, and the rest above it
pub first_good : (least : ℕ) (e : Entry) (es : List Entry) → files_ok least (e ∷ es) ≡ true → GoodEntry least e
unfolding files_ok
first_good least e es h = entry_good least e (both_left (entry_ok least e) (files_ok (suc e.number) es) h)

pub rest_ok : (least : ℕ) (e : Entry) (es : List Entry) → files_ok least (e ∷ es) ≡ true → files_ok (suc e.number) es ≡ true
unfolding files_ok
rest_ok least e es h = both_right (entry_ok least e) (files_ok (suc e.number) es) h

pub nothing_ok : (least : ℕ) → files_ok least [] ≡ true
unfolding files_ok
nothing_ok least = refl

pub join_ok : (least : ℕ) (e : Entry) (es : List Entry) → GoodEntry least e → files_ok (suc e.number) es ≡ true → files_ok least (e ∷ es) ≡ true
unfolding files_ok
join_ok least e es g h = rw (good_entry least e g) h

pub looser : (least lower : ℕ) (e : Entry) → lower ≤ least → GoodEntry least e → GoodEntry lower e
looser least lower e h g =
    record { least_le = omega (arith, g.least_le); number_le = g.number_le; size_le = g.size_le; head_null = g.head_null; head_le = g.head_le }

pub each_good : (least : ℕ) (es : List Entry) → files_ok least es ≡ true → (k : ℕ) → k < length es → GoodEntry least (get_or es k no_entry)
each_good least [] h k p = absurd (omega arith)
each_good least (e ∷ es) h zero p = first_good least e es h
each_good least (e ∷ es) h (suc k) p =
    let g = first_good least e es h in
    looser (suc e.number) least _ (omega arith) (each_good (suc e.number) es (rest_ok least e es h) k (omega arith))

pub rise : (least : ℕ) (es : List Entry) → files_ok least es ≡ true → (j k : ℕ) → j < k → k < length es → (get_or es j no_entry).number < (get_or es k no_entry).number
rise least [] h j k p q = absurd (omega arith)
rise least (e ∷ es) h j zero p q = absurd (omega arith)
rise least (e ∷ es) h zero (suc k) p q = (each_good (suc e.number) es (rest_ok least e es h) k (omega arith)).least_le
rise least (e ∷ es) h (suc j) (suc k) p q = rise (suc e.number) es (rest_ok least e es h) j k (omega arith) (omega arith)

-- the parts of the test
pub slots_ok : (t : Table) → table_ok t ≡ true → length t.files ≡ files_max
unfolding table_ok
slots_ok t h =
    eqb-true _ _ (both_left (eqb (length t.files) files_max) (leb t.count files_max)
    (both_left (eqb (length t.files) files_max && leb t.count files_max) (files_ok 0 (held t)) h))

pub count_ok : (t : Table) → table_ok t ≡ true → t.count ≤ files_max
unfolding table_ok
count_ok t h =
    leb-true _ _ (both_right (eqb (length t.files) files_max) (leb t.count files_max)
    (both_left (eqb (length t.files) files_max && leb t.count files_max) (files_ok 0 (held t)) h))

pub held_ok : (t : Table) → table_ok t ≡ true → files_ok 0 (held t) ≡ true
unfolding table_ok
held_ok t h = both_right (eqb (length t.files) files_max && leb t.count files_max) (files_ok 0 (held t)) h

pub table_ok_lem : (t : Table) → length t.files ≡ files_max → t.count ≤ files_max → files_ok 0 (held t) ≡ true → table_ok t ≡ true
unfolding table_ok
table_ok_lem t s c h = rw (eq-eqb (length t.files) files_max s, le-leb t.count files_max c) h

pub held_length : (t : Table) → table_ok t ≡ true → length (held t) ≡ t.count
held_length t h = length-take-le t.count t.files (omega (arith, slots_ok t h, count_ok t h))

-- THE LAW: a table that passes the test is valid, file by file
pub table_valid : (t : Table) → table_ok t ≡ true → ValidTable t
table_valid t h =
    let l = held_length t h in
    let at : (k : ℕ) → k < t.count → get_or (held t) k no_entry ≡ file t k = λ k p. get_or-take t.count t.files k no_entry p in
    let good : (k : ℕ) → k < t.count → GoodEntry 0 (file t k)
    = λ k p. rw (at k p) at (each_good 0 (held t) (held_ok t h) k (omega arith)) in
    record {
      slots = slots_ok t h;
      count_le = count_ok t h;
      number_le = λ k p. (good k p).number_le;
      rising = λ j k p q. rw (at j (omega arith), at k q) at (rise 0 (held t) (held_ok t h) j k p (omega arith));
      size_le = λ k p. (good k p).size_le;
      head_null = λ k p. (good k p).head_null;
      head_le = λ k p. (good k p).head_le;
    }

-- the files from place i on: the first of them, then the rest
pub files_turn : (es : List Entry) (i least : ℕ) → i < length es
    → files_ok least (drop i es) ≡ (entry_ok least (get_or es i no_entry) && files_ok ((get_or es i no_entry).number + 1) (drop (i + 1) es))
unfolding files_ok
files_turn es i least h = rw (drop-cons es i no_entry h, add-one i, add-one (get_or es i no_entry).number)

pub files_end : (es : List Entry) (i least : ℕ) → length es ≤ i → files_ok least (drop i es) ≡ true
unfolding files_ok
files_end es i least h = rw (drop_of_length-le es h)

pub slice_end : (fs : List Entry) (i count : ℕ) → i ≤ count → count ≤ i → slice i count fs ≡ []
slice_end fs i count h l = let e : i ≡ count = omega arith in rw e (slice_empty count fs)

-- too many files
pub count_out : (t : Table) → files_max < t.count → table_ok t ≡ false
unfolding table_ok
count_out t h = rw (lt-leb t.count files_max h, and-false)

pub table_is : (t : Table) → length t.files ≡ files_max → t.count ≤ files_max → table_ok t ≡ files_ok 0 (held t)
unfolding table_ok
table_is t s c = rw (eq-eqb (length t.files) files_max s, le-leb t.count files_max c)
