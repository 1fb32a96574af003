-- The store's change of one file's size and head: the file has them, every other file and place is kept, and the table stays valid. Assumes nothing.
use mathlib.Core.Path.{◌≡◌, refl, sym, ap, ◌∙◌}
use mathlib.Core.Bool.{true}
use mathlib.Core.List.{List, [], ◌∷◌}
use Prim.Native.Nat.{ℕ, zero, suc, ◌≤◌, ◌<◌}
use native.Mathlib.Omega.{arith}
use lib.ListN.{get_or, set, length-set}
use lib.Seq.{take-set-lt, get_or-set_same, get_or-set_other, get_or-take}
use Rattle.layout.specs.Numbers.{number_max, size_max, null_block, head_max}
use Rattle.files.specs.declared.Entry.{Entry}
use Rattle.files.specs.declared.Table.{Table}
use Rattle.std.specs.Prelude.{Ok}
use Rattle.layout.specs.declared.Refusal.TheVariants.{Missing, Invalid}
use Rattle.files.specs.Table.{no_entry, held, file, files_ok, table_ok, search_of, find_of, size_of}
use Rattle.files.specs.Change.{with_list}
use Rattle.files.proofs.Tests.{leb_cases, eqb_cases}
use Rattle.files.proofs.Laws.{first_good, rest_ok, join_ok, slots_ok, count_ok, held_ok, table_ok_lem, GoodEntry}
use Rattle.files.proofs.Cases.{find_is, find_no_number, found_at, size_at, size_refused, found_cases}
use Rattle.files.proofs.Searches.{search_here, search_on}

-- a size and a head that can stand in a table
pub record Fitting (size head : ℕ) : Type 0 where
  pub size_le : size ≤ size_max
  pub head_null : size ≡ 0 → head ≡ null_block
  pub head_le : zero < size → head ≤ head_max

-- file e with another size and head
abbrev pub altered : Entry → ℕ → ℕ → Entry
altered e size head = record { number = e.number; size = size; head = head }

altered_good : (least : ℕ) (e : Entry) (size head : ℕ) → Fitting size head → GoodEntry least e → GoodEntry least (altered e size head)
altered_good least e size head f g =
    record { least_le = g.least_le; number_le = g.number_le; size_le = f.size_le; head_null = f.head_null; head_le = f.head_le }

set_ok : (least i size head : ℕ) (es : List Entry) → Fitting size head → files_ok least es ≡ true → files_ok least (set es i (altered (get_or es i no_entry) size head)) ≡ true
set_ok least i size head [] f h = h
set_ok least zero size head (e ∷ es) f h =
    join_ok least (altered e size head) es (altered_good least e size head f (first_good least e es h)) (rest_ok least e es h)
set_ok least (suc i) size head (e ∷ es) f h =
    join_ok least e (set es i (altered (get_or es i no_entry) size head)) (first_good least e es h) (set_ok (suc e.number) i size head es f (rest_ok least e es h))

-- the numbers stand as they did
search_set : (k m i size head : ℕ) (es : List Entry) → search_of m (set es i (altered (get_or es i no_entry) size head)) k ≡ search_of m es k
search_set k m i size head [] = refl
search_set k m zero size head (e ∷ es) =
    eqb_cases e.number m (λ _. search_of m (altered e size head ∷ es) k ≡ search_of m (e ∷ es) k)
    (λ h. search_here k m (altered e size head) es h ∙ sym (search_here k m e es h))
    (λ h. search_on k m (altered e size head) es h ∙ sym (search_on k m e es h))
search_set k m (suc i) size head (e ∷ es) =
    let fs = set es i (altered (get_or es i no_entry) size head) in
    eqb_cases e.number m (λ _. search_of m (e ∷ fs) k ≡ search_of m (e ∷ es) k)
    (λ h. search_here k m e fs h ∙ sym (search_here k m e es h))
    (λ h. search_on k m e fs h ∙ search_set (suc k) m i size head es ∙ sym (search_on k m e es h))

-- every other place is kept
pub put_keeps : (t : Table) (i size head j : ℕ) → (j ≡ i → ⊥) → file (with_list t i (record { head = head; size = size })) j ≡ file t j
put_keeps t i size head j d = get_or-set_other t.files i j (altered (file t i) size head) no_entry d

module _ (t : Table) (i size head : ℕ) (ok : table_ok t ≡ true) (below : i < t.count) where
  pub put_at : file (with_list t i (record { head = head; size = size })) i ≡ altered (file t i) size head
  put_at = get_or-set_same t.files i (altered (file t i) size head) no_entry (omega (arith, slots_ok t ok, count_ok t ok))

  pub put_held : held (with_list t i (record { head = head; size = size })) ≡ set (held t) i (altered (get_or (held t) i no_entry) size head)
  put_held =
      take-set-lt t.count t.files i (altered (file t i) size head) below
      ∙ ap (λ (e : Entry). set (held t) i (altered e size head)) (sym (get_or-take t.count t.files i no_entry below))

  module _ (f : Fitting size head) where
    -- the table stays valid
    pub put_ok : table_ok (with_list t i (record { head = head; size = size })) ≡ true
    put_ok =
        table_ok_lem (with_list t i (record { head = head; size = size })) (length-set t.files i (altered (file t i) size head) ∙ slots_ok t ok) (count_ok t ok)
        (rw put_held (set_ok 0 i size head (held t) f (held_ok t ok)))

    -- every file is found where it was
    pub put_find : (m : ℕ) → find_of (with_list t i (record { head = head; size = size })) m ≡ find_of t m
    put_find m =
        leb_cases m number_max (λ _. find_of (with_list t i (record { head = head; size = size })) m ≡ find_of t m)
        (λ l. find_is (with_list t i (record { head = head; size = size })) m put_ok l ∙ rw put_held (search_set 0 m i size head (held t)) ∙ sym (find_is t m ok l))
        (λ l. find_no_number (with_list t i (record { head = head; size = size })) m put_ok l ∙ sym (find_no_number t m ok l))

    -- the file has the new size, every other file the size that it had
    pub put_size_own : (n : ℕ) → find_of t n ≡ Ok i → size_of (with_list t i (record { head = head; size = size })) n ≡ Ok size
    put_size_own n e =
        let u : Table = with_list t i (record { head = head; size = size }) in
        sym (size_at u n (find_of u n) refl i (put_find n ∙ e)) ∙ ap (λ (x : Entry). Ok x.size) put_at

    pub put_size_other : (m : ℕ) → ((file t i).number ≡ m → ⊥) → size_of (with_list t i (record { head = head; size = size })) m ≡ size_of t m
    put_size_other m d =
        let u : Table = with_list t i (record { head = head; size = size }) in
        found_cases t m (size_of u m ≡ size_of t m)
        (λ j e.
        let k : file u j ≡ file t j = put_keeps t i size head j (λ q. d (ap (λ (x : ℕ). (file t x).number) (sym q) ∙ (found_at t m j e).named)) in
        sym (size_at u m (find_of u m) refl j (put_find m ∙ e)) ∙ ap (λ (x : Entry). Ok x.size) k ∙ size_at t m (find_of t m) refl j e)
        (λ e. sym (size_refused u m (find_of u m) refl Missing (put_find m ∙ e)) ∙ size_refused t m (find_of t m) refl Missing e)
        (λ e. sym (size_refused u m (find_of u m) refl Invalid (put_find m ∙ e)) ∙ size_refused t m (find_of t m) refl Invalid e)
