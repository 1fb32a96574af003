-- What create and remove keep: a refused call hands the table back, an accepted one changes one file, and the two undo each other. Assumes nothing.
use mathlib.Core.Path.{◌≡◌, refl, sym, ap, ◌∙◌}
use mathlib.Core.Bool.{true}
use mathlib.Core.List.{List}
use mathlib.Core.Option.{Option, none, some}
use Prim.Native.Nat.{ℕ, ◌+◌, ◌≤◌, ◌<◌}
use native.Mathlib.Nat.{sub-zero}
use native.Mathlib.Omega.{arith}
use lib.Seq.{get_or-take}
use Rattle.layout.specs.Numbers.{files_max, number_max}
use Rattle.files.specs.declared.Entry.{Entry}
use Rattle.files.specs.declared.Table.{Table}
use Rattle.std.specs.Prelude.{Result, Ok, Err}
use Rattle.layout.specs.declared.Refusal.{Refusal}
use Rattle.layout.specs.declared.Refusal.TheVariants.{Missing, TableFull, Exists, Invalid}
use Rattle.files.specs.declared.change.Changed.{Changed}
use Rattle.files.specs.Table.{no_entry, held, file, table_of, table_ok, find_of, size_of}
use Rattle.files.specs.Change.{empty_file, insert_of, without_of, changed, create_of, remove_of}
use Rattle.files.specs.inner.Facts.{slot_for}
use Rattle.files.proofs.Tests.{leb_cases, ltb_cases}
use Rattle.files.proofs.Laws.{held_length, held_ok, count_ok}
use Rattle.files.proofs.Lists.{held_of, of_ok}
use Rattle.files.proofs.Cases
use Rattle.files.proofs.Others.{file_of, insert_other, insert_own, without_insert, insert_length, insert_ok, without_other, without_own, without_ok, without_length}
use Rattle.files.proofs.Searches.{missing_none, found_some, search_insert, search_answers}

-- ---- the answers of find, and the size by the file

abbrev pub sized_of : Option Entry → Result ℕ Refusal
sized_of none = (Err Missing)
sized_of (some e) = Ok e.size

module _ (t : Table) (m : ℕ) (ok : table_ok t ≡ true) where
  pub found_file : (i : ℕ) → find_of t m ≡ Ok i → file_of m (held t) ≡ some (file t i)
  found_file i e =
      let s = Cases.searched t m (Ok i) (λ q. let z : ◌≡◌ {A = ℕ} 0 1 = cc in omega arith) e in
      let b = (Cases.found_at t m i e).below in
      found_some 0 m i (held t) s.searched ∙ rw (sub-zero i) (ap some (get_or-take t.count t.files i no_entry b))

  pub size_file : m ≤ number_max → size_of t m ≡ sized_of (file_of m (held t))
  size_file l =
      Cases.found_cases t m (size_of t m ≡ sized_of (file_of m (held t)))
      (λ i e. sym (Cases.size_at t m (find_of t m) refl i e) ∙ ap sized_of (sym (found_file i e)))
      (λ e. sym (Cases.size_refused t m (find_of t m) refl Missing e) ∙ ap sized_of (sym (missing_none 0 m (held t) (Cases.missing_ok t m e).searched)))
      (λ e. absurd (search_answers 0 m (held t) (sym (Cases.find_is t m ok l) ∙ e)))

-- ---- create

-- what an accepted create found
pub record Created (t : Table) (n : ℕ) : Type 0 where
  pub ok : table_ok t ≡ true
  pub number_le : n ≤ number_max
  pub absent : file_of n (held t) ≡ none
  pub room : t.count < files_max

-- the two ways of a create: refused, with the table as it came; accepted, with the file put in
module _ (t : Table) (n : ℕ) (P : Changed → Type 0)
    (kept : (a : Result (Unit {0}) Refusal) → (a ≡ Ok tt → ⊥) → P (changed a t)) (made : Created t n → P (changed (Ok tt) (table_of (insert_of n (held t))))) where
  pub create_cases : P (create_of t n)
  create_cases =
      Cases.found_cases t n (P (create_of t n))
      (λ i e. rw (← Cases.create_exists t n (find_of t n) refl i e) (kept (Err Exists) (λ q. let z : ◌≡◌ {A = ℕ} 0 1 = cc in omega arith)))
      (λ e. ltb_cases t.count files_max (λ _. P (create_of t n))
      (λ l.
      let s = Cases.missing_ok t n e in
      rw (Cases.create_accepted t n (find_of t n) refl e l)
      (made (record { ok = s.ok; number_le = s.number_le; absent = missing_none 0 n (held t) s.searched; room = l })))
      (λ l. rw (← Cases.create_full t n (find_of t n) refl e l) (kept (Err TableFull) (λ q. let z : ◌≡◌ {A = ℕ} 0 1 = cc in omega arith))))
      (λ e. rw (← Cases.create_refused t n (find_of t n) refl Invalid (λ q. let z : ◌≡◌ {A = ℕ} 0 1 = cc in omega arith) e) (kept (Err Invalid) (λ q. let z : ◌≡◌ {A = ℕ} 0 1 = cc in omega arith)))

made_ok : (t : Table) (n : ℕ) → Created t n → table_ok (table_of (insert_of n (held t))) ≡ true
made_ok t n c =
    of_ok (insert_of n (held t)) (omega (arith, insert_length n (held t), held_length t c.ok, c.room))
    (insert_ok 0 n (held t) (held_ok t c.ok) c.absent (omega arith) c.number_le)

-- a refused create hands the table back
pub create_kept : (t : Table) (n : ℕ) → ((create_of t n).answer ≡ Ok tt → ⊥) → (create_of t n).table ≡ t
create_kept t n = create_cases t n (λ r. (r.answer ≡ Ok tt → ⊥) → r.table ≡ t) (λ a d h. refl) (λ c h. absurd (h refl))

-- a create keeps a table valid
pub create_ok : (t : Table) (n : ℕ) → table_ok t ≡ true → table_ok (create_of t n).table ≡ true
create_ok t n h = create_cases t n (λ r. table_ok r.table ≡ true) (λ a d. h) (λ c. made_ok t n c)

-- an accepted create makes the file, empty, and no create changes another file
pub create_own : (t : Table) (n : ℕ) → (create_of t n).answer ≡ Ok tt → file_of n (held (create_of t n).table) ≡ some (empty_file n)
create_own t n =
    create_cases t n (λ r. r.answer ≡ Ok tt → file_of n (held r.table) ≡ some (empty_file n)) (λ a d h. absurd (d h))
    (λ c h. rw (held_of (insert_of n (held t))) (insert_own n (held t)))

pub create_other : (t : Table) (n m : ℕ) → (n ≡ m → ⊥) → file_of m (held (create_of t n).table) ≡ file_of m (held t)
create_other t n m d =
    create_cases t n (λ r. file_of m (held r.table) ≡ file_of m (held t)) (λ a h. refl)
    (λ c. rw (held_of (insert_of n (held t))) (insert_other n m (held t) d))

-- two valid tables that have the same of a number answer the same size
same_size : (t u : Table) (m : ℕ) → table_ok t ≡ true → table_ok u ≡ true → file_of m (held t) ≡ file_of m (held u) → size_of t m ≡ size_of u m
same_size t u m a b e =
    leb_cases m number_max (λ _. size_of t m ≡ size_of u m)
    (λ l. size_file t m a l ∙ ap sized_of e ∙ sym (size_file u m b l))
    (λ l. sym (Cases.size_refused t m (find_of t m) refl Invalid (Cases.find_no_number t m a l)) ∙ Cases.size_refused u m (find_of u m) refl Invalid (Cases.find_no_number u m b l))

pub create_size_other : (t : Table) (n m : ℕ) → (n ≡ m → ⊥) → size_of (create_of t n).table m ≡ size_of t m
create_size_other t n m d =
    create_cases t n (λ r. size_of r.table m ≡ size_of t m) (λ a h. refl)
    (λ c. same_size (table_of (insert_of n (held t))) t m (made_ok t n c) c.ok (rw (held_of (insert_of n (held t))) (insert_other n m (held t) d)))

-- ---- remove

pub record Removed (t : Table) (n : ℕ) : Type 0 where
  pub ok : table_ok t ≡ true
  pub number_le : n ≤ number_max
  pub place : ℕ
  pub present : file_of n (held t) ≡ some (file t place)

module _ (t : Table) (n : ℕ) (P : Changed → Type 0)
    (kept : (a : Result (Unit {0}) Refusal) → (a ≡ Ok tt → ⊥) → P (changed a t)) (gone : Removed t n → P (changed (Ok tt) (table_of (without_of n (held t))))) where
  pub remove_cases : P (remove_of t n)
  remove_cases =
      Cases.found_cases t n (P (remove_of t n))
      (λ i e.
      let h = Cases.found_at t n i e in
      rw (Cases.remove_accepted t n (find_of t n) refl i e)
      (gone (record { ok = h.ok; number_le = h.number_le; place = i; present = found_file t n h.ok i e })))
      (λ e. rw (← Cases.remove_refused t n (find_of t n) refl Missing e) (kept (Err Missing) (λ q. let z : ◌≡◌ {A = ℕ} 0 1 = cc in omega arith)))
      (λ e. rw (← Cases.remove_refused t n (find_of t n) refl Invalid e) (kept (Err Invalid) (λ q. let z : ◌≡◌ {A = ℕ} 0 1 = cc in omega arith)))

gone_ok : (t : Table) (n : ℕ) → table_ok t ≡ true → table_ok (table_of (without_of n (held t))) ≡ true
gone_ok t n h = of_ok (without_of n (held t)) (omega (arith, without_length n (held t), held_length t h, count_ok t h)) (without_ok 0 n (held t) (held_ok t h))

-- a refused remove hands the table back
pub remove_kept : (t : Table) (n : ℕ) → ((remove_of t n).answer ≡ Ok tt → ⊥) → (remove_of t n).table ≡ t
remove_kept t n = remove_cases t n (λ r. (r.answer ≡ Ok tt → ⊥) → r.table ≡ t) (λ a d h. refl) (λ c h. absurd (h refl))

pub remove_ok : (t : Table) (n : ℕ) → table_ok t ≡ true → table_ok (remove_of t n).table ≡ true
remove_ok t n h = remove_cases t n (λ r. table_ok r.table ≡ true) (λ a d. h) (λ c. gone_ok t n h)

-- an accepted remove leaves no such file, and no remove changes another file
pub remove_own : (t : Table) (n : ℕ) → (remove_of t n).answer ≡ Ok tt → file_of n (held (remove_of t n).table) ≡ none
remove_own t n =
    remove_cases t n (λ r. r.answer ≡ Ok tt → file_of n (held r.table) ≡ none) (λ a d h. absurd (d h))
    (λ c h. rw (held_of (without_of n (held t))) (without_own 0 n (held t) (held_ok t c.ok)))

pub remove_other : (t : Table) (n m : ℕ) → (n ≡ m → ⊥) → file_of m (held (remove_of t n).table) ≡ file_of m (held t)
remove_other t n m d =
    remove_cases t n (λ r. file_of m (held r.table) ≡ file_of m (held t)) (λ a h. refl)
    (λ c. rw (held_of (without_of n (held t))) (without_other n m (held t) d))

pub remove_size_other : (t : Table) (n m : ℕ) → (n ≡ m → ⊥) → size_of (remove_of t n).table m ≡ size_of t m
remove_size_other t n m d =
    remove_cases t n (λ r. size_of r.table m ≡ size_of t m) (λ a h. refl)
    (λ c. same_size (table_of (without_of n (held t))) t m (gone_ok t n c.ok) c.ok (rw (held_of (without_of n (held t))) (without_other n m (held t) d)))

-- ---- created and removed again: the table as it came, with zero entries past its count

undo : (t : Table) (n : ℕ) → Created t n → remove_of (table_of (insert_of n (held t))) n ≡ changed (Ok tt) (table_of (held t))
undo t n c =
    let u : Table = table_of (insert_of n (held t)) in
    let e : find_of u n ≡ Ok (0 + slot_for n (held t))
    = Cases.find_is u n (made_ok t n c) c.number_le ∙ rw (held_of (insert_of n (held t))) (search_insert 0 n (held t)) in
    Cases.remove_accepted u n (find_of u n) refl (0 + slot_for n (held t)) e
    ∙ ap (λ (l : List Entry). changed (Ok tt) (table_of l)) (ap (without_of n) (held_of (insert_of n (held t))) ∙ without_insert n (held t))

pub create_remove : (t : Table) (n : ℕ) → (create_of t n).answer ≡ Ok tt → remove_of (create_of t n).table n ≡ changed (Ok tt) (table_of (held t))
create_remove t n =
    create_cases t n (λ r. r.answer ≡ Ok tt → remove_of r.table n ≡ changed (Ok tt) (table_of (held t))) (λ a d h. absurd (d h)) (λ c h. undo t n c)
