-- What find answers, what its answers tell, and the calls that go by them, case by case. Assumes nothing.
use mathlib.Core.Path.{◌≡◌, refl, sym, ap, ◌∙◌}
use mathlib.Core.Bool.{true, false}
use mathlib.Core.List.{List, [], ◌∷◌, ◌++◌}
use Prim.Native.Nat.{ℕ, suc, ◌+◌, ◌≤◌, ◌<◌}
use native.Mathlib.Numerals.{add-one}
use native.Mathlib.Nat.{sub-zero}
use native.Mathlib.Omega.{arith}
use borrow.Author.Tests.{le-leb, lt-leb, lt-ltb, le-ltb}
use lib.ListN.{take, drop}
use lib.Seq.{get_or-take}
use lib.Dec.{leb, eqb}
use lib.IntN.{ℤ}
use Rattle.layout.specs.Numbers.{files_max, number_max, size_max}
use Rattle.files.specs.declared.Entry.{Entry}
use Rattle.files.specs.declared.Table.{Table}
use Rattle.std.specs.Prelude.{Result, Ok, Err}
use Rattle.layout.specs.declared.Refusal.{Refusal}
use Rattle.layout.specs.declared.Refusal.TheVariants.{Missing, TableFull, Exists, Invalid}
use Rattle.files.specs.Table.{no_entry, held, file, table_of, table_ok, search_of, find_of, size_of}
use Rattle.files.specs.Change.{empty_file, insert_of, without_of, changed, create_of, remove_of}
use Rattle.files.specs.Seek.{Seek, whence_of, seek_of}
use Rattle.files.specs.inner.Facts.{slot_for}
use Rattle.files.proofs.Tests.{bool_cases, leb_cases}
use Rattle.files.proofs.Laws.{held_length, count_ok}
use Rattle.files.proofs.Lists.{stands, insert_at}

-- the words of a seek, one after the other
abbrev pub seeking : ℕ → ℕ → ℤ → ℤ → Seek
seeking number position offset whence = record { number = number; position = position; offset = offset; whence = whence }

module _ (t : Table) (number : ℕ) where
  pub find_no_table : table_ok t ≡ false → find_of t number ≡ Err Invalid
  unfolding find_of
  find_no_table h = rw (find_of, h)

  pub find_no_number : table_ok t ≡ true → number_max < number → find_of t number ≡ Err Invalid
  unfolding find_of
  find_no_number h l = rw (find_of, h, lt-leb number number_max l)

  pub find_is : table_ok t ≡ true → number ≤ number_max → find_of t number ≡ search_of number (held t) 0
  unfolding find_of
  find_is h l = rw (find_of, h, le-leb number number_max l)

  -- an answer that is no refusal: the table is valid, the number in range, and the answer that of the search
  pub record Searched (r : Result ℕ Refusal) : Type 0 where
    pub ok : table_ok t ≡ true
    pub number_le : number ≤ number_max
    pub searched : search_of number (held t) 0 ≡ r

  pub searched : (r : Result ℕ Refusal) → (r ≡ Err Invalid → ⊥) → find_of t number ≡ r → Searched r
  unfolding find_of
  searched r some =
      bool_cases (table_ok t)
      (λ b. (elim b [ false ↦ (Err Invalid) | true ↦ elim (leb number number_max) [ false ↦ (Err Invalid) | true ↦ search_of number (held t) 0 ] ]) ≡ r → Searched r)
      (λ h. leb_cases number number_max
      (λ b. (elim b [ false ↦ (Err Invalid) | true ↦ search_of number (held t) 0 ]) ≡ r → Searched r)
      (λ l e. record { ok = h; number_le = l; searched = e })
      (λ l e. absurd (some (sym e))))
      (λ h e. absurd (some (sym e)))

  -- file `number` stands at place i
  pub record Holds (i : ℕ) : Type 0 where
    pub ok : table_ok t ≡ true
    pub number_le : number ≤ number_max
    pub below : i < t.count
    pub named : (file t i).number ≡ number
    pub left : without_of number (held t) ≡ take i (held t) ++ drop (i + 1) (held t)

  searches : (es : List Entry) (i : ℕ) (P : Type 0) → ((j : ℕ) → search_of number es i ≡ Ok j → P) → (search_of number es i ≡ Err Missing → P) → P
  unfolding search_of
  searches [] i P f g = g refl
  searches (e ∷ es) i P f g =
      bool_cases (eqb e.number number) (λ _. P)
      (λ h. f i (rw (search_of, h)))
      (λ h. searches es (suc i) P (λ j q. f j (rw (search_of, h) q)) (λ q. g (rw (search_of, h) q)))

  -- the answers of find
  pub found_cases : (P : Type 0) → ((i : ℕ) → find_of t number ≡ Ok i → P) → (find_of t number ≡ Err Missing → P) → (find_of t number ≡ Err Invalid → P) → P
  found_cases P f g h =
      bool_cases (table_ok t) (λ _. P)
      (λ ok. leb_cases number number_max (λ _. P)
      (λ l. searches (held t) 0 P (λ i q. f i (find_is ok l ∙ q)) (λ q. g (find_is ok l ∙ q)))
      (λ l. h (find_no_number ok l)))
      (λ no. h (find_no_table no))

  pub found_at : (i : ℕ) → find_of t number ≡ Ok i → Holds i
  found_at i e =
      let s = searched (Ok i) (λ q. let z : ◌≡◌ {A = ℕ} 0 1 = cc in omega arith) e in
      let p = stands number 0 i (held t) s.searched in
      let b : i < t.count = omega (arith, held_length t s.ok, p.below) in
      record {
        ok = s.ok;
        number_le = s.number_le;
        below = b;
        named = ap (λ (x : _). x.number) (sym (get_or-take t.count t.files i no_entry b)) ∙ rw (sub-zero i) at p.named;
        left = rw (add-one i) (rw (sub-zero i) at p.left);
      }

  pub missing_ok : find_of t number ≡ Err Missing → Searched (Err Missing)
  missing_ok e = searched (Err Missing) (λ q. let z : ◌≡◌ {A = ℕ} 0 1 = cc in omega arith) e

  -- the calls, by what find answered
  module _ (r : Result ℕ Refusal) (p : r ≡ find_of t number) where
    pub slot : (i : ℕ) → r ≡ Ok i → i < files_max
    slot i e = let h = found_at i (sym p ∙ e) in omega (arith, h.below, count_ok t h.ok)

    pub missing_table : r ≡ Err Missing → table_ok t ≡ true
    missing_table e = (missing_ok (sym p ∙ e)).ok

    pub size_at : (i : ℕ) → r ≡ Ok i → Ok (file t i).size ≡ size_of t number
    unfolding size_of
    size_at i e = rw (size_of, ← p, e)

    pub size_refused : (q : Refusal) → r ≡ Err q → Err q ≡ size_of t number
    unfolding size_of
    size_refused q e = rw (size_of, ← p, e)

    pub create_exists : (i : ℕ) → r ≡ Ok i → changed (Err Exists) t ≡ create_of t number
    unfolding create_of
    create_exists i e = rw (create_of, ← p, e)

    pub create_full : r ≡ Err Missing → files_max ≤ t.count → changed (Err TableFull) t ≡ create_of t number
    unfolding create_of
    create_full e h = rw (create_of, ← p, e, le-ltb t.count files_max h)

    pub create_refused : (q : Refusal) → (q ≡ Missing → ⊥) → r ≡ Err q → changed (Err q) t ≡ create_of t number
    unfolding create_of
    create_refused Missing d e = absurd (d refl)
    create_refused q d e = rw (create_of, ← p, e)

    pub create_accepted : r ≡ Err Missing → t.count < files_max → create_of t number ≡ changed (Ok tt) (table_of (insert_of number (held t)))
    unfolding create_of
    create_accepted e h = rw (create_of, ← p, e, lt-ltb t.count files_max h)

    -- put in at its place
    pub create_done : (at : ℕ) (u : Table) → r ≡ Err Missing → t.count < files_max → at ≡ slot_for number (held t)
        → u ≡ table_of (take at (held t) ++ (empty_file number ∷ drop at (held t))) → changed (Ok tt) u ≡ create_of t number
    unfolding create_of
    create_done at u e h a q =
        let w : u ≡ table_of (insert_of number (held t)) = q ∙ rw a (ap table_of (sym (insert_at number (held t)))) in
        rw (create_of, ← p, e, lt-ltb t.count files_max h, w)

    pub remove_accepted : (i : ℕ) → r ≡ Ok i → remove_of t number ≡ changed (Ok tt) (table_of (without_of number (held t)))
    unfolding remove_of
    remove_accepted i e = rw (remove_of, ← p, e)

    pub remove_done : (i : ℕ) (u : Table) → r ≡ Ok i → u ≡ table_of (take i (held t) ++ drop (i + 1) (held t)) → changed (Ok tt) u ≡ remove_of t number
    unfolding remove_of
    remove_done i u e q =
        let w : u ≡ table_of (without_of number (held t)) = q ∙ ap table_of (sym (found_at i (sym p ∙ e)).left) in
        rw (remove_of, ← p, e, w)

    pub remove_refused : (q : Refusal) → r ≡ Err q → changed (Err q) t ≡ remove_of t number
    unfolding remove_of
    remove_refused q e = rw (remove_of, ← p, e)

    module _ (position : ℕ) (offset whence : ℤ) where
      pub seek_at : (i : ℕ) → r ≡ Ok i → position ≤ size_max → seek_of t (seeking number position offset whence) ≡ whence_of (seeking number position offset whence) (file t i).size
      unfolding seek_of
      seek_at i e h = rw (seek_of, ← p, e, le-leb position size_max h)

      pub seek_far : (i : ℕ) → r ≡ Ok i → size_max < position → (Err Invalid) ≡ seek_of t (seeking number position offset whence)
      unfolding seek_of
      seek_far i e h = rw (seek_of, ← p, e, lt-leb position size_max h)

      pub seek_refused : (q : Refusal) → r ≡ Err q → Err q ≡ seek_of t (seeking number position offset whence)
      unfolding seek_of
      seek_refused q e = rw (seek_of, ← p, e)
