-- A file by its number: where it stands among the files of a table, or that there is none. Assumes nothing.
use mathlib.Core.Path.{◌≡◌, sym, ◌∙◌, subst}
use mathlib.Core.Bool.{true, false}
use mathlib.Core.List.{List, [], ◌∷◌}
use Prim.Native.Nat.{ℕ, zero, suc, ◌-◌, ◌≤◌, ◌<◌}
use native.Mathlib.Nat.{sub-zero}
use native.Mathlib.Omega.{arith}
use borrow.Author.Tests.{le-leb, lt-leb}
use lib.ListN.{get_or}
use lib.Seq.{get_or-take}
use Rattle.layout.specs.Numbers.{number_max, size_max}
use Rattle.files.specs.declared.Entry.{Entry}
use Rattle.files.specs.declared.Table.{Table}
use Rattle.std.specs.Prelude.{Result, Ok, Err}
use Rattle.layout.specs.declared.Refusal.{Refusal}
use Rattle.layout.specs.declared.Refusal.TheVariants.{Missing, Invalid}
use Rattle.files.specs.Table.{no_entry, held, file, table_ok, search_of, find_of}
use Rattle.files.proofs.Tests.{eqb_cases, leb_cases}
use Rattle.files.proofs.Searches.{search_answers}
use Rattle.files.proofs.Cases.{find_no_number, find_is, found_at, found_cases}
use Rattle.reading.specs.inner.Bounds.{file_position}
use Rattle.demands.specs.Plain.{PlainFile, has_file, Met, refused, met, meets}
use Rattle.demands.proofs.Again.{AtPlace, first as first-place, next as next_place}

-- e is the first file of that number, at place m
pub data Placed (number : ℕ) (e : Entry) : ℕ → List Entry → Type 0 where
  first : {es : List Entry} → e.number ≡ number → Placed number e zero (e ∷ es)
  next : {m : ℕ} {x : Entry} {es : List Entry} → (x.number ≡ number → ⊥) → Placed number e m es → Placed number e (suc m) (x ∷ es)

-- none of these files has that number
pub data Unnamed (number : ℕ) : List Entry → Type 0 where
  none : Unnamed number []
  one : {x : Entry} {es : List Entry} → (x.number ≡ number → ⊥) → Unnamed number es → Unnamed number (x ∷ es)

pub placed_at : {number : ℕ} {e : Entry} {m : ℕ} {es : List Entry} → Placed number e m es → AtPlace e m es
placed_at (first _) = first-place
placed_at (next _ p) = next_place (placed_at p)

-- what a search answers
pub searched_at : (number i j : ℕ) (es : List Entry) → search_of number es i ≡ Ok j → (i ≤ j) × Placed number (get_or es (j - i) no_entry) (j - i) es
unfolding search_of
searched_at number i j [] q = let z : ◌≡◌ {A = ℕ} 0 1 = cc in absurd (omega arith)
searched_at number i j (e ∷ es) q =
    eqb_cases e.number number
    (λ b. (elim b [ true ↦ Ok i | false ↦ search_of number es (suc i) ]) ≡ Ok j
    → (i ≤ j) × Placed number (get_or (e ∷ es) (j - i) no_entry) (j - i) (e ∷ es))
    (λ p h.
    let z : i ≡ j = cc in
    let d : 0 ≡ j - i = omega arith in
    (omega arith, subst (λ (k : ℕ). Placed number (get_or (e ∷ es) k no_entry) k (e ∷ es)) d (first p)))
    (λ p h.
    let r = searched_at number (suc i) j es h in
    let d : suc (j - suc i) ≡ j - i = omega (arith, r.0) in
    (omega (arith, r.0), subst (λ (k : ℕ). Placed number (get_or (e ∷ es) k no_entry) k (e ∷ es)) d (next p r.1)))
    q

pub searched_missing : (number i : ℕ) (es : List Entry) → search_of number es i ≡ Err Missing → Unnamed number es
unfolding search_of
searched_missing number i [] q = none
searched_missing number i (e ∷ es) q =
    eqb_cases e.number number
    (λ b. (elim b [ true ↦ Ok i | false ↦ search_of number es (suc i) ]) ≡ Err Missing → Unnamed number (e ∷ es))
    (λ p h. let z : ◌≡◌ {A = ℕ} 0 1 = cc in absurd (omega arith))
    (λ p h. one p (searched_missing number (suc i) es h))
    q

-- what find answers on a table that is not refused
pub data FindView (t : Table) (number : ℕ) : Result ℕ Refusal → Type 0 where
  high : number_max < number → FindView t number (Err Invalid)
  missing : number ≤ number_max → Unnamed number (held t) → FindView t number (Err Missing)
  at : (i : ℕ) → number ≤ number_max → i < t.count → Placed number (file t i) i (held t) → FindView t number (Ok i)

pub find_view : (t : Table) (number : ℕ) → table_ok t ≡ true → FindView t number (find_of t number)
find_view t number ok = leb_cases number number_max (λ b. FindView t number (find_of t number)) inside outside
  where
    outside : number_max < number → FindView t number (find_of t number)
    outside h = subst (FindView t number) (sym (find_no_number t number ok h)) (high h)

    here : number ≤ number_max → (i : ℕ) → find_of t number ≡ Ok i → FindView t number (Ok i)
    here h i q =
        let b = (found_at t number i q).below in
        let p = (searched_at number 0 i (held t) (sym (find_is t number ok h) ∙ q)).1 in
        let p' : Placed number (get_or (held t) i no_entry) i (held t) = rw (sub-zero i) at p in
        at i h b (subst (λ (e : Entry). Placed number e i (held t)) (get_or-take t.count t.files i no_entry b) p')

    inside : number ≤ number_max → FindView t number (find_of t number)
    inside h =
        found_cases t number (FindView t number (find_of t number))
        (λ i q. subst (FindView t number) (sym q) (here h i q))
        (λ q. subst (FindView t number) (sym q) (missing h (searched_missing number 0 (held t) (sym (find_is t number ok h) ∙ q))))
        (λ q. absurd (search_answers 0 number (held t) (sym (find_is t number ok h) ∙ q)))

-- ---- what a call meets among plain files

module _ (number p : ℕ) (fs : List PlainFile) where
  pub meets_high : number_max < number → meets (file_position number p) fs ≡ refused
  unfolding meets
  meets_high h = rw (meets, lt-leb number number_max h)

  pub meets_none : number ≤ number_max → has_file number fs ≡ false → meets (file_position number p) fs ≡ Met.missing
  unfolding meets
  meets_none h q = rw (meets, le-leb number number_max h, q)

  pub meets_far : number ≤ number_max → has_file number fs ≡ true → size_max < p → meets (file_position number p) fs ≡ refused
  unfolding meets
  meets_far h q f = rw (meets, le-leb number number_max h, q, lt-leb p size_max f)

  pub meets_file_lem : number ≤ number_max → has_file number fs ≡ true → p ≤ size_max → meets (file_position number p) fs ≡ met
  unfolding meets
  meets_file_lem h q n = rw (meets, le-leb number number_max h, q, le-leb p size_max n)
