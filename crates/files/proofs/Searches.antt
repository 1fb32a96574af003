-- What the search says of the file of a number. Assumes nothing.
use mathlib.Core.Path.{◌≡◌, refl, sym, ap, ◌∙◌}
use mathlib.Core.Bool.{true, false}
use mathlib.Core.List.{List, [], ◌∷◌}
use mathlib.Core.Option.{none, some}
use Prim.Native.Nat.{ℕ, zero, suc, ◌+◌, ◌-◌}
use native.Mathlib.Omega.{arith}
use borrow.Author.Tests.{eq-eqb, ne_eqb}
use lib.ListN.{get_or}
use Rattle.files.specs.declared.Entry.{Entry}
use Rattle.std.specs.Prelude.{Ok, Err}
use Rattle.layout.specs.declared.Refusal.TheVariants.{Missing, Invalid}
use Rattle.files.specs.Table.{no_entry, search_of}
use Rattle.files.specs.Change.{empty_file, insert_of}
use Rattle.files.specs.inner.Facts.{slot_for}
use Rattle.files.proofs.Tests.{ltb_cases, eqb_cases}
use Rattle.files.proofs.Lists.{stands}
use Rattle.files.proofs.Others.{file_of, file_here, file_on, insert_here, insert_on}

pub search_here : (i n : ℕ) (e : Entry) (es : List Entry) → e.number ≡ n → search_of n (e ∷ es) i ≡ Ok i
unfolding search_of
search_here i n e es h = rw (search_of, eq-eqb e.number n h)

pub search_on : (i n : ℕ) (e : Entry) (es : List Entry) → (e.number ≡ n → ⊥) → search_of n (e ∷ es) i ≡ search_of n es (suc i)
unfolding search_of
search_on i n e es h = rw (search_of, ne_eqb e.number n h)

pub missing_none : (i n : ℕ) (es : List Entry) → search_of n es i ≡ Err Missing → file_of n es ≡ none
unfolding file_of
missing_none i n [] q = refl
missing_none i n (e ∷ es) q =
    eqb_cases e.number n (λ _. file_of n (e ∷ es) ≡ none)
    (λ h. let z : ◌≡◌ {A = ℕ} 0 1 = cc (search_here i n e es h) in absurd (omega arith))
    (λ h. file_on n e es h ∙ missing_none (suc i) n es (sym (search_on i n e es h) ∙ q))

pub found_some : (i n j : ℕ) (es : List Entry) → search_of n es i ≡ Ok j → file_of n es ≡ some (get_or es (j - i) no_entry)
unfolding search_of
found_some i n j [] q = let z : ◌≡◌ {A = ℕ} 0 1 = cc in absurd (omega arith)
found_some i n j (e ∷ es) q =
    eqb_cases e.number n (λ _. file_of n (e ∷ es) ≡ some (get_or (e ∷ es) (j - i) no_entry))
    (λ h.
    let s : i ≡ j = cc (search_here i n e es h) in
    let d : j - i ≡ zero = omega arith in
    rw d (file_here n e es h))
    (λ h.
    let p = sym (search_on i n e es h) ∙ q in
    let s = stands n (suc i) j es p in
    let d : j - i ≡ suc (j - suc i) = omega (arith, s.from) in
    rw d (file_on n e es h ∙ found_some (suc i) n j es p))

pub search_insert : (i n : ℕ) (es : List Entry) → search_of n (insert_of n es) i ≡ Ok (i + slot_for n es)
unfolding insert_of slot_for
search_insert i n [] = search_here i n (empty_file n) [] refl ∙ ap Ok (omega arith)
search_insert i n (e ∷ es) =
    ltb_cases e.number n (λ b. search_of n (insert_of n (e ∷ es)) i ≡ Ok (i + (elim b [ true ↦ suc (slot_for n es) | false ↦ 0 ])))
    (λ h. rw (insert_on n e es h) (search_on i n e (insert_of n es) (λ q. omega arith) ∙ search_insert (suc i) n es ∙ ap Ok (omega arith)))
    (λ h. rw (insert_here n e es h) (search_here i n (empty_file n) (e ∷ es) refl ∙ ap Ok (omega arith)))

pub search_answers : (i n : ℕ) (es : List Entry) → search_of n es i ≡ Err Invalid → ⊥
unfolding search_of
search_answers i n [] q = let z : ◌≡◌ {A = ℕ} 0 1 = cc in omega arith
search_answers i n (e ∷ es) q =
    eqb_cases e.number n (λ _. ⊥)
    (λ h. let z : ◌≡◌ {A = ℕ} 0 1 = cc (search_here i n e es h) in omega arith)
    (λ h. search_answers (suc i) n es (sym (search_on i n e es h) ∙ q))
