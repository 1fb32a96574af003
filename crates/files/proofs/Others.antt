-- What a list of files has of one number, after an empty file is put in and after a file is taken out. Assumes nothing.
use mathlib.Core.Path.{◌≡◌, refl, sym, ap, ◌∙◌}
use mathlib.Core.Bool.{true, false}
use mathlib.Core.List.{List, [], ◌∷◌}
use mathlib.Core.Option.{Option, none, some}
use Prim.Native.Nat.{ℕ, suc, ◌≤◌, ◌<◌}
use native.Mathlib.Omega.{arith}
use borrow.Author.Tests.{lt-ltb, le-ltb, eq-eqb, ne_eqb}
use lib.ListN.{length}
use lib.Dec.{eqb}
use Rattle.layout.specs.Numbers.{number_max}
use Rattle.files.specs.declared.Entry.{Entry}
use Rattle.files.specs.Table.{files_ok}
use Rattle.files.specs.Change.{empty_file, insert_of, without_of}
use Rattle.files.proofs.Tests.{ltb_cases, eqb_cases}
use Rattle.files.proofs.Laws.{first_good, rest_ok, nothing_ok, join_ok, looser, GoodEntry}

-- the file of this number, if there is one
unfoldable pub file_of : ℕ → List Entry → Option Entry
file_of m [] = none
file_of m (e ∷ es) = elim (eqb e.number m) [ true ↦ some e | false ↦ file_of m es ]

pub file_here : (m : ℕ) (e : Entry) (es : List Entry) → e.number ≡ m → file_of m (e ∷ es) ≡ some e
unfolding file_of
file_here m e es h = rw (file_of, eq-eqb e.number m h)

pub file_on : (m : ℕ) (e : Entry) (es : List Entry) → (e.number ≡ m → ⊥) → file_of m (e ∷ es) ≡ file_of m es
unfolding file_of
file_on m e es h = rw (file_of, ne_eqb e.number m h)

-- one turn of each definition
pub insert_here : (n : ℕ) (e : Entry) (es : List Entry) → n ≤ e.number → insert_of n (e ∷ es) ≡ empty_file n ∷ (e ∷ es)
unfolding insert_of
insert_here n e es h = rw (insert_of, le-ltb e.number n h)

pub insert_on : (n : ℕ) (e : Entry) (es : List Entry) → e.number < n → insert_of n (e ∷ es) ≡ e ∷ insert_of n es
unfolding insert_of
insert_on n e es h = rw (insert_of, lt-ltb e.number n h)

without_here : (n : ℕ) (e : Entry) (es : List Entry) → e.number ≡ n → without_of n (e ∷ es) ≡ es
unfolding without_of
without_here n e es h = rw (without_of, eq-eqb e.number n h)

without_on : (n : ℕ) (e : Entry) (es : List Entry) → (e.number ≡ n → ⊥) → without_of n (e ∷ es) ≡ e ∷ without_of n es
unfolding without_of
without_on n e es h = rw (without_of, ne_eqb e.number n h)

-- the same file put before two lists that have the same of m
same_front : (m : ℕ) (e : Entry) (fs es : List Entry) → file_of m fs ≡ file_of m es → file_of m (e ∷ fs) ≡ file_of m (e ∷ es)
same_front m e fs es q =
    eqb_cases e.number m (λ _. file_of m (e ∷ fs) ≡ file_of m (e ∷ es))
    (λ h. file_here m e fs h ∙ sym (file_here m e es h))
    (λ h. file_on m e fs h ∙ q ∙ sym (file_on m e es h))

-- ---- an empty file put in

pub insert_other : (n m : ℕ) (es : List Entry) → (n ≡ m → ⊥) → file_of m (insert_of n es) ≡ file_of m es
unfolding insert_of
insert_other n m [] d = file_on m (empty_file n) [] d
insert_other n m (e ∷ es) d =
    ltb_cases e.number n (λ _. file_of m (insert_of n (e ∷ es)) ≡ file_of m (e ∷ es))
    (λ h. rw (insert_on n e es h) (same_front m e (insert_of n es) es (insert_other n m es d)))
    (λ h. rw (insert_here n e es h) (file_on m (empty_file n) (e ∷ es) d))

pub insert_own : (n : ℕ) (es : List Entry) → file_of n (insert_of n es) ≡ some (empty_file n)
unfolding insert_of
insert_own n [] = file_here n (empty_file n) [] refl
insert_own n (e ∷ es) =
    ltb_cases e.number n (λ _. file_of n (insert_of n (e ∷ es)) ≡ some (empty_file n))
    (λ h. rw (insert_on n e es h) (file_on n e (insert_of n es) (λ q. omega arith) ∙ insert_own n es))
    (λ h. rw (insert_here n e es h) (file_here n (empty_file n) (e ∷ es) refl))

-- put in and taken out again
pub without_insert : (n : ℕ) (es : List Entry) → without_of n (insert_of n es) ≡ es
unfolding insert_of
without_insert n [] = without_here n (empty_file n) [] refl
without_insert n (e ∷ es) =
    ltb_cases e.number n (λ _. without_of n (insert_of n (e ∷ es)) ≡ e ∷ es)
    (λ h. rw (insert_on n e es h) (without_on n e (insert_of n es) (λ q. omega arith) ∙ ap (λ (l : List Entry). e ∷ l) (without_insert n es)))
    (λ h. rw (insert_here n e es h) (without_here n (empty_file n) (e ∷ es) refl))

pub insert_length : (n : ℕ) (es : List Entry) → length (insert_of n es) ≡ suc (length es)
unfolding insert_of
insert_length n [] = refl
insert_length n (e ∷ es) =
    ltb_cases e.number n (λ _. length (insert_of n (e ∷ es)) ≡ suc (suc (length es)))
    (λ h. rw (insert_on n e es h) (ap suc (insert_length n es)))
    (λ h. rw (insert_here n e es h))

-- no file of this number among these
none_head : (n : ℕ) (e : Entry) (es : List Entry) → file_of n (e ∷ es) ≡ none → e.number ≡ n → ⊥
none_head n e es q h = let z : ◌≡◌ {A = ℕ} 0 1 = cc (file_here n e es h) in omega arith

none_rest : (n : ℕ) (e : Entry) (es : List Entry) → file_of n (e ∷ es) ≡ none → file_of n es ≡ none
none_rest n e es q = sym (file_on n e es (none_head n e es q)) ∙ q

empty_good : (least n : ℕ) → least ≤ n → n ≤ number_max → GoodEntry least (empty_file n)
empty_good least n h k =
    record { least_le = h; number_le = k; size_le = omega arith; head_null = λ z. refl; head_le = λ p. absurd (omega arith) }

above : (least low : ℕ) (e : Entry) → low ≤ e.number → GoodEntry least e → GoodEntry low e
above least low e h g =
    record { least_le = h; number_le = g.number_le; size_le = g.size_le; head_null = g.head_null; head_le = g.head_le }

pub insert_ok : (least n : ℕ) (es : List Entry) → files_ok least es ≡ true → file_of n es ≡ none → least ≤ n → n ≤ number_max → files_ok least (insert_of n es) ≡ true
unfolding insert_of
insert_ok least n [] h q a b = join_ok least (empty_file n) [] (empty_good least n a b) (nothing_ok (suc n))
insert_ok least n (e ∷ es) h q a b =
    ltb_cases e.number n (λ _. files_ok least (insert_of n (e ∷ es)) ≡ true)
    (λ l. rw (insert_on n e es l)
    (join_ok least e (insert_of n es) (first_good least e es h) (insert_ok (suc e.number) n es (rest_ok least e es h) (none_rest n e es q) l b)))
    (λ l. rw (insert_here n e es l)
    (let d : n ≡ e.number → ⊥ = λ x. none_head n e es q (sym x) in
    join_ok least (empty_file n) (e ∷ es) (empty_good least n a b)
    (join_ok (suc n) e es (above least (suc n) e (omega arith) (first_good least e es h)) (rest_ok least e es h))))

-- ---- a file taken out

pub without_other : (n m : ℕ) (es : List Entry) → (n ≡ m → ⊥) → file_of m (without_of n es) ≡ file_of m es
unfolding without_of
without_other n m [] d = refl
without_other n m (e ∷ es) d =
    eqb_cases e.number n (λ _. file_of m (without_of n (e ∷ es)) ≡ file_of m (e ∷ es))
    (λ h. rw (without_here n e es h) (sym (file_on m e es (λ q. d (sym h ∙ q)))))
    (λ h. rw (without_on n e es h) (same_front m e (without_of n es) es (without_other n m es d)))

-- no file of a number below all
none_below : (least n : ℕ) (es : List Entry) → files_ok least es ≡ true → n < least → file_of n es ≡ none
unfolding file_of
none_below least n [] h l = refl
none_below least n (e ∷ es) h l =
    let g = first_good least e es h in
    file_on n e es (λ q. omega (arith, g.least_le)) ∙ none_below (suc e.number) n es (rest_ok least e es h) (omega (arith, g.least_le))

pub without_own : (least n : ℕ) (es : List Entry) → files_ok least es ≡ true → file_of n (without_of n es) ≡ none
unfolding without_of file_of
without_own least n [] h = refl
without_own least n (e ∷ es) h =
    eqb_cases e.number n (λ _. file_of n (without_of n (e ∷ es)) ≡ none)
    (λ q. rw (without_here n e es q) (none_below (suc e.number) n es (rest_ok least e es h) (omega arith)))
    (λ q. rw (without_on n e es q) (file_on n e (without_of n es) q ∙ without_own (suc e.number) n es (rest_ok least e es h)))

pub lower_ok : (least low : ℕ) (es : List Entry) → low ≤ least → files_ok least es ≡ true → files_ok low es ≡ true
lower_ok least low [] l h = nothing_ok low
lower_ok least low (e ∷ es) l h = join_ok low e es (looser least low e l (first_good least e es h)) (rest_ok least e es h)

pub without_ok : (least n : ℕ) (es : List Entry) → files_ok least es ≡ true → files_ok least (without_of n es) ≡ true
unfolding without_of
without_ok least n [] h = h
without_ok least n (e ∷ es) h =
    let g = first_good least e es h in
    eqb_cases e.number n (λ _. files_ok least (without_of n (e ∷ es)) ≡ true)
    (λ q. rw (without_here n e es q) (lower_ok (suc e.number) least es (omega (arith, g.least_le)) (rest_ok least e es h)))
    (λ q. rw (without_on n e es q) (join_ok least e (without_of n es) g (without_ok (suc e.number) n es (rest_ok least e es h))))

pub without_length : (n : ℕ) (es : List Entry) → length (without_of n es) ≤ length es
unfolding without_of
without_length n [] = omega arith
without_length n (e ∷ es) =
    let i = without_length n es in
    eqb_cases e.number n (λ _. length (without_of n (e ∷ es)) ≤ suc (length es))
    (λ q. rw (without_here n e es q) (omega arith))
    (λ q. rw (without_on n e es q) (omega arith))
