-- The files of a table as plain files: a file put in, taken out or changed in the table is so among the plain files. Assumes nothing.
use mathlib.Core.Path.{◌≡◌, refl, ap, ap₂, ◌∙◌, subst}
use mathlib.Core.Logic.{◌⊎◌, inl, inr}
use mathlib.Core.Bool.{Bool, true, false}
use mathlib.Core.List.{List, [], ◌∷◌, map}
use Prim.Native.Nat.{ℕ}
use borrow.Author.Tests.{eq-eqb, ne_eqb, eqb-true}
use lib.Dec.{ltb, eqb}
use lib.ListN.{set}
use Rattle.layout.specs.inner.Served.{block_list}
use Rattle.plain.specs.Bytes.{span, bytes}
use Rattle.files.specs.declared.Entry.{Entry}
use Rattle.files.specs.Change.{empty_file, insert_of, without_of}
use Rattle.demands.specs.Came.{Among, here, there}
use Rattle.demands.specs.Plain.{PlainFile, plain_create, plain_remove, plain_change, has_file, file_bytes}
use Rattle.demands.specs.Runs.{file_in}
use Rattle.demands.proofs.Named.{Placed, first, next, Unnamed, none, one}

-- how these files read
abbrev pub Plainly : ℕ → List ℕ → List Entry → List PlainFile
Plainly B img es = map (file_in B img) es

-- a change that changes nothing
pub change_none : (number : ℕ) (g : List ℕ → List ℕ) → ((bs : List ℕ) → g bs ≡ bs) → (fs : List PlainFile) → plain_change number g fs ≡ fs
unfolding plain_change
change_none number g k [] = refl
change_none number g k (f ∷ fs) = go (eqb f.number number) refl (change_none number g k fs)
  where
    go : (t : Bool) → eqb f.number number ≡ t → plain_change number g fs ≡ fs → plain_change number g (f ∷ fs) ≡ f ∷ fs
    go true q ih = rw (plain_change, q) (ap (λ (bs : List ℕ). record { number = f.number; bytes = bs } ∷ fs) (k f.bytes))
    go false q ih = rw (plain_change, q) (ap (λ (gs : List PlainFile). f ∷ gs) ih)

module _ (B : ℕ) (img : List ℕ) where
  -- whether there is one of that number, and its bytes
  pub placed_holds : {number : ℕ} {e : Entry} {m : ℕ} {es : List Entry} → Placed number e m es → has_file number (map (file_in B img) es) ≡ true
  unfolding has_file
  placed_holds {number} {e = e} (first q) = rw (has_file, eq-eqb e.number number q)
  placed_holds {number} (next {x = x} n p) = rw (has_file, ne_eqb x.number number n) (placed_holds p)

  pub unnamed_holds : {number : ℕ} {es : List Entry} → Unnamed number es → has_file number (map (file_in B img) es) ≡ false
  unfolding has_file
  unnamed_holds none = refl
  unnamed_holds {number} (one {x = x} n u) = rw (has_file, ne_eqb x.number number n) (unnamed_holds u)

  pub placed_bytes : {number : ℕ} {e : Entry} {m : ℕ} {es : List Entry} → Placed number e m es → file_bytes number (map (file_in B img) es) ≡ bytes B img (block_list e.head e.size)
  unfolding file_bytes
  placed_bytes {number} {e = e} (first q) = rw (file_bytes, eq-eqb e.number number q)
  placed_bytes {number} (next {x = x} n p) = rw (file_bytes, ne_eqb x.number number n) (placed_bytes p)

  no_bytes : (number : ℕ) → file_in B img (empty_file number) ≡ record { number = number; bytes = [] }
  unfolding bytes span
  no_bytes number = refl

  -- an empty file put in
  pub create_files : (number : ℕ) (es : List Entry) → map (file_in B img) (insert_of number es) ≡ plain_create number (map (file_in B img) es)
  unfolding insert_of plain_create
  create_files number [] = ap (λ (f : PlainFile). f ∷ []) (no_bytes number)
  create_files number (e ∷ es) = go (ltb e.number number) refl (create_files number es)
    where
      go : (t : Bool) → ltb e.number number ≡ t → map (file_in B img) (insert_of number es) ≡ plain_create number (map (file_in B img) es)
          → map (file_in B img) (insert_of number (e ∷ es)) ≡ plain_create number (map (file_in B img) (e ∷ es))
      go true q ih = rw (insert_of, plain_create, q) (ap (λ (fs : List PlainFile). file_in B img e ∷ fs) ih)
      go false q ih = rw (insert_of, plain_create, q) (ap (λ (f : PlainFile). f ∷ map (file_in B img) (e ∷ es)) (no_bytes number))

  -- a file taken out
  pub remove_files : (number : ℕ) (es : List Entry) → map (file_in B img) (without_of number es) ≡ plain_remove number (map (file_in B img) es)
  unfolding without_of plain_remove
  remove_files number [] = refl
  remove_files number (e ∷ es) = go (eqb e.number number) refl (remove_files number es)
    where
      go : (t : Bool) → eqb e.number number ≡ t → map (file_in B img) (without_of number es) ≡ plain_remove number (map (file_in B img) es)
          → map (file_in B img) (without_of number (e ∷ es)) ≡ plain_remove number (map (file_in B img) (e ∷ es))
      go true q ih = rw (without_of, plain_remove, q)
      go false q ih = rw (without_of, plain_remove, q) (ap (λ (fs : List PlainFile). file_in B img e ∷ fs) ih)

module _ (B : ℕ) (img img' : List ℕ) where
  -- files that read as before
  abbrev pub Read : List Entry → Type 0
  Read es = (x : Entry) → Among x es → bytes B img' (block_list x.head x.size) ≡ bytes B img (block_list x.head x.size)

  pub same_files : (es : List Entry) → Read es → map (file_in B img') es ≡ map (file_in B img) es
  same_files [] r = refl
  same_files (x ∷ es) r =
      ap₂ (λ (bs : List ℕ) (fs : List PlainFile). record { number = x.number; bytes = bs } ∷ fs) (r x here) (same_files es (λ y a. r y (there a)))

  -- one file changed
  pub change_files : {number : ℕ} {e : Entry} {m : ℕ} {es : List Entry} (g : List ℕ → List ℕ) → Placed number e m es → Read es → (e' : Entry)
      → e'.number ≡ e.number → bytes B img' (block_list e'.head e'.size) ≡ g (bytes B img (block_list e.head e.size))
      → map (file_in B img') (set es m e') ≡ plain_change number g (map (file_in B img) es)
  unfolding plain_change
  change_files {number} {e = e} g (first {es} q) r e' n b =
      rw (plain_change, eq-eqb e.number number q)
      (ap₂ (λ (f : PlainFile) (fs : List PlainFile). f ∷ fs) (ap₂ (λ (k : ℕ) (bs : List ℕ). record { number = k; bytes = bs }) n b)
      (same_files es (λ y a. r y (there a))))
  change_files {number} g (next {m} {x} {es} k p) r e' n b =
      rw (plain_change, ne_eqb x.number number k)
      (ap₂ (λ (bs : List ℕ) (fs : List PlainFile). record { number = x.number; bytes = bs } ∷ fs) (r x here)
      (change_files g p (λ y a. r y (there a)) e' n b))

-- a file in its own place
pub set_same : {number : ℕ} {e : Entry} {m : ℕ} {es : List Entry} → Placed number e m es → set es m e ≡ es
set_same (first q) = refl
set_same (next {x = x} k p) = ap (λ (es : List Entry). x ∷ es) (set_same p)

-- ---- the entries of the other files

pub set_kept : {number : ℕ} {e : Entry} {m : ℕ} {x : Entry} {es : List Entry} (e' : Entry) → Placed number e m es → (x.number ≡ number → ⊥) → Among x es → Among x (set es m e')
set_kept e' (first q) n here = absurd (n q)
set_kept e' (first q) n (there a) = there a
set_kept e' (next k p) n here = here
set_kept e' (next k p) n (there a) = there (set_kept e' p n a)

pub set_from : {number : ℕ} {e : Entry} {m : ℕ} {x : Entry} {es : List Entry} (e' : Entry) → Placed number e m es → e'.number ≡ e.number → (x.number ≡ number → ⊥)
    → Among x (set es m e') → Among x es
set_from e' (first q) r n here = absurd (n (r ∙ q))
set_from e' (first q) r n (there a) = there a
set_from e' (next k p) r n here = here
set_from e' (next k p) r n (there a) = there (set_from e' p r n a)

-- one of several files is the first, or one of the rest
among_cases : {x e : Entry} {es : List Entry} → Among x (e ∷ es) → (x ≡ e) ⊎ Among x es
among_cases here = inl refl
among_cases (there a) = inr a

first_is : {x e : Entry} (es : List Entry) → x ≡ e → Among x (e ∷ es)
first_is {x} es q = subst (λ (y : Entry). Among x (y ∷ es)) q here

pub insert_kept : (number : ℕ) (x : Entry) (es : List Entry) → Among x es → Among x (insert_of number es)
unfolding insert_of
insert_kept number x [] a = elim a [ ]
insert_kept number x (e ∷ es) a = go (ltb e.number number) refl (among_cases a) (insert_kept number x es)
  where
    go : (t : Bool) → ltb e.number number ≡ t → (x ≡ e) ⊎ Among x es → (Among x es → Among x (insert_of number es)) → Among x (insert_of number (e ∷ es))
    go true q (inl z) ih = rw (insert_of, q) (first_is (insert_of number es) z)
    go true q (inr b) ih = rw (insert_of, q) (there (ih b))
    go false q b ih = rw (insert_of, q) (there a)

pub insert_from : (number : ℕ) (x : Entry) (es : List Entry) → (x.number ≡ number → ⊥) → Among x (insert_of number es) → Among x es
unfolding insert_of
insert_from number x [] n here = absurd (n refl)
insert_from number x [] n (there a) = a
insert_from number x (e ∷ es) n a = go (ltb e.number number) refl (insert_from number x es n)
  where
    cut : (x ≡ e) ⊎ Among x (insert_of number es) → (Among x (insert_of number es) → Among x es) → Among x (e ∷ es)
    cut (inl z) ih = first_is es z
    cut (inr b) ih = there (ih b)

    off : (x ≡ empty_file number) ⊎ Among x (e ∷ es) → Among x (e ∷ es)
    off (inl z) = absurd (n (ap (λ (y : Entry). y.number) z))
    off (inr b) = b

    go : (t : Bool) → ltb e.number number ≡ t → (Among x (insert_of number es) → Among x es) → Among x (e ∷ es)
    go true q ih = cut (among_cases (rw (insert_of, q) at a)) ih
    go false q ih = off (among_cases (rw (insert_of, q) at a))

pub without_kept : (number : ℕ) (x : Entry) (es : List Entry) → (x.number ≡ number → ⊥) → Among x es → Among x (without_of number es)
unfolding without_of
without_kept number x [] n a = elim a [ ]
without_kept number x (e ∷ es) n a = go (eqb e.number number) refl (among_cases a) (without_kept number x es n)
  where
    go : (t : Bool) → eqb e.number number ≡ t → (x ≡ e) ⊎ Among x es → (Among x es → Among x (without_of number es)) → Among x (without_of number (e ∷ es))
    go true q (inl z) ih = absurd (n (ap (λ (y : Entry). y.number) z ∙ eqb-true e.number number q))
    go true q (inr b) ih = rw (without_of, q) b
    go false q (inl z) ih = rw (without_of, q) (first_is (without_of number es) z)
    go false q (inr b) ih = rw (without_of, q) (there (ih b))

pub without_from : (number : ℕ) (x : Entry) (es : List Entry) → Among x (without_of number es) → Among x es
unfolding without_of
without_from number x [] a = elim a [ ]
without_from number x (e ∷ es) a = go (eqb e.number number) refl (without_from number x es)
  where
    cut : (x ≡ e) ⊎ Among x (without_of number es) → (Among x (without_of number es) → Among x es) → Among x (e ∷ es)
    cut (inl z) ih = first_is es z
    cut (inr b) ih = there (ih b)

    go : (t : Bool) → eqb e.number number ≡ t → (Among x (without_of number es) → Among x es) → Among x (e ∷ es)
    go true q ih = there (rw (without_of, q) at a)
    go false q ih = cut (among_cases (rw (without_of, q) at a)) ih
