-- Laws of `span`, a run of values of a function: its length, its parts, and two that are the same. Assumes nothing.
use mathlib.Core.Path.{◌≡◌, refl, sym, ap, ◌∙◌}
use mathlib.Core.List.{List, ◌∷◌, ◌++◌}
use Prim.Native.Nat.{ℕ, zero, suc, ◌+◌, ◌-◌, ◌≤◌, ◌<◌}
use native.Mathlib.Nat.{add-zero, zero-add, suc-add, sub-zero}
use native.Mathlib.Omega.{arith}
use lib.ListN.{length, get_or, take, drop}
use lib.Seq.{drop-cons}
use Rattle.plain.specs.Bytes.{span}

-- as many as asked
pub length_span : (f : ℕ → ℕ) (a n : ℕ) → length (span f a n) ≡ n
unfolding span
length_span f a zero = refl
length_span f a (suc n) = ap suc (length_span f (suc a) n)

-- the i-th of them
pub get_d_span : (f : ℕ → ℕ) (a n i : ℕ) → i < n → get_or (span f a n) i 0 ≡ f (a + i)
unfolding span
get_d_span f a zero i h = absurd (omega arith)
get_d_span f a (suc n) zero h = ap f (sym (add-zero a))
get_d_span f a (suc n) (suc i) h = get_d_span f (suc a) n i (omega arith) ∙ ap f (omega arith)

-- two runs of equal values are one
pub span_same : (f g : ℕ → ℕ) (a b n : ℕ) → ((i : ℕ) → i < n → f (a + i) ≡ g (b + i)) → span f a n ≡ span g b n
unfolding span
span_same f g a b zero e = refl
span_same f g a b (suc n) e =
    let e₀ : f a ≡ g b = ap f (sym (add-zero a)) ∙ e 0 (omega arith) ∙ ap g (add-zero b) in
    let r : span f (suc a) n ≡ span g (suc b) n =
    span_same f g (suc a) (suc b) n (λ i h. ap f (omega arith) ∙ e (suc i) (omega arith) ∙ ap g (omega arith)) in
    ap (λ (x : ℕ). x ∷ span f (suc a) n) e₀ ∙ ap (λ (l : List ℕ). g b ∷ l) r

-- the front of a run is a run
pub take_span : (f : ℕ → ℕ) (a m n : ℕ) → m ≤ n → take m (span f a n) ≡ span f a m
unfolding span
take_span f a zero n h = refl
take_span f a (suc m) zero h = absurd (omega arith)
take_span f a (suc m) (suc n) h = ap (λ (l : List ℕ). f a ∷ l) (take_span f (suc a) m n (omega arith))

-- and so is the rest
pub drop_span : (f : ℕ → ℕ) (a m n : ℕ) → m ≤ n → drop m (span f a n) ≡ span f (a + m) (n - m)
unfolding span
drop_span f a zero n h = ap (λ (x : ℕ). span f x n) (sym (add-zero a)) ∙ ap (span f (a + 0)) (sym (sub-zero n))
drop_span f a (suc m) zero h = absurd (omega arith)
drop_span f a (suc m) (suc n) h =
    let e : suc a + m ≡ a + suc m = omega arith in
    let r : n - m ≡ suc n - suc m = omega arith in
    drop_span f (suc a) m n (omega arith) ∙ ap (λ (x : ℕ). span f x (n - m)) e ∙ ap (span f (a + suc m)) r

-- a part of a run from 0
pub part_span : (f : ℕ → ℕ) (pos m n : ℕ) → pos + m ≤ n → take m (drop pos (span f 0 n)) ≡ span f pos m
part_span f pos m n h =
    ap (take m) (drop_span f 0 pos n (omega arith)) ∙ take_span f (0 + pos) m (n - pos) (omega arith) ∙ ap (λ (x : ℕ). span f x m) (zero-add pos)

-- one run, then another
pub span_add : (f : ℕ → ℕ) (a m n : ℕ) → span f a (m + n) ≡ span f a m ++ span f (a + m) n
unfolding span
span_add f a zero n = ap (span f a) (zero-add n) ∙ ap (λ (x : ℕ). span f x n) (sym (add-zero a))
span_add f a (suc m) n =
    let e : span f (suc a + m) n ≡ span f (a + suc m) n = ap (λ (x : ℕ). span f x n) (omega arith) in
    ap (span f a) (suc-add m n) ∙ ap (λ (l : List ℕ). f a ∷ l) (span_add f (suc a) m n ∙ ap (λ (l : List ℕ). span f (suc a) m ++ l) e)

-- a part of a list is a run of its elements
pub span_part : (l : List ℕ) (a n : ℕ) → a + n ≤ length l → take n (drop a l) ≡ span (λ (i : ℕ). get_or l i 0) a n
unfolding span
span_part l a zero h = refl
span_part l a (suc n) h =
    ap (take (suc n)) (drop-cons l a 0 (omega arith)) ∙ ap (λ (r : List ℕ). get_or l a 0 ∷ r) (span_part l (suc a) n (omega arith))
