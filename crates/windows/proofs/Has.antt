-- Whether a number is in a list. Assumes nothing.
use mathlib.Core.Path.{◌≡◌, refl, ap, ◌∙◌, sym}
use mathlib.Core.Bool.{Bool, true, false, ◌||◌, or_assoc}
use mathlib.Core.List.{List, [], ◌∷◌, ◌++◌}
use Prim.Native.Nat.{ℕ, ◌<◌}
use borrow.Author.Tests.{eqb-true, eq-eqb}
use lib.Dec.{eqb}
use Rattle.span.specs.Members.{has}
use Rattle.window.proofs.Cases.{no_both}
use Rattle.windows.proofs.Views.{Below}

pub or_right : (a b : Bool) → b ≡ true → (a || b) ≡ true
or_right true b e = refl
or_right false b e = e

pub below_head : (n x : ℕ) (xs : List ℕ) → Below n (x ∷ xs) → x < n
unfolding has
below_head n x xs h = h x (ap (λ (t : Bool). (t || (has xs x))) (eq-eqb x x refl))

pub below_tail : (n x : ℕ) (xs : List ℕ) → Below n (x ∷ xs) → Below n xs
unfolding has
below_tail n x xs h b e = h b (or_right (eqb x b) (has xs b) e)

pub has_cases : (x : ℕ) (xs : List ℕ) (b : ℕ) (P : Type 0) → has (x ∷ xs) b ≡ true → (x ≡ b → P) → (has xs b ≡ true → P) → P
unfolding has
has_cases x xs b P e f g = go (eqb x b) refl e
  where
    go : (t : Bool) → eqb x b ≡ t → (t || (has xs b)) ≡ true → P
    go true q h = f (eqb-true x b q)
    go false q h = g h

pub has_none : (b : ℕ) → has [] b ≡ true → ⊥
unfolding has
has_none b e = no_both false e refl

pub has_head : (x : ℕ) (xs : List ℕ) → has (x ∷ xs) x ≡ true
unfolding has
has_head x xs = ap (λ (t : Bool). (t || (has xs x))) (eq-eqb x x refl)

pub has_tail : (x : ℕ) (xs : List ℕ) (b : ℕ) → has xs b ≡ true → has (x ∷ xs) b ≡ true
unfolding has
has_tail x xs b e = or_right (eqb x b) (has xs b) e

-- false, where true is impossible
pub else_false : (t : Bool) → (t ≡ true → ⊥) → t ≡ false
else_false true h = absurd (h refl)
else_false false h = refl

pub has_append : (xs ys : List ℕ) (b : ℕ) → has (xs ++ ys) b ≡ ((has xs b) || (has ys b))
unfolding has
has_append [] ys b = refl
has_append (x ∷ xs) ys b = ap (λ (t : Bool). ((eqb x b) || t)) (has_append xs ys b) ∙ sym (or_assoc (eqb x b) (has xs b) (has ys b))

pub or_left_false : (p q : Bool) → (p || q) ≡ false → p ≡ false
or_left_false true q e = e
or_left_false false q e = refl

pub or_right_false : (p q : Bool) → (p || q) ≡ false → q ≡ false
or_right_false true q e = absurd (no_both true refl e)
or_right_false false q e = e

pub or_both_false : (p q : Bool) → p ≡ false → q ≡ false → (p || q) ≡ false
or_both_false p q a b = rw (a, b)

-- a block in neither of two lists
pub not_in_both : (xs ys : List ℕ) (b : ℕ) → has xs b ≡ false → has ys b ≡ false → has (xs ++ ys) b ≡ false
not_in_both xs ys b p q = has_append xs ys b ∙ or_both_false _ _ p q

pub not_in_left : (xs ys : List ℕ) (b : ℕ) → has (xs ++ ys) b ≡ false → has xs b ≡ false
not_in_left xs ys b e = or_left_false (has xs b) (has ys b) (sym (has_append xs ys b) ∙ e)

pub not_in_right : (xs ys : List ℕ) (b : ℕ) → has (xs ++ ys) b ≡ false → has ys b ≡ false
not_in_right xs ys b e = or_right_false (has xs b) (has ys b) (sym (has_append xs ys b) ∙ e)

pub not_in_none : (b : ℕ) → has [] b ≡ false
unfolding has
not_in_none b = refl

pub below_append : (n : ℕ) (xs ys : List ℕ) → Below n xs → Below n ys → Below n (xs ++ ys)
below_append n xs ys p q b e = go (has xs b) refl (sym (has_append xs ys b) ∙ e)
  where
    go : (t : Bool) → has xs b ≡ t → (t || (has ys b)) ≡ true → b < n
    go true h k = p b h
    go false h k = q b k

pub below_none : (n : ℕ) → Below n []
below_none n b e = absurd (no_both (has [] b) e (not_in_none b))

pub below_more : (n x : ℕ) (xs : List ℕ) → x < n → Below n xs → Below n (x ∷ xs)
below_more n x xs h k b e = has_cases x xs b (b < n) e (λ q. rw q at h) (λ q. k b q)
