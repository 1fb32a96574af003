-- By cases on a test, with what the test says. Assumes nothing.
use mathlib.Core.Path.{◌≡◌, refl}
use mathlib.Core.Bool.{Bool, true, false}
use Prim.Native.Nat.{ℕ, ◌≤◌, ◌<◌}
use native.Mathlib.Omega.{arith}
use borrow.Author.Tests.{ltb-true, ltb-false, eqb-true, eqb-false}
use lib.Dec.{ltb, eqb}

pub ltb_cases : (a b : ℕ) (P : Bool → Type 0) → (a < b → P true) → (b ≤ a → P false) → P (ltb a b)
ltb_cases a b P f g = go (ltb a b) refl
  where
    go : (t : Bool) → ltb a b ≡ t → P t
    go true e = f (ltb-true a b e)
    go false e = g (ltb-false a b e)

pub eqb_cases : (a b : ℕ) (P : Bool → Type 0) → (a ≡ b → P true) → ((a ≡ b → ⊥) → P false) → P (eqb a b)
eqb_cases a b P f g = go (eqb a b) refl
  where
    go : (t : Bool) → eqb a b ≡ t → P t
    go true e = f (eqb-true a b e)
    go false e = g (eqb-false a b e)

pub no_both : (x : Bool) → x ≡ true → x ≡ false → ⊥
no_both x p q = let z : ◌≡◌ {A = ℕ} 0 1 = cc in omega arith
