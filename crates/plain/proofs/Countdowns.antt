-- What a countdown holds: f i, .., f 0, and nothing else. Assumes nothing.
use mathlib.Core.Path.{◌≡◌, refl, sym, ap, ◌∙◌}
use mathlib.Core.Bool.{Bool, true, false, ◌||◌, or-true}
use mathlib.Core.List.{List, [], ◌∷◌}
use Prim.Native.Nat.{ℕ, zero, suc, ◌≤◌}
use native.Mathlib.Omega.{arith}
use borrow.Author.Tests.{eqb-true, eqb-false, eq-eqb}
use lib.Dec.{eqb}
use Rattle.span.specs.Members.{has}
use Rattle.plain.proofs.Same.{countdown}

-- each value is among them
pub among_countdown : (f : ℕ → ℕ) (i j : ℕ) → j ≤ i → has (countdown f i) (f j) ≡ true
unfolding has countdown
among_countdown f zero j h = let z : j ≡ 0 = omega arith in rw (eq-eqb (f 0) (f j) (ap f (sym z)))
among_countdown f (suc i) j h = go (eqb j (suc i)) refl (among_countdown f i j)
  where
    go : (t : Bool) → eqb j (suc i) ≡ t → (j ≤ i → has (countdown f i) (f j) ≡ true)
        → (eqb (f (suc i)) (f j) || has (countdown f i) (f j)) ≡ true
    go true e ih = rw (eq-eqb (f (suc i)) (f j) (ap f (sym (eqb-true j (suc i) e))))
    go false e ih = let ne = eqb-false j (suc i) e in rw (ih (omega arith)) (or-true (eqb (f (suc i)) (f j)))

-- and what is among them is one of these values
pub countdown_among : (f : ℕ → ℕ) (i k : ℕ) → has (countdown f i) k ≡ true → (j : ℕ) × (j ≤ i) × (f j ≡ k)
unfolding has countdown
countdown_among f zero k h = go (eqb (f 0) k) refl h
  where
    go : (t : Bool) → eqb (f 0) k ≡ t → (t || false) ≡ true → (j : ℕ) × (j ≤ 0) × (f j ≡ k)
    go true e h = (0, omega arith, eqb-true (f 0) k e)
    go false e h = absurd (let z : ◌≡◌ {A = ℕ} 0 1 = cc in omega arith)
countdown_among f (suc i) k h = go (eqb (f (suc i)) k) refl h (countdown_among f i k)
  where
    go : (t : Bool) → eqb (f (suc i)) k ≡ t → (t || has (countdown f i) k) ≡ true
        → (has (countdown f i) k ≡ true → (j : ℕ) × (j ≤ i) × (f j ≡ k)) → (j : ℕ) × (j ≤ suc i) × (f j ≡ k)
    go true e h ih = (suc i, omega arith, eqb-true (f (suc i)) k e)
    go false e h ih = let r = ih h in (r.0, omega arith, r.2)

-- equal values make equal countdowns
pub countdown_same : (f g : ℕ → ℕ) (i : ℕ) → ((j : ℕ) → j ≤ i → f j ≡ g j) → countdown f i ≡ countdown g i
unfolding countdown
countdown_same f g zero e = ap (λ (x : ℕ). x ∷ []) (e 0 (omega arith))
countdown_same f g (suc i) e =
    ap (λ (x : ℕ). x ∷ countdown f i) (e (suc i) (omega arith))
    ∙ ap (λ (l : List ℕ). g (suc i) ∷ l) (countdown_same f g i (λ j h. e j (omega arith)))
