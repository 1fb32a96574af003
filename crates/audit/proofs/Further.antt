-- The further pointers by their cases, and the ways that a clean walk gets shorter. Assumes nothing.
use mathlib.Core.Path.{◌≡◌, refl, sym, ap, ◌∙◌, subst}
use mathlib.Core.List.{List}
use Prim.Native.Nat.{ℕ, zero, suc, ◌+◌, ◌-◌, ◌^◌, ◌≤◌, ◌<◌}
use native.Mathlib.Nat.{le_of_dvd}
use native.Mathlib.Omega.{arith}
use borrow.Author.Tests.{eq-eqb, ne_eqb}
use Rattle.std.specs.Prelude.{Option, None, Some}
use Rattle.layout.proofs.Bits.{trailing_lt}
use Rattle.hops.specs.Walk.{ctz}
use Rattle.hops.proofs.Digits.{dvd_of_ctz}
use Rattle.card.specs.Card.{pointer}
use Rattle.ctz.specs.Lists.{down}
use Rattle.audit.specs.declared.Fault.{Fault}
use Rattle.audit.specs.declared.Fault.TheVariants.{Disagrees}
use Rattle.audit.specs.Check.{names, further, and_then}
use Rattle.audit.specs.inner.Bounds.{holder, CleanWalk}
use Rattle.audit.proofs.Falling.{down_first}

-- a pointer that index i stores leads no further down than i, and its number is a shift of a u32
pub stored_within : (i x : ℕ) → 0 < i → x ≤ ctz i → 2 ^ x ≤ i
stored_within i x p h = le_of_dvd p (dvd_of_ctz 32 i x h)

pub stored_width : (i : ℕ) → 0 < i → i < 2 ^ 32 → ctz i ≤ 31
stored_width i p h = omega (arith, trailing_lt 32 32 i p h)

pub down_none : (ptr : ℕ → ℕ → ℕ) (k : ℕ) → down ptr k 0 ≡ k
unfolding down
down_none ptr k = refl

-- a clean walk is clean for fewer steps, and from its second block on
module _ {image : List ℕ} {B N : ℕ} where
  pub fewer : {i k : ℕ} (j : ℕ) → j ≤ i → CleanWalk image B N i k → CleanWalk image B N j k
  fewer j h c = record {
    walks = record { room = λ e g. c.walks.room e (omega arith) };
    below = λ e g. c.below e (omega arith);
  }

  pub head_below : {i k : ℕ} → CleanWalk image B N i k → k < N
  head_below {i} {k} c = subst (λ (n : ℕ). n < N) (down_none (pointer B image) k) (c.below 0 (omega arith))

  pub behind : {i k : ℕ} → 0 < i → CleanWalk image B N i k → CleanWalk image B N (i - 1) (pointer B image k 0)
  behind {i} {k} p c = record {
    walks = (fewer (i - 1) (omega arith) c).walks;
    below = λ e g. subst (λ (n : ℕ). n < N) (sym (down_first (pointer B image) k e)) (c.below (suc e) (omega arith));
  }

module _ (ptr : ℕ → ℕ → ℕ) where
  -- the pointers of one index; p is the number stored, q the number met, d indexes below
  pub names_none : (f i k x : ℕ) → f ≡ 0 → names ptr f (holder i k) x ≡ None
  unfolding names
  names_none zero i k x e = refl
  names_none (suc f) i k x e = absurd (omega arith)

  module _ (f i k x p q d : ℕ) (some : 0 < f) (ep : p ≡ ptr k x) (eq : q ≡ down ptr k d) (ed : d ≡ 2 ^ x) where
    met : q ≡ down ptr k (2 ^ x)
    met = eq ∙ ap (down ptr k) ed

    pub names_differ : (p ≡ q → ⊥) → names ptr f (holder i k) x ≡ Some (Disagrees i x)
    unfolding names
    names_differ h = go f some
      where
        go : (f : ℕ) → 0 < f → names ptr f (holder i k) x ≡ Some (Disagrees i x)
        go zero l = absurd (omega arith)
        go (suc f) l = rw (names, ← ep, ← met, ne_eqb p q h)

    pub names_on : p ≡ q → names ptr f (holder i k) x ≡ names ptr (f - 1) (holder i k) (x + 1)
    unfolding names
    names_on h = go f some
      where
        go : (f : ℕ) → 0 < f → names ptr f (holder i k) x ≡ names ptr (f - 1) (holder i k) (x + 1)
        go zero l = absurd (omega arith)
        go (suc f) l =
            let r : f ≡ suc f - 1 = omega arith in
            let y : suc x ≡ x + 1 = omega arith in
            rw (names, eq-eqb _ _ (sym ep ∙ h ∙ met)) (ap (λ (n : ℕ). names ptr n (holder i k) (suc x)) r ∙ ap (λ (n : ℕ). names ptr (suc f - 1) (holder i k) n) y)

  -- the indexes
  pub further_none : (i k : ℕ) → i ≡ 0 → further ptr i k ≡ None
  unfolding further
  further_none zero k e = refl
  further_none (suc i) k e = absurd (omega arith)

  pub further_on : (i k : ℕ) → 0 < i → further ptr i k ≡ and_then (names ptr (ctz i) (holder i k) 1) (further ptr (i - 1) (ptr k 0))
  unfolding further
  further_on zero k l = absurd (omega arith)
  further_on (suc i) k l =
      let r : i ≡ suc i - 1 = omega arith in
      ap (λ (n : ℕ). and_then (names ptr (ctz (suc i)) (holder (suc i) k) 1) (further ptr n (ptr k 0))) r

-- two checks, by the first one's answer r
module _ (r a b : Option Fault) (e : r ≡ a) where
  pub then_sound : r ≡ None → and_then a b ≡ b
  then_sound h = rw (sym e ∙ h) refl

  pub then_unsound : (f : Fault) → r ≡ Some f → and_then a b ≡ r
  then_unsound f h = rw (sym e ∙ h) (sym h)
