-- The pointer-0 walk by its cases, a map of bits that agrees with the numbers met, and what a clean walk tells. Assumes nothing.
use mathlib.Core.Path.{◌≡◌, refl, ap, ◌∙◌, subst}
use mathlib.Core.Bool.{Bool, true, false}
use mathlib.Core.List.{List, [], ◌∷◌}
use Prim.Native.Nat.{ℕ, zero, suc, ◌-◌, ◌/◌, ◌≤◌, ◌<◌}
use native.Mathlib.Nat.{zero-div}
use native.Mathlib.Omega.{arith}
use borrow.Author.Tests.{lt-ltb, le-ltb, ltb-true}
use lib.Dec.{ltb}
use lib.ListN.{length, length-set, replicate, get_or-replicate, length-replicate}
use Rattle.std.specs.Prelude.{Option, None, Some}
use Rattle.std.proofs.lemmas.Bool.Decides.{nat_tests}
use Rattle.span.specs.Members.{has, bit_in, with_bit_in}
use Rattle.ctz.specs.Lists.{down}
use Rattle.ctz.specs.inner.Forms.{pointers_with}
use Rattle.audit.specs.declared.Fault.{Fault}
use Rattle.audit.specs.declared.Fault.TheVariants.{NotBelow, MetBefore}
use Rattle.audit.specs.Check.{falls}
use Rattle.span.proofs.Bitmap.{bit_put}

module _ (ptr : ℕ → ℕ → ℕ) (N : ℕ) where
  pub falls_far : (i k : ℕ) (met : List ℕ) → N ≤ k → falls (pointers_with N ptr) i k met ≡ Some (NotBelow i 0)
  unfolding falls
  falls_far zero k met h = rw (falls, le-ltb k N h)
  falls_far (suc i) k met h = rw (falls, le-ltb k N h)

  pub falls_again : (i k : ℕ) (met : List ℕ) → k < N → has met k ≡ true → falls (pointers_with N ptr) i k met ≡ Some (MetBefore i 0)
  unfolding falls
  falls_again zero k met h e = rw (falls, lt-ltb k N h, e)
  falls_again (suc i) k met h e = rw (falls, lt-ltb k N h, e)

  pub falls_end : (i k : ℕ) (met : List ℕ) → k < N → has met k ≡ false → i ≡ 0 → falls (pointers_with N ptr) i k met ≡ None
  unfolding falls
  falls_end zero k met h e z = rw (falls, lt-ltb k N h, e)
  falls_end (suc i) k met h e z = absurd (omega arith)

  pub falls_on : (i k : ℕ) (met : List ℕ) → k < N → has met k ≡ false → (i ≡ 0 → ⊥)
      → falls (pointers_with N ptr) i k met ≡ falls (pointers_with N ptr) (i - 1) (ptr k 0) (k ∷ met)
  unfolding falls
  falls_on zero k met h e z = absurd (z refl)
  falls_on (suc i) k met h e z =
      let p : i ≡ suc i - 1 = omega arith in
      rw (falls, lt-ltb k N h, e) (ap (λ (n : ℕ). falls (pointers_with N ptr) n (ptr k 0) (k ∷ met)) p)

-- the map's bits are the numbers met
pub record Agrees (map met : List ℕ) : Type 0 where
  pub long : length map ≡ 8192
  pub bit : (j : ℕ) → j < 65536 → bit_in map j ≡ has met j

pub agree_none : Agrees (replicate 8192 0) []
unfolding has
agree_none = record {
  long = length-replicate {A = ℕ} 8192 0;
  bit = λ j h. let e = get_or-replicate {A = ℕ} 8192 (j / 8) 0 0 (omega arith) in rw (e, zero-div) refl;
}

pub agree_put : (map met : List ℕ) (k : ℕ) → k < 65536 → Agrees map met → Agrees (with_bit_in map k) (k ∷ met)
unfolding has
agree_put map met k h a = record {
  long = simp length-set a.long;
  bit = λ j g. let l = a.long in bit_put map k j (omega arith) ∙ rw (a.bit j g) (grind (arith, nat_tests));
}

-- ---- a clean walk

module _ (ptr : ℕ → ℕ → ℕ) where
  -- the first step first
  pub down_first : (k e : ℕ) → down ptr (ptr k 0) e ≡ down ptr k (suc e)
  unfolding down
  down_first k zero = refl
  down_first k (suc e) = ap (λ (n : ℕ). ptr n 0) (down_first k e)

  -- one index of a clean walk
  abbrev turn : ℕ → Bool → Bool → Option Fault → Option Fault
  turn i s t c = elim s [ false ↦ Some (NotBelow i 0) | true ↦ elim t [ true ↦ Some (MetBefore i 0) | false ↦ c ] ]

  clean : (N k i : ℕ) (s t : Bool) (c : Option Fault) → ltb k N ≡ s → turn i s t c ≡ None → (k < N) × (c ≡ None)
  clean N k i false t c e h = let z : ◌≡◌ {A = ℕ} 0 1 = cc in absurd (omega arith)
  clean N k i true true c e h = let z : ◌≡◌ {A = ℕ} 0 1 = cc in absurd (omega arith)
  clean N k i true false c e h = (ltb-true k N e, h)

  pub falls_below : (N i k : ℕ) (met : List ℕ) → falls (pointers_with N ptr) i k met ≡ None → (e : ℕ) → e ≤ i → down ptr k e < N
  unfolding falls down
  falls_below N zero k met h zero g = (clean N k 0 (ltb k N) (has met k) None refl h).0
  falls_below N zero k met h (suc e) g = absurd (omega arith)
  falls_below N (suc i) k met h zero g = (clean N k (suc i) (ltb k N) (has met k) (falls (pointers_with N ptr) i (ptr k 0) (k ∷ met)) refl h).0
  falls_below N (suc i) k met h (suc e) g =
      let rest = (clean N k (suc i) (ltb k N) (has met k) (falls (pointers_with N ptr) i (ptr k 0) (k ∷ met)) refl h).1 in
      subst (λ (n : ℕ). n < N) (down_first k e) (falls_below N i (ptr k 0) (k ∷ met) rest e (omega arith))
