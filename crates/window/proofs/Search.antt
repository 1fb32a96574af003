-- Where a search stops. Assumes nothing.
use mathlib.Core.Path.{◌≡◌, refl}
use mathlib.Core.Bool.{Bool, true, false}
use mathlib.Core.List.{List}
use Prim.Native.Nat.{ℕ, zero, suc, ◌+◌, ◌-◌, ◌≤◌, ◌<◌}
use native.Mathlib.Numerals.{add-one}
use native.Mathlib.Omega.{arith}
use Rattle.span.specs.Members.{bit_in}
use Rattle.window.specs.Allocate.{skip}
use Rattle.window.proofs.Cases.{eqb_cases}

module _ (m : List ℕ) where
  -- one offset of a search: a marked one is passed, and at an unmarked one it stops
  pub free_marked : (o size : ℕ) → o < size → bit_in m o ≡ true → skip (size - o) m o ≡ skip (size - (o + 1)) m (o + 1)
  unfolding skip
  free_marked o size h b = let e : size - o ≡ suc (size - suc o) = omega arith in rw (add-one, e, skip, b)

  pub free_clear : (o size : ℕ) → o < size → bit_in m o ≡ false → skip (size - o) m o ≡ o
  unfolding skip
  free_clear o size h b = let e : size - o ≡ suc (size - (o + 1)) = omega arith in rw (e, skip, b)

  -- and its end
  pub free_end : (o size : ℕ) → size ≤ o → skip (size - o) m o ≡ o
  unfolding skip
  free_end o size h = let e : size - o ≡ zero = omega arith in rw e

-- a search from o below size that stops at `to` passes marked offsets only, and stops at an unmarked one or at the end
pub record Stops (m : List ℕ) (o size to : ℕ) : Type 0 where
  pub ge : o ≤ to
  pub le : to ≤ size
  pub passed : (j : ℕ) → o ≤ j → j < to → bit_in m j ≡ true
  pub clear : to < size → bit_in m to ≡ false

skip_stops : (m : List ℕ) (k o : ℕ) → Stops m o (o + k) (skip k m o)
unfolding skip
skip_stops m zero o =
    record { ge = omega arith; le = omega arith; passed = λ j a b. absurd (omega arith); clear = λ h. absurd (omega arith) }
skip_stops m (suc k) o = go (bit_in m o) refl (skip_stops m k (suc o))
  where
    go : (b : Bool) → bit_in m o ≡ b → Stops m (suc o) (suc o + k) (skip k m (suc o)) → Stops m o (o + suc k) (elim b [ true ↦ skip k m (suc o) | false ↦ o ])
    go true e s =
        record {
          ge = omega arith;
          le = omega arith;
          passed = λ j a b. eqb_cases o j (λ _. bit_in m j ≡ true) (λ q. rw q at e) (λ q. s.passed j (omega arith) b);
          clear = λ h. s.clear (omega arith);
        }
    go false e s = record { ge = omega arith; le = omega arith; passed = λ j a b. absurd (omega arith); clear = λ h. e }

pub free_stops : (m : List ℕ) (o size : ℕ) → o ≤ size → Stops m o size (skip (size - o) m o)
free_stops m o size h = let e : o + (size - o) ≡ size = omega arith in rw e at (skip_stops m (size - o) o)

module _ (m : List ℕ) (o size : ℕ) (h : o ≤ size) where
  pub stops_behind : o ≤ skip (size - o) m o
  stops_behind = (free_stops m o size h).ge

  pub stops_within : skip (size - o) m o ≤ size
  stops_within = (free_stops m o size h).le
