-- Worked checks by computation.
use mathlib.Core.Path.{◌≡◌, refl}
use mathlib.Core.List.{[], ◌∷◌}
use Prim.Native.Nat.{ℕ}
use lib.Count.{count_trailing_zeros}
use lib.ListN.{get_or}
use Rattle.std.specs.Prelude.{Option, None, Some}
use Rattle.span.specs.Members.{has}
use Rattle.ctz.specs.Lists.{down}
use Rattle.ctz.specs.inner.Forms.{pointers_with}
use Rattle.audit.specs.declared.Fault.{Fault}
use Rattle.audit.specs.declared.Fault.TheVariants.{NotBelow, MetBefore, Disagrees}
use Rattle.audit.specs.Check.{falls, names, further, and_then}

-- The pointers of seven blocks: indexes 0 to 4 lie in the blocks 3, 6, 1, 5, 2. a and c are the pointers 1 and 2 of index 4, b is pointer 0 of
-- index 3: 1, 3 and 1 where the list is sound.
stored : ℕ → ℕ → ℕ → ℕ → ℕ → ℕ
stored a c b k x = get_or (get_or ([] ∷ (6 ∷ 3 ∷ []) ∷ (5 ∷ a ∷ c ∷ []) ∷ [] ∷ [] ∷ (b ∷ []) ∷ (3 ∷ []) ∷ []) k []) x 0

check : (ℕ → ℕ → ℕ) → Option Fault
check ptr = and_then (falls (pointers_with 7 ptr) 4 2 []) (further ptr 4 2)

checked : (check (stored 1 3 1) ≡ None)
    × (check (stored 6 3 1) ≡ Some (Disagrees 4 1))
    × (check (stored 1 6 1) ≡ Some (Disagrees 4 2))
    × (check (stored 6 6 1) ≡ Some (Disagrees 4 1))
    × (check (stored 6 3 7) ≡ Some (NotBelow 2 0))
    × (check (stored 6 3 2) ≡ Some (MetBefore 2 0))
unfolding check stored falls has names further down count_trailing_zeros
checked = (refl, refl, refl, refl, refl, refl)
