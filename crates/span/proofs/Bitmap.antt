-- A bit that was set is set, and every other is as it was.
use mathlib.Core.Path.{◌≡◌}
use mathlib.Core.Logic.{◌⊎◌, inl, inr}
use mathlib.Core.Bool.{◌||◌}
use mathlib.Core.List.{List}
use Prim.Native.Nat.{ℕ, ◌/◌, ◌%◌, ◌^◌, ◌<◌}
use native.Mathlib.Omega.{arith}
use lib.Bits.{bit_or}
use lib.Dec.{eqb}
use lib.ListN.{length, get_or}
use lib.Seq.{get_or-set_same, get_or-set_other}
use Rattle.std.proofs.lemmas.Bool.{cases_eq, ne_eqb}
use Rattle.std.proofs.lemmas.Bool.Decides.{nat_tests}
use Rattle.std.proofs.lemmas.Nat.Bits.{bit_at_or, bit_at-pow_same, bit_at-pow_other}
use Rattle.span.specs.Members.{bit_in, with_bit_in}

in_byte : (a m j : ℕ) → eqb (bit_or a (2 ^ m) / 2 ^ j % 2) 1 ≡ (eqb j m || eqb (a / 2 ^ j % 2) 1)
in_byte a m j = grind (arith, nat_tests, bit_at_or a (2 ^ m) j, bit_at-pow_same j, bit_at-pow_other m j)

pub bit_put : (map : List ℕ) (k j : ℕ) → k / 8 < length map → bit_in (with_bit_in map k) j ≡ (eqb j k || bit_in map j)
bit_put map k j h = by (cases_eq (j / 8) (k / 8))
  where
    by : (j / 8 ≡ k / 8) ⊎ (j / 8 ≡ k / 8 → ⊥) → bit_in (with_bit_in map k) j ≡ (eqb j k || bit_in map j)
    by (inl e) = rw (e, get_or-set_same map (k / 8) _ 0 h, in_byte (get_or map (k / 8) 0) (k % 8) (j % 8)) (grind (arith, nat_tests))
    by (inr d) = rw (get_or-set_other map (k / 8) (j / 8) _ 0 d, ne_eqb j k (omega (arith, d)))
