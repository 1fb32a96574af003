-- Two maps held to each other bit by bit. Assumes nothing.
use mathlib.Core.Path.{◌≡◌}
use mathlib.Core.Bool.{true, ◌&&◌, beq}
use mathlib.Core.List.{List}
use Prim.Native.Nat.{ℕ, zero, suc, ◌+◌, ◌-◌, ◌≤◌, ◌<◌}
use native.Mathlib.Numerals.{add-one}
use native.Mathlib.Omega.{arith}
use lib.Dec.{eqb}
use Rattle.std.proofs.lemmas.Bool.Decides.{nat_tests}
use Rattle.span.specs.Members.{bit_at, bit_in}
use Rattle.records.specs.Agreement.{bits_agree, maps_agree}

same_digit : (a b : ℕ) → a < 2 → b < 2 → eqb a b ≡ beq (eqb a 1) (eqb b 1)
same_digit a b g h = grind (arith, nat_tests)

module _ (ours theirs : List ℕ) (o : ℕ) where
  pub maps_end : 512 ≤ o → maps_agree ours theirs o ≡ true
  unfolding maps_agree bits_agree
  maps_end h = let e : 512 - o ≡ zero = omega arith in rw (maps_agree, e)

  pub maps_turn : o < 512 → maps_agree ours theirs o ≡ (beq (bit_in ours o) (bit_in theirs o) && maps_agree ours theirs (o + 1))
  unfolding maps_agree bits_agree
  maps_turn h =
      let e : 512 - o ≡ suc (512 - (o + 1)) = omega arith in
      let d = same_digit (bit_at ours o) (bit_at theirs o) (omega arith) (omega arith) in
      rw (maps_agree, e, add-one o, d)
