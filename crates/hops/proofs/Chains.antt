-- Chains over indexes alone: block c above 0 stores the pointers 0 to ctz c, and pointer x leads to c - 2 ^ x.
use Prim.Native.Nat.{ℕ, zero, suc, ◌-◌, ◌^◌, ◌≤◌, ◌<◌}
use Rattle.hops.specs.Walk.{ctz}

pub data Chain (t : ℕ) : ℕ → Type 0 where
  here : Chain t t
  hop : {c : ℕ} (x : ℕ) → 0 < c → x ≤ ctz c → Chain t (c - 2 ^ x) → Chain t c

abbrev pub len : {t c : ℕ} → Chain t c → ℕ
len here = zero
len (hop x p l s) = suc (len s)
