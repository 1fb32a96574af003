-- The walk to i passes through i + 2 ^ ctz i where that is no later than its start: above it the pointers taken to either are the same,
-- and from it pointer ctz i leads to i. So the block of an index is one pointer away from that of a later index. Assumes nothing.
use mathlib.Core.Path.{◌≡◌}
use Prim.Native.Nat.{ℕ, suc, ◌+◌, ◌-◌, ◌^◌, ◌≤◌, ◌<◌, ◌∣◌}
use native.Mathlib.Nat.{le_antisymm, le_of_dvd, dvd-add, dvd-sub, dvd_refl, pow-suc}
use native.Mathlib.Decide.{dec_lt}
use native.Mathlib.Omega.{arith}
use lib.Pow.{pow_pos}
use Rattle.hops.specs.Walk.{ctz, jump}
use Rattle.hops.specs.inner.Ways.{way}
use Rattle.hops.proofs.Powers.{pow_dvd, dvd_down, pow_below, clears}
use Rattle.hops.proofs.Digits.{dvd_of_ctz, ctz_of_dvd}
use Rattle.hops.proofs.Greedy.{Best, pick_best}

-- one hop up by the lowest set digit makes the next power divide
carries : (x i : ℕ) → 0 < i → 2 ^ x ∣ i → ¬ (2 ^ suc x ∣ i) → 2 ^ suc x ∣ i + 2 ^ x
carries x i p d odd =
    let l : 2 ^ x ≤ i = le_of_dvd p d in
    let e : (i - 2 ^ x) + 2 ^ suc x ≡ i + 2 ^ x = omega (arith, pow-suc 2 x) in
    rw (← e) (dvd-add (2 ^ suc x) (clears x i d odd) (dvd_refl (2 ^ suc x)))

-- a pointer that does not lead past i does not lead past the next multiple of the greater power
reaches : (c i x m : ℕ) → 2 ^ suc x ∣ i + 2 ^ x → 2 ^ m ∣ c → i + 2 ^ m ≤ c → i + 2 ^ x < c → i + 2 ^ x + 2 ^ m ≤ c
reaches c i x m da dc r l = go (dec_lt x m) (dec_lt (c - 2 ^ m) (i + 2 ^ x))
  where
    go : Dec (x < m) → Dec (c - 2 ^ m < i + 2 ^ x) → i + 2 ^ x + 2 ^ m ≤ c
    go (yes k) (yes g) =
        let dg : 2 ^ suc x ∣ c - 2 ^ m = dvd-sub (2 ^ suc x) (dvd_down k dc) (pow_dvd k) in
        let z : 2 ^ suc x ≤ i + 2 ^ x - (c - 2 ^ m) = le_of_dvd (omega arith) (dvd-sub (2 ^ suc x) da dg) in
        absurd (omega (arith, pow-suc 2 x, pow_pos x))
    go (yes k) (no g) = omega arith
    go (no k) g =
        let z : 2 ^ m ≤ c - (i + 2 ^ x) = le_of_dvd (omega arith) (dvd-sub (2 ^ m) dc (dvd_down (omega arith) da)) in
        omega arith

module _ (i : ℕ) (p : 0 < i) where
  stored : 2 ^ ctz i ∣ i
  stored = dvd_of_ctz 32 i (ctz i) (omega arith)

  beyond : i + 2 ^ ctz i < 2 ^ 32 → 2 ^ suc (ctz i) ∣ i + 2 ^ ctz i
  beyond h =
      let w : ctz i ≤ 31 = pow_below {n = i} (le_of_dvd p stored) (omega arith) in
      carries (ctz i) i p stored (λ d. let z : suc (ctz i) ≤ ctz i = ctz_of_dvd 32 i (suc (ctz i)) (omega arith) d in omega arith)

-- above i + 2 ^ ctz i the walk to i and the walk to that index take the same pointer
pub pick_through : (c i : ℕ) → c < 2 ^ 32 → 0 < i → i + 2 ^ ctz i < c → jump (way c i) ≡ jump (way c (i + 2 ^ ctz i))
pick_through c i h p l =
    let near : Best i c (jump (way c i)) = pick_best c i h (omega arith) in
    let far : Best (i + 2 ^ ctz i) c (jump (way c (i + 2 ^ ctz i))) = pick_best c (i + 2 ^ ctz i) h l in
    le_antisymm (far.best (jump (way c i)) near.stored (reaches c i (ctz i) (jump (way c i)) (beyond i p (omega arith)) near.stored near.reach l))
    (near.best (jump (way c (i + 2 ^ ctz i))) far.stored (omega (arith, far.reach)))

-- and from there the last hop is pointer ctz i
pub pick_last : (i : ℕ) → 0 < i → i + 2 ^ ctz i < 2 ^ 32 → jump (way (i + 2 ^ ctz i) i) ≡ ctz i
pick_last i p h =
    let b : Best i (i + 2 ^ ctz i) (jump (way (i + 2 ^ ctz i) i)) = pick_best (i + 2 ^ ctz i) i h (omega (arith, pow_pos (ctz i))) in
    le_antisymm (pow_below {n = 2 ^ ctz i} (omega (arith, b.reach)) (omega (arith, pow-suc 2 (ctz i), pow_pos (ctz i))))
    (b.best (ctz i) (dvd-add (2 ^ ctz i) (stored i p) (dvd_refl (2 ^ ctz i))) (omega arith))

-- to the index before it leads pointer 0
pub pick_next : (i : ℕ) → suc i < 2 ^ 32 → jump (way (suc i) i) ≡ 0
pick_next i h =
    let b : Best i (suc i) (jump (way (suc i) i)) = pick_best (suc i) i h (omega arith) in
    let z : jump (way (suc i) i) ≤ 0 = pow_below {n = 1} (omega (arith, b.reach)) (omega arith) in
    omega arith
