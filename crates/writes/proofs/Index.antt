-- Indexes, their starts and their pointers, for sizes below 2 ^ 32: which indexes start by a position, and what their pointers name. Assumes nothing.
use mathlib.Core.Path.{◌≡◌, subst}
use Prim.Native.Nat.{ℕ, zero, suc, ◌+◌, ◌-◌, ◌*◌, ◌^◌, ◌≤◌, ◌<◌, ◌∣◌}
use native.Mathlib.Nat.{dvd-sub, dvd_refl, le_of_dvd, pow-suc}
use native.Mathlib.Omega.{arith, by_contra}
use lib.Pow.{pow_pos}
use lib.Count.{count_trailing_zeros, trailing_le}
use Rattle.layout.specs.Layout.{pointers, start, index_at, offset_at}
use Rattle.layout.specs.inner.Served.{BlockSized}
use Rattle.layout.proofs.Laws.{start_mono}
use Rattle.layout.proofs.Places.{start_suc, offset_of}
use Rattle.layout.proofs.Served.{served, index_in, index_found, pointers_fit}
use Rattle.layout.proofs.InBlock.{InBlock}
use Rattle.hops.proofs.Digits.{dvd_of_ctz, ctz_of_dvd}
use Rattle.plain.proofs.Indexes.{index_met}

-- ---- pointers

some : (i x : ℕ) → x < pointers i → (0 < i) × (x ≤ count_trailing_zeros 32 i)
unfolding pointers
some zero x h = absurd (omega arith)
some (suc n) x h = (omega arith, omega arith)

-- pointer x of a block leads to an index that there is
pub pow_le : (i x : ℕ) → x < pointers i → 2 ^ x ≤ i
pow_le i x h = let s = some i x h in le_of_dvd s.0 (dvd_of_ctz 32 i x s.1)

back : (i x : ℕ) → 0 < i → x ≤ 32 → 2 ^ x ∣ i → x < pointers i
unfolding pointers
back zero x p l d = absurd (omega arith)
back (suc n) x p l d = omega (arith, ctz_of_dvd 32 (suc n) x l d)

-- where a block has a pointer after pointer x, the block that pointer x names has a pointer x, to where the next one leads
pub pow_next : (i x : ℕ) → suc x < pointers i → (x < pointers (i - 2 ^ x)) × (i - 2 ^ x - 2 ^ x ≡ i - 2 ^ suc x)
pow_next i x h =
    let s = some i (suc x) h in
    let l = pow_le i (suc x) h in
    let e = pow-suc 2 x in
    let p = pow_pos x in
    let t = trailing_le 32 i in
    (back (i - 2 ^ x) x (omega arith) (omega arith) (dvd-sub (2 ^ x) (dvd_of_ctz 32 i x (omega arith)) (dvd_refl (2 ^ x))), omega arith)

-- every block but the first has a pointer
pub pointers_some : (n : ℕ) → 0 < pointers (suc n)
unfolding pointers
pointers_some n = omega arith

-- ---- starts

module _ (B : ℕ) (sized : BlockSized B) where
  -- a position lies in the block of its index
  pub in_block : (p : ℕ) → p < 2 ^ 32 → InBlock B p (index_at B p)
  in_block p h = index_in (served sized h)

  -- and an index that it lies in is that index
  pub index_is : (p i : ℕ) → p < 2 ^ 32 → start B i ≤ p → p < start B (suc i) → index_at B p ≡ i
  index_is p i h a b = index_found (served sized h) i (record { from = a; until = b })

  -- its offset there: behind the pointers and the earlier data
  pub offset_is : (p i : ℕ) → p < 2 ^ 32 → start B i ≤ p → p < start B (suc i) → offset_at B p ≡ 4 * pointers i + (p - start B i)
  offset_is p i h a b = offset_of B p i (index_is p i h a b)

  -- an index that starts by a position is at most the position's
  pub index_le : (p i : ℕ) → p < 2 ^ 32 → start B i ≤ p → i ≤ index_at B p
  index_le p i h a =
      by_contra i (index_at B p) (λ g. omega (arith, start_mono B (suc (index_at B p)) i g, (in_block p h).until))

  -- so its pointers leave room for data
  pub roomy : (p i : ℕ) → p < 2 ^ 32 → start B i ≤ p → 4 * pointers i < B
  roomy p i h a =
      let r = index_met B p i (index_le p i h a) in
      subst (λ (j : ℕ). 4 * pointers j < B) r.2 (pointers_fit (served {p = r.0} sized (omega arith)))

  -- and starts rise
  pub start_lt : (p i j : ℕ) → p < 2 ^ 32 → start B j ≤ p → i < j → start B i < start B j
  start_lt p i j h a l =
      let m = start_mono B (suc i) j l in
      omega (arith, start_suc B i, roomy p i h (omega (arith, start_mono B i j (omega arith))))

  -- where an index starts is its first position
  pub start_index : (p i : ℕ) → p < 2 ^ 32 → p ≡ start B i → index_at B p ≡ i
  start_index p i h e = index_is p i h (omega arith) (omega (arith, start_suc B i, roomy p i h (omega arith)))
