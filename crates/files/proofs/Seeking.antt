-- A signed offset added to an unsigned base, in 64 bits. Assumes nothing.
use mathlib.Core.Path.{◌≡◌, refl, sym, ap, ◌∙◌}
use mathlib.Core.Bool.{true, false, cond}
use Prim.Native.Nat.{ℕ, zero, suc, ◌-◌, ◌≤◌, ◌<◌, ◌^◌}
use native.Mathlib.Omega.{arith}
use borrow.Author.Tests.{le-leb, lt-leb, ltb-true, ltb-false}
use lib.Dec.{T}
use lib.IntN.{ℤ, pos, negsuc, ◌+ℤ◌, nat_abs}
use lib.Signed.{mag, lt_z, non_neg}
use mir.Syntax.{w32, w64}
use mir.Val.{Fits, SFits, to_z, of_z}
use mir.Facts.{to_z-of_z, to_z_pos}
use Rattle.layout.specs.Numbers.{size_max}
use Rattle.std.specs.Prelude.{Ok, Err}
use Rattle.layout.specs.declared.Refusal.TheVariants.{Invalid}
use Rattle.files.specs.Seek.{within_of, whence_of}
use Rattle.files.proofs.Tests.{ltb_cases}
use Rattle.files.proofs.Cases.{seeking}

-- the sum as the code has it, read back from its bits
abbrev pub sum_of : ℕ → ℤ → ℤ
sum_of base offset = to_z w64 base +ℤ to_z w64 (of_z w64 (to_z w32 (of_z w32 offset)))

mag_sum : (a : ℕ) (z : ℤ) → a < 2 ^ 32 → mag z < 2 ^ 31 → mag (pos a +ℤ z) < 2 ^ 63
mag_sum a (pos n) h k = omega arith
mag_sum a (negsuc n) h k =
    ltb_cases a (suc n) (λ b. mag (cond b (negsuc (suc n - suc a)) (pos (a - suc n))) < 2 ^ 63) (λ l. omega arith) (λ l. omega arith)

-- a sum below 0, above the largest size, and between
pub within_below : (z : ℤ) → lt_z z (pos 0) ≡ true → (Err Invalid) ≡ within_of z
unfolding within_of
within_below (pos n) h = absurd (omega (arith, ltb-true n 0 h))
within_below (negsuc n) h = refl

pub within_above : (z : ℤ) → lt_z (pos size_max) z ≡ true → (Err Invalid) ≡ within_of z
unfolding within_of
within_above (pos n) h = rw (within_of, lt-leb n size_max (ltb-true size_max n h))
within_above (negsuc n) h = refl

pub record Within (z : ℤ) : Type 0 where
  pub positive : T (non_neg z)
  pub small : nat_abs z ≤ size_max
  pub answer : Ok (nat_abs z) ≡ within_of z

pub within_at : (z : ℤ) → lt_z z (pos 0) ≡ false → lt_z (pos size_max) z ≡ false → Within z
unfolding within_of
within_at (pos n) l u =
    let h = ltb-false size_max n u in
    record { positive = tt; small = h; answer = rw (within_of, le-leb n size_max h) }
within_at (negsuc n) l u = let z : ◌≡◌ {A = ℕ} 0 1 = cc in absurd (omega arith)

module _ (base : ℕ) (offset : ℤ) (b : base < 2 ^ 32) (o : SFits w32 offset) where
  wide : SFits w64 offset
  wide = record { sfits = omega (arith, o.sfits) }

  pub offset_fits : SFits w64 (to_z w32 (of_z w32 offset))
  offset_fits = rw (to_z-of_z o) wide

  sum_is : sum_of base offset ≡ pos base +ℤ offset
  sum_is = rw (to_z-of_z o, to_z-of_z wide, to_z_pos w64 {n = base} (omega arith))

  pub sum_fits : SFits w64 (sum_of base offset)
  sum_fits = rw sum_is (record { sfits = mag_sum base offset b o.sfits })

  sum_read : to_z w64 (of_z w64 (sum_of base offset)) ≡ pos base +ℤ offset
  sum_read = to_z-of_z sum_fits ∙ sum_is

  -- the code's two tests of the sum
  pub moved_below : lt_z (to_z w64 (of_z w64 (sum_of base offset))) (pos 0) ≡ true → (Err Invalid) ≡ within_of (pos base +ℤ offset)
  moved_below h = within_below (pos base +ℤ offset) (rw sum_read at h)

  pub moved_above : lt_z (pos size_max) (to_z w64 (of_z w64 (sum_of base offset))) ≡ true → (Err Invalid) ≡ within_of (pos base +ℤ offset)
  moved_above h = within_above (pos base +ℤ offset) (rw sum_read at h)

  pub moved_at : lt_z (to_z w64 (of_z w64 (sum_of base offset))) (pos 0) ≡ false → lt_z (pos size_max) (to_z w64 (of_z w64 (sum_of base offset))) ≡ false
      → Within (pos base +ℤ offset)
  moved_at h k = within_at (pos base +ℤ offset) (rw sum_read at h) (rw sum_read at k)

  pub moved_fits : Within (pos base +ℤ offset)
      → T (non_neg (to_z w64 (of_z w64 (sum_of base offset)))) × Fits w32 (nat_abs (to_z w64 (of_z w64 (sum_of base offset))))
  moved_fits w = rw sum_read (w.positive, record { fits = omega (arith, w.small) })

  pub moved_answer : Within (pos base +ℤ offset) → Ok (nat_abs (to_z w64 (of_z w64 (sum_of base offset)))) ≡ within_of (pos base +ℤ offset)
  moved_answer w = rw sum_read w.answer

-- a small number, by its bits
bits_small : (z : ℤ) (k : ℕ) → SFits w32 z → k < 2 ^ 31 → of_z w32 z ≡ k → z ≡ pos k
bits_small z k s h e = sym (to_z-of_z s) ∙ ap (to_z w32) e ∙ to_z_pos w32 {n = k} h

-- what is added is the offset, read back from its bits
module _ (number position size : ℕ) (offset whence : ℤ) (o : SFits w32 offset) (s : SFits w32 whence) where
  pub whence_start : of_z w32 whence ≡ 0 → within_of (pos 0 +ℤ to_z w32 (of_z w32 offset)) ≡ whence_of (seeking number position offset whence) size
  unfolding whence_of
  whence_start e = rw (to_z-of_z o, bits_small whence 0 s (omega arith) e)

  pub whence_held : of_z w32 whence ≡ 1 → within_of (pos position +ℤ to_z w32 (of_z w32 offset)) ≡ whence_of (seeking number position offset whence) size
  unfolding whence_of
  whence_held e = rw (to_z-of_z o, bits_small whence 1 s (omega arith) e)

  pub whence_end : of_z w32 whence ≡ 2 → within_of (pos size +ℤ to_z w32 (of_z w32 offset)) ≡ whence_of (seeking number position offset whence) size
  unfolding whence_of
  whence_end e = rw (to_z-of_z o, bits_small whence 2 s (omega arith) e)

pub whence_other : (number position size : ℕ) (offset whence : ℤ) → (of_z w32 whence ≡ 0 → ⊥) → (of_z w32 whence ≡ 1 → ⊥) → (of_z w32 whence ≡ 2 → ⊥)
    → Ok position ≡ whence_of (seeking number position offset whence) size
unfolding whence_of
whence_other number position size offset (pos zero) a b c = absurd (a refl)
whence_other number position size offset (pos (suc zero)) a b c = absurd (b refl)
whence_other number position size offset (pos (suc (suc zero))) a b c = absurd (c refl)
whence_other number position size offset (pos (suc (suc (suc n)))) a b c = refl
whence_other number position size offset (negsuc n) a b c = refl
