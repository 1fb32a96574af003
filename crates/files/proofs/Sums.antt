-- Seek is whole-number arithmetic with two limits: it answers n exactly if base and offset sum to n, at most the largest size. Assumes nothing.
use mathlib.Core.Path.{◌≡◌, refl, sym, ap, ◌∙◌}
use mathlib.Core.Bool.{true, false}
use Prim.Native.Nat.{ℕ, ◌≤◌, ◌<◌}
use native.Mathlib.Omega.{arith}
use borrow.Author.Tests.{le-leb, lt-leb}
use lib.IntN.{ℤ, pos, negsuc, ◌+ℤ◌}
use Rattle.layout.specs.Numbers.{size_max}
use Rattle.files.specs.declared.Table.{Table}
use Rattle.std.specs.Prelude.{Ok, Err}
use Rattle.layout.specs.declared.Refusal.TheVariants.{Invalid}
use Rattle.files.specs.Table.{file, find_of}
use Rattle.files.specs.Seek.{within_of, whence_of, seek_of}
use Rattle.files.proofs.Tests.{leb_cases}
use Rattle.files.proofs.Cases.{seeking, seek_at}

-- what whence adds to: 0, the position, the size
pub data Base (position size : ℕ) : ℤ → ℕ → Type 0 where
  start : Base position size (pos 0) 0
  held : Base position size (pos 1) position
  end : Base position size (pos 2) size

base_is : (number position size : ℕ) (offset whence : ℤ) (b : ℕ) → Base position size whence b → whence_of (seeking number position offset whence) size ≡ within_of (pos b +ℤ offset)
unfolding whence_of
base_is number position size offset whence b start = refl
base_is number position size offset whence b held = refl
base_is number position size offset whence b end = refl

within_only : (z : ℤ) (n : ℕ) → within_of z ≡ Ok n → (z ≡ pos n) × (n ≤ size_max)
unfolding within_of
within_only (pos k) n =
    leb_cases k size_max (λ t. (elim t [ true ↦ Ok k | false ↦ (Err Invalid) ]) ≡ Ok n → (pos k ≡ pos n) × (n ≤ size_max))
    (λ l e. let x : k ≡ n = cc in (ap pos x, omega arith))
    (λ l e. let x : ◌≡◌ {A = ℕ} 0 1 = cc in absurd (omega arith))
within_only (negsuc k) n = λ e. let x : ◌≡◌ {A = ℕ} 0 1 = cc in absurd (omega arith)

within_reached : (z : ℤ) (n : ℕ) → z ≡ pos n → n ≤ size_max → within_of z ≡ Ok n
unfolding within_of
within_reached z n e l = rw (e, within_of, le-leb n size_max l)

module _ (t : Table) (number i position : ℕ) (offset whence : ℤ) (b : ℕ) (f : find_of t number ≡ Ok i) (l : position ≤ size_max)
    (w : Base position (file t i).size whence b) where
  is_sum : seek_of t (seeking number position offset whence) ≡ within_of (pos b +ℤ offset)
  is_sum = seek_at t number (find_of t number) refl position offset whence i f l ∙ base_is number position (file t i).size offset whence b w

  -- an answer is the sum, and at most the largest size
  pub seek_only : (n : ℕ) → seek_of t (seeking number position offset whence) ≡ Ok n → (pos b +ℤ offset ≡ pos n) × (n ≤ size_max)
  seek_only n e = within_only (pos b +ℤ offset) n (sym is_sum ∙ e)

  -- every sum from 0 to the largest size is answered
  pub seek_reached : (n : ℕ) → pos b +ℤ offset ≡ pos n → n ≤ size_max → seek_of t (seeking number position offset whence) ≡ Ok n
  seek_reached n e h = is_sum ∙ within_reached (pos b +ℤ offset) n e h

  -- a sum below 0 is refused, and so is one above the largest size
  pub seek_below : (n : ℕ) → pos b +ℤ offset ≡ negsuc n → seek_of t (seeking number position offset whence) ≡ Err Invalid
  unfolding within_of
  seek_below n e = is_sum ∙ rw e

  pub seek_above : (n : ℕ) → pos b +ℤ offset ≡ pos n → size_max < n → seek_of t (seeking number position offset whence) ≡ Err Invalid
  unfolding within_of
  seek_above n e h = is_sum ∙ rw (e, within_of, lt-leb n size_max h)
