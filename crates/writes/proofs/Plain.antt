-- The file after a write, byte by byte: as it was before the written bytes, these, and as it was behind them. Assumes nothing.
use mathlib.Core.Path.{◌≡◌}
use mathlib.Core.Bool.{true, false}
use mathlib.Core.List.{List}
use Prim.Native.Nat.{ℕ, ◌+◌, ◌-◌, ◌≤◌, ◌<◌, max}
use borrow.Author.Tests.{lt-ltb, le-ltb}
use lib.Dec.{ltb}
use lib.ListN.{length, get_or}

-- ys is the file xs after the bytes d were written from position pos on; past the end of xs it reads 0, so a gap is zeros
pub record Overwritten (xs : List ℕ) (pos : ℕ) (d ys : List ℕ) : Type 0 where
  pub long : length ys ≡ max (length xs) (pos + length d)
  pub low : (p : ℕ) → p < pos → get_or ys p 0 ≡ get_or xs p 0
  pub mid : (p : ℕ) → pos ≤ p → p < pos + length d → get_or ys p 0 ≡ get_or d (p - pos) 0
  pub high : (p : ℕ) → pos + length d ≤ p → p < length ys → get_or ys p 0 ≡ get_or xs p 0

-- its byte p
unfoldable pub over_at : List ℕ → ℕ → List ℕ → ℕ → ℕ
over_at xs pos d p =
    elim (ltb p pos) [ true ↦ get_or xs p 0 | false ↦ elim (ltb p (pos + length d)) [ true ↦ get_or d (p - pos) 0 | false ↦ get_or xs p 0 ] ]

module _ (xs : List ℕ) (pos : ℕ) (d : List ℕ) (p : ℕ) where
  pub over_low : p < pos → over_at xs pos d p ≡ get_or xs p 0
  unfolding over_at
  over_low h = rw (over_at, lt-ltb p pos h)

  pub over_mid : pos ≤ p → p < pos + length d → over_at xs pos d p ≡ get_or d (p - pos) 0
  unfolding over_at
  over_mid h l = rw (over_at, le-ltb p pos h, lt-ltb p (pos + length d) l)

  pub over_high : pos ≤ p → pos + length d ≤ p → over_at xs pos d p ≡ get_or xs p 0
  unfolding over_at
  over_high h l = rw (over_at, le-ltb p pos h, le-ltb p (pos + length d) l)
