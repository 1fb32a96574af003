-- Seek: a signed offset added to 0, the position or the size, as whole numbers.
use Rattle.std.specs.Prelude.{true, false, ℕ, zero, suc, Result, Ok, Err, leb, ℤ, pos, negsuc, ◌+ℤ◌}
use Rattle.layout.specs.declared.Refusal.{Refusal}
use Rattle.layout.specs.declared.Refusal.TheVariants.{Invalid}
use Rattle.layout.specs.Numbers.{size_max}
use Rattle.files.specs.declared.Table.{Table}
use Rattle.files.specs.Table.{file, find_of}

-- a sum below 0 or above the largest size is -22
unfoldable pub within_of : ℤ → Result ℕ Refusal
within_of (pos n) = elim (leb n size_max) [ true ↦ Ok n | false ↦ Err Invalid ]
within_of (negsuc n) = Err Invalid

-- the words of a seek: file number, held position, signed offset, and whence
pub record Seek : Type 0 where
  pub number : ℕ
  pub position : ℕ
  pub offset : ℤ
  pub whence : ℤ

-- in a file of this size: whence 0 adds to 0, whence 1 to the position, whence 2 to the size; any other answers the position
unfoldable pub whence_of : Seek → ℕ → Result ℕ Refusal
whence_of s size =
    elim s.whence [
      | pos zero ↦ within_of (pos 0 +ℤ s.offset)
      | pos (suc zero) ↦ within_of (pos s.position +ℤ s.offset)
      | pos (suc (suc zero)) ↦ within_of (pos size +ℤ s.offset)
      | pos (suc (suc (suc n))) ↦ Ok s.position
      | negsuc n ↦ Ok s.position
    ]

-- the file, then a held position above the largest size, then the sum
unfoldable pub seek_of : Table → Seek → Result ℕ Refusal
seek_of t s =
    elim (find_of t s.number) [
      | Ok i ↦ elim (leb s.position size_max) [ true ↦ whence_of s (file t i).size | false ↦ Err Invalid ]
      | Err r ↦ Err r
    ]
