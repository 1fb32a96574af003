-- A position in a file by plain numbers.
use Rattle.std.specs.Prelude.{ℕ}
use Rattle.reading.specs.Calls.{FilePosition}

-- file number, position
abbrev pub file_position : ℕ → ℕ → FilePosition
file_position number p = record { number = number; position = p }
