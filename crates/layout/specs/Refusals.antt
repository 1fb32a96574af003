-- The refusals, each with its number (01, "Refusal numbers").
use Rattle.std.specs.Prelude.{Result, Ok, Err, ℤ}
use Rattle.layout.specs.declared.Refusal.{Refusal}
use Rattle.layout.specs.declared.Refusal.TheVariants.{Missing, TableFull, Exists, Invalid, TooLarge, NoSpace, Damaged}
use Rattle.layout.specs.Numbers.{accepted, no_file, table_full, file_exists, invalid, too_large, no_space, damaged_card}

abbrev pub refusal_code : Refusal → ℤ
refusal_code Missing = no_file
refusal_code TableFull = table_full
refusal_code Exists = file_exists
refusal_code Invalid = invalid
refusal_code TooLarge = too_large
refusal_code NoSpace = no_space
refusal_code Damaged = damaged_card

-- the number of an answer
abbrev pub answer_code : {A : Type 0} → Result A Refusal → ℤ
answer_code (Ok a) = accepted
answer_code (Err r) = refusal_code r
