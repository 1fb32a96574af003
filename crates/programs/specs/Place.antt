-- Where a program goes.
use Rattle.std.specs.Prelude.{true, false, List, ℕ, ◌+◌, ◌*◌, Result, Ok, Err}
use Rattle.health.specs.Health.{refuses_program}
use Rattle.device.specs.declared.Spoiled.{Spoiled}

-- offset o of block k, unless the block refuses a program
abbrev pub place_of : List ℕ → ℕ → ℕ → ℕ → Result ℕ Spoiled
place_of health B k o = elim (refuses_program health k) [
  | true ↦ Err (record {})
  | false ↦ Ok (k * B + o)
]
