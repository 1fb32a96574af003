-- The shape of the statements, made of plain numbers: laws speak of these, theorems of the record. Assumes nothing.
use Prim.Native.Nat.{ℕ}
use Rattle.demands.specs.Calls.{Shape}

abbrev pub shape : ℕ → ℕ → ℕ → Shape
shape B N l = record { B = B; N = N; L = l }
