-- What the functions that find blocks ask of their callers.
use Rattle.std.specs.Prelude.{ℕ, ◌+◌, ◌≤◌}
use Rattle.layout.specs.Numbers.{size_max}

-- n bytes from position p on, all of them below the size.
pub record Ranged (size p n : ℕ) : Type 0 where
  pub most : size ≤ size_max
  pub inside : p + n ≤ size
