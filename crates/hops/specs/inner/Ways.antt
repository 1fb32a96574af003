-- A way by two indexes: from, to.
use Rattle.std.specs.Prelude.{ℕ}
use Rattle.hops.specs.Walk.{Way}

abbrev pub way : ℕ → ℕ → Way
way c t = record { from = c; to = t }
