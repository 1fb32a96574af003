-- A number without its sign. Assumes nothing.
use mathlib.Core.Path.{◌≡◌}
use Prim.Native.Nat.{ℕ, ◌<◌}
use lib.IntN.{ℤ}
use lib.Signed.{mag}
use mir.Syntax.{w32}
use mir.Val.{SFits, to_z, of_z}
use mir.Facts.{to_z-of_z}
use Rattle.records.specs.Agreement.{bare_of}

-- a number that was handed to `bare`, read back from its bits
pub bare_is : (z : ℤ) (r : ℕ) → mag z < 2147483648 → r ≡ bare_of (to_z w32 (of_z w32 z)) → r ≡ bare_of z
bare_is z r h e = let f : SFits w32 z = record { sfits = h } in rw (to_z-of_z f) at e
