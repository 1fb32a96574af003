-- `saved::read::read_number` meets its contract. The invariant: the number is what the groups so far are worth and the rest adds. Assumes nothing.
use mathlib.Core.Path.{◌≡◌}
use Prim.Native.Nat.{zero, ◌<◌, ◌^◌}
use lib.ListN.{drop}
use Rattle.saved.specs.Load.{read_number, up_to, read_up_to}
use Rattle.saved.specs.inner.Steps.{Scaled}
use Rattle.saved.proofs.Scaling.{join}
use Rattle.saved.proofs.read.read_number.Given as goal

abbrev pub invariant-loop-i : goal.invariant-loop-i
invariant-loop-i l = Scaled l.value l.scale × (zero < l.scale) × (l.limit < 2 ^ 32) × (read_up_to l.limit (drop l.at l.bytes) ≡ up_to l.limit (join l.value l.scale (read_number (drop l.i l.bytes))))
