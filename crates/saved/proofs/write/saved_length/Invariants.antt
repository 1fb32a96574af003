-- `saved::write::saved_length` meets its contract. The invariant: the bytes counted and those of the files left are all. Assumes nothing.
use mathlib.Core.Path.{◌≡◌}
use Prim.Native.Nat.{◌+◌, ◌*◌, ◌≤◌}
use lib.ListN.{length, drop}
use Rattle.layout.specs.Numbers.{files_max}
use Rattle.saved.specs.Save.{files_bytes}
use Rattle.saved.proofs.write.saved_length.Given as goal

abbrev pub invariant-loop-e : goal.invariant-loop-e
invariant-loop-e l = (length l.e-items ≤ files_max) × (l.n ≤ 5 + 15 * l.e-index)
    × (l.n + length (files_bytes (drop l.e-index l.e-items)) ≡ l.initial.n + length (files_bytes l.e-items))
