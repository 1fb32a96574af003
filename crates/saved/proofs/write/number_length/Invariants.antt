-- `saved::write::number_length` meets its contract. The invariant: the groups passed and those left are all. Assumes nothing.
use mathlib.Core.Path.{◌≡◌}
use Prim.Native.Nat.{◌+◌, ◌≤◌}
use lib.ListN.{length}
use Rattle.saved.specs.Save.{groups}
use Rattle.saved.proofs.write.number_length.Given as goal

abbrev pub invariant-loop-m : goal.invariant-loop-m
invariant-loop-m l = (l.k + length (groups l.m) ≡ 1 + length (groups l.n)) × (l.k + l.m ≤ 1 + l.n)

abbrev pub decreases-loop-m : goal.decreases-loop-m
decreases-loop-m l = l.m
