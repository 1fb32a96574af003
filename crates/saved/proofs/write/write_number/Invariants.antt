-- `saved::write::write_number` meets its contract. The invariant: all the stores are those still to be made on what is there. Assumes nothing.
use mathlib.Core.Path.{◌≡◌}
use Prim.Native.Nat.{◌+◌, ◌≤◌}
use lib.ListN.{length}
use lib.Seq.{sets}
use Rattle.saved.specs.Save.{groups}
use Rattle.saved.proofs.write.write_number.Given as goal

abbrev pub invariant-loop-m : goal.invariant-loop-m
invariant-loop-m l = (length l.buffer ≡ length l.initial.buffer) × (l.i + length (groups l.m) ≡ l.at + length (groups l.n)) × (l.at + length (groups l.n) ≤ length l.initial.buffer)
    × (sets l.initial.buffer l.at (groups l.n) ≡ sets l.buffer l.i (groups l.m))

abbrev pub decreases-loop-m : goal.decreases-loop-m
decreases-loop-m l = l.m
