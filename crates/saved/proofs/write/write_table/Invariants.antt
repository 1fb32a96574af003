-- `saved::write::write_table` meets its contract. The invariant: all the stores are those still to be made on what is there. Assumes nothing.
use mathlib.Core.Path.{◌≡◌}
use Prim.Native.Nat.{◌+◌, ◌≤◌}
use lib.ListN.{length, drop}
use lib.Seq.{sets}
use Rattle.saved.specs.Save.{files_bytes}
use Rattle.saved.proofs.write.write_table.Given as goal

abbrev pub invariant-loop-e : goal.invariant-loop-e
invariant-loop-e l = (length l.buffer ≡ length l.initial.buffer)
    × (l.at + length (files_bytes (drop l.e-index l.e-items)) ≤ length l.initial.buffer)
    × (sets l.initial.buffer l.initial.at (files_bytes l.e-items) ≡ sets l.buffer l.at (files_bytes (drop l.e-index l.e-items)))
