-- `files::change::place` meets its contract. The invariant: the files passed, and those before the number among the rest. Assumes nothing.
use mathlib.Core.Path.{◌≡◌}
use Prim.Native.Nat.{◌+◌, ◌≤◌}
use lib.ListN.{length}
use lib.Seq.{slice}
use Rattle.layout.specs.Numbers.{files_max}
use Rattle.files.specs.inner.Facts.{slot_for}
use Rattle.files.proofs.change.place.Given as goal

abbrev pub invariant-loop-i : goal.invariant-loop-i
invariant-loop-i l = (length l.t.files ≡ files_max) × (l.t.count ≤ files_max) × (slot_for l.number (slice 0 l.t.count l.t.files) ≡ l.i + slot_for l.number (slice l.i l.t.count l.t.files))
