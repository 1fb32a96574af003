-- `files::search` meets its contract. The invariant: the search among all files is the search among those from `i` on. Assumes nothing.
use mathlib.Core.Path.{◌≡◌}
use Prim.Native.Nat.{◌≤◌}
use lib.ListN.{length}
use lib.Seq.{slice}
use Rattle.layout.specs.Numbers.{files_max}
use Rattle.files.specs.Table.{search_of}
use Rattle.files.proofs.search.Given as goal

abbrev pub invariant-loop-i : goal.invariant-loop-i
invariant-loop-i l = (length l.t.files ≡ files_max) × (l.t.count ≤ files_max) × (search_of l.number (slice 0 l.t.count l.t.files) 0 ≡ search_of l.number (slice l.i l.t.count l.t.files) l.i)
