-- `found_from` tells whether every lookup of the run of indexes finds its block. The invariant: those passed are found.
use mathlib.Core.Path.{◌≡◌}
use Prim.Native.Nat.{suc, ◌-◌, ◌≤◌}
use lib.ListN.{length}
use Rattle.card.specs.Card.{pointer}
use Rattle.finding.proofs.Runs.{Passed}
use Rattle.finding.proofs.found_from.Given as goal

abbrev pub invariant-loop-i : goal.invariant-loop-i
invariant-loop-i l = (l.first ≤ l.i) × (length l.blocks ≡ 1024) × Passed (pointer l.card.block_size l.card.image.now) l.card.block_count l.head l.top l.first l.i

abbrev pub decreases-loop-i : goal.decreases-loop-i
decreases-loop-i l = suc l.last - l.i
