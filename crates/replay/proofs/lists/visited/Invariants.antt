-- `lists::visited` meets its contract: what is left of the visit answers the whole. Assumes nothing.
use mathlib.Core.Path.{◌≡◌}
use Prim.Native.Nat.{◌-◌}
use Rattle.replay.specs.Lists.{visited_of}
use Rattle.replay.proofs.lists.visited.Given as goal

abbrev pub invariant-loop-i : goal.invariant-loop-i
invariant-loop-i l = visited_of 64 l.list l.at l.card l.blocks 0 l.initial.v ≡ visited_of (64 - l.i) l.list l.at l.card l.blocks l.i l.v
