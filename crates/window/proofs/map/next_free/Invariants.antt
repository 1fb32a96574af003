-- `window::map::next_free` meets its contract: what is left of the search answers the whole search. Assumes nothing.
use mathlib.Core.Path.{◌≡◌}
use Prim.Native.Nat.{◌-◌, ◌≤◌, max}
use Rattle.window.specs.Allocate.{skip}
use Rattle.window.proofs.map.next_free.Given as goal

abbrev pub invariant-loop-o : goal.invariant-loop-o
invariant-loop-o l = record { rest : skip (l.size - l.from) l.map l.from ≡ skip (l.size - l.o) l.map l.o; within : l.o ≤ max l.from l.size }
