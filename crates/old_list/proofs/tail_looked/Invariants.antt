-- `old_list::tail_looked` meets its contract: what is left to look for equals the whole. Assumes nothing.
use mathlib.Core.Path.{◌≡◌}
use Prim.Native.Nat.{◌-◌}
use Rattle.old_list.specs.Write.{looked}
use Rattle.old_list.specs.inner.Lookups.{tail_wanted, look_in}
use Rattle.old_list.proofs.tail_looked.Given as goal

abbrev pub invariant-loop-p : goal.invariant-loop-p
invariant-loop-p l = looked ((look_in l.b l.n l.e) l.image) (tail_wanted l.b l.initial.p l.e.size) ≡ looked ((look_in l.b l.n l.e) l.image) (tail_wanted l.b l.p l.e.size)

abbrev pub decreases-loop-p : goal.decreases-loop-p
decreases-loop-p l = l.e.size - l.p
