-- `new_list::write_on` meets its contract: what is left to do equals the whole write (`Rest`), and each growth lowers the checkpoint count. Assumes nothing.
use Rattle.new_list.proofs.Goes.{Rest}
use Rattle.new_list.proofs.write_on.Given as goal

abbrev pub invariant-loop-list : goal.invariant-loop-list
invariant-loop-list l = Rest l.b l.n l.l l.health l.t l.e l.pos l.«data» l.initial.window l.initial.list.head l.initial.list.size l.initial.image l.window l.list.head l.list.size l.image

abbrev pub decreases-loop-list : goal.decreases-loop-list
decreases-loop-list l = l.window.ckpoint
