-- `grow::attempts::extend_scan` meets its contract: what is left to do equals the whole growth (`Rest`), and each try lowers the checkpoint count. Assumes nothing.
use Rattle.grow.proofs.Extends.{Rest}
use Rattle.grow.proofs.attempts.extend_scan.Given as goal

abbrev pub invariant-loop-k : goal.invariant-loop-k
invariant-loop-k l = Rest l.b l.n l.l l.health l.t l.initial.window l.head l.size l.initial.image l.window l.image

abbrev pub decreases-loop-k : goal.decreases-loop-k
decreases-loop-k l = l.window.ckpoint
