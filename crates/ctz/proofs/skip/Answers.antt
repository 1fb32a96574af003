-- `ctz::skip` meets its contract: the two counts, and the smaller of them. Assumes nothing.
use mathlib.Core.Path.{sym}
use Prim.Native.Nat.{◌-◌}
use native.Mathlib.Nat.{min-eq_left, min-eq_right, le_of_lt}
use native.Mathlib.Omega.{arith}
use Rattle.hops.proofs.Digits.{leading_below}
use Rattle.ctz.proofs.skip.Goals as goal

pub overflow_sub-log-2 : goal.overflow_sub-log-2
overflow_sub-log-2 c = let a = c.args in omega (arith, leading_below (a.cur - a.tgt) (omega arith) (omega arith))

pub returns-then-log-zeros : goal.returns-then-log-zeros
returns-then-log-zeros c = sym (min-eq_left c.if-log-zeros.true)

pub returns-else-log-zeros : goal.returns-else-log-zeros
returns-else-log-zeros c = sym (min-eq_right (le_of_lt c.if-log-zeros.false))
