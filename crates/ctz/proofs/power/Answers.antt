-- `ctz::power` meets its contract: a one that is shifted by less than 32 loses nothing. Assumes nothing.
use mathlib.Core.Path.{◌∙◌}
use native.Mathlib.Nat.{one-mul}
use native.Mathlib.Omega.{arith}
use lib.Dec.{lit<}
use lib.Pow.{shl_exact}
use Rattle.ctz.proofs.power.Goals as goal

pub returns : goal.returns
returns c = shl_exact 1 c.args.x 32 (lit< tt) (omega arith) ∙ one-mul _
