-- `health::good_health` meets its contract: bytes whose OR is valid are valid, and the largest byte of the rest decides. Assumes nothing.
use mathlib.Core.Path.{sym, ◌∙◌}
use Prim.Native.Nat.{◌-◌, ◌*◌, ◌/◌}
use native.Mathlib.Omega.{arith}
use lib.ListN.{length, drop, length-drop}
use lib.Seq.{take_all}
use Rattle.health.proofs.Health.{miscounted, counted}
use Rattle.health.proofs.Runs.{valid_passed}
use Rattle.health.proofs.good_health.Goals as goal

pub returns-then-health-n : goal.returns-then-health-n
returns-then-health-n c = sym (miscounted c.args.health.now c.args.n c.if-health-n.true)

pub returns-then-merged-le2 : goal.returns-then-merged-le2
returns-then-merged-le2 c =
    let a = c.args in
    let h = a.health.now in
    let rest = drop (8 * (length h / 8)) h in
    rw (take_all (length h - 8 * (length h / 8)) rest (omega (arith, length-drop (8 * (length h / 8)) h))) at c.worst.ensures
    ∙ sym (counted h a.n c.if-health-n.false
    ∙ valid_passed h (8 * (length h / 8)) c.merged.result c.if-merged-le2.true c.merged.ensures)

pub returns : goal.returns
returns c =
    let a = c.args in
    c.worst-2.ensures ∙ sym (counted a.health.now a.n c.if-health-n.false)
