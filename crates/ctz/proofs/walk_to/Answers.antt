-- `ctz::walk_to` meets its contract. The loop's invariant: the answer is still the walk from here, with fuel for each hop that is left.
-- Each hop lowers the index, so the hops and the index together never pass the first one. Assumes nothing.
use mathlib.Core.Path.{◌≡◌, refl, sym, ◌∙◌}
use Prim.Native.Nat.{suc, ◌+◌, ◌-◌, ◌≤◌, ◌<◌}
use native.Mathlib.Nat.{sub-zero}
use native.Mathlib.Omega.{arith}
use Rattle.ctz.proofs.Room.{asked}
use Rattle.ctz.proofs.Walked.{walk_at, walk_hop, pick_stored, pick_width, jump_down}
use Rattle.ctz.proofs.walk_to.Goals as goal
use Rattle.ctz.proofs.walk_to.Goals.{After-power-cur}

-- a hop leads down, and not past the target
falls : (c : After-power-cur) → (0 < c.power-cur.result) × (c.args.tgt + c.power-cur.result ≤ c.hop.cur)
falls c =
    jump_down c.hop.cur c.args.tgt _ _ c.skip-x.ensures c.power-cur.ensures c.if-cur-tgt.false
    (omega (arith, c.hop.invariant.0, c.ranges.top.fits))

pub hop-init : goal.hop-init
hop-init c = (omega arith, rw sub-zero refl)

pub returns-then-cur-tgt : goal.returns-then-cur-tgt
returns-then-cur-tgt c = sym (c.hop.invariant.1 ∙ walk_at _ _ _ _ _ _ _ _ (omega arith) c.if-cur-tgt.true)

pub pointer-block-requires : goal.pointer-block-requires
pointer-block-requires c =
    let l = c.hop in
    asked {i = l.cur} c.args.card.facts c.requires (omega arith) (omega arith)
    (omega (arith, c.skip-x.ensures, pick_stored l.cur c.args.tgt)) (omega arith)

pub power-cur-requires : goal.power-cur-requires
power-cur-requires c =
    let l = c.hop in
    let a = c.args in
    omega (arith, c.skip-x.ensures, pick_width l.cur a.tgt)

pub overflow_sub-cur : goal.overflow_sub-cur
overflow_sub-cur c =
    let down = falls (goal.at.overflow_sub-cur c).After-power-cur in
    omega (arith, down)

pub hop-smaller : goal.hop-smaller
hop-smaller c =
    let down = falls (goal.at.hop-smaller c).After-power-cur in
    omega (arith, down)

pub hop-preserved : goal.hop-preserved
hop-preserved c =
    let down = falls (goal.at.hop-preserved c).After-power-cur in
    let l = c.hop in
    let fuel : c.args.top - l.hops ≡ suc (c.args.top - (l.hops + 1)) = omega (arith, down) in
    let one : suc l.hops ≡ l.hops + 1 = omega arith in
    (omega (arith, down), l.invariant.1 ∙ walk_hop _ _ _ _ _ _ _ _ (omega arith) c.if-cur-tgt.false ∙ cc)
