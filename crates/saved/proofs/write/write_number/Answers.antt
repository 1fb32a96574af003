-- `saved::write::write_number` meets its contract. The invariant: all the stores are those still to be made on what is there. Assumes nothing.
use mathlib.Core.Path.{refl, sym, ◌∙◌}
use native.Mathlib.Omega.{arith}
use lib.ListN.{length-set}
use Rattle.saved.proofs.Numbers.{length_last, length_more}
use Rattle.saved.proofs.Stores.{store_last, store_more}
use Rattle.saved.proofs.write.write_number.Goals as goal

pub loop-m-init : goal.loop-m-init
loop-m-init c = (refl, refl, c.requires, refl)

pub overflow_add-buffer : goal.overflow_add-buffer
overflow_add-buffer c = omega arith

pub overflow_cast-buffer : goal.overflow_cast-buffer
overflow_cast-buffer c = omega arith

pub bounds-buffer-i : goal.bounds-buffer-i
bounds-buffer-i c = omega (arith, length_more c.loop-m.m c.loop-m-test.true)

pub overflow_add-i : goal.overflow_add-i
overflow_add-i c = omega (arith, length_more c.loop-m.m c.loop-m-test.true, c)

pub loop-m-smaller : goal.loop-m-smaller
loop-m-smaller c = omega arith

pub loop-m-preserved : goal.loop-m-preserved
loop-m-preserved c =
    let l = c.loop-m in
    let more = length_more l.m c.loop-m-test.true in
    (simp length-set l.invariant.0, omega arith, l.invariant.2, l.invariant.3 ∙ store_more l.buffer l.i l.m c.loop-m-test.true)

pub overflow_cast-buffer-2 : goal.overflow_cast-buffer-2
overflow_cast-buffer-2 c = omega arith

pub bounds-buffer-i-2 : goal.bounds-buffer-i-2
bounds-buffer-i-2 c = omega (arith, length_last c.loop-m.m c.loop-m-test.false)

pub overflow_add-result : goal.overflow_add-result
overflow_add-result c = omega (arith, length_last c.loop-m.m c.loop-m-test.false, c)

pub shape_of-buffer : goal.shape_of-buffer
shape_of-buffer c = simp length-set c.loop-m.invariant.0

pub returns : goal.returns
returns c =
    let l = c.loop-m in
    (omega (arith, length_last l.m c.loop-m-test.false), sym (l.invariant.3 ∙ store_last l.buffer l.i l.m c.loop-m-test.false))
