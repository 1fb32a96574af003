-- `saved::write::write_table` meets its contract. The invariant: all the stores are those still to be made on what is there. Assumes nothing.
use mathlib.Core.Path.{refl, ◌∙◌}
use native.Mathlib.Omega.{arith}
use Rattle.files.specs.Table.{held}
use Rattle.files.proofs.Laws.{count_ok}
use Rattle.saved.proofs.Stores.{length_turn, files_turn, save_length, save_end}
use Rattle.saved.proofs.write.write_table.Goals as goal

pub write_number-at-requires : goal.write_number-at-requires
write_number-at-requires c = omega (arith, c.requires.1, save_length c.args.t)

pub shared_ref_as_front-e-items : goal.shared_ref_as_front-e-items
shared_ref_as_front-e-items c = count_ok _ c.requires.0

pub loop-e-init : goal.loop-e-init
loop-e-init c =
    let w = c.write_number-at in
    (refl, omega (arith, w.ensures.0, w.auto.buffer, c.requires.1, save_length c.args.t), refl)

pub write_entry-at-requires : goal.write_entry-at-requires
write_entry-at-requires c =
    let l = c.loop-e in
    omega (arith, l.invariant.1, l.invariant.0, length_turn (held c.args.t) l.e-index c.loop-e-test.true)

pub loop-e-preserved : goal.loop-e-preserved
loop-e-preserved c =
    let l = c.loop-e in
    let test = c.loop-e-test.true in
    let w = c.write_entry-at in (
      omega (arith, w.auto.buffer, l.invariant.0),
      omega (arith, w.ensures.0, l.invariant.1, length_turn (held c.args.t) l.e-index test),
      l.invariant.2 ∙ files_turn (held c.args.t) l.e-index test _ _ _ _ w.ensures.0 w.ensures.1,
    )

pub shape_of-buffer : goal.shape_of-buffer
shape_of-buffer c = omega (arith, c.loop-e.invariant.0, c.write_number-at.auto.buffer)

pub returns : goal.returns
returns c =
    let w = c.write_number-at.ensures in
    save_end _ _ _ _ _ _ _ w.1 w.0 c.loop-e.invariant.2 c.loop-e-test.false
