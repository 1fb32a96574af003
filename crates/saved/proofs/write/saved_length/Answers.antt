-- `saved::write::saved_length` meets its contract. The invariant: the bytes counted and those of the files left are all. Assumes nothing.
use mathlib.Core.Path.{refl, ap}
use native.Mathlib.Omega.{arith}
use lib.ListN.{length}
use Rattle.files.specs.Table.{held}
use Rattle.files.proofs.Laws.{held_length, count_ok}
use Rattle.saved.proofs.Stores.{length_turn, bytes_end, save_length}
use Rattle.saved.proofs.write.saved_length.Goals as goal

pub shared_ref_as_front-e-items : goal.shared_ref_as_front-e-items
shared_ref_as_front-e-items c = count_ok _ c.requires

pub loop-e-init : goal.loop-e-init
loop-e-init c = (omega (arith, held_length _ c.requires, count_ok _ c.requires), omega (arith, c.number_length-n.ensures.small), refl)

pub overflow_add-n : goal.overflow_add-n
overflow_add-n c = let inv = c.loop-e.invariant in omega (arith, inv.1, inv.0, c.loop-e-test.true, c.entry_length-n.ensures.small)

pub loop-e-preserved : goal.loop-e-preserved
loop-e-preserved c =
    let l = c.loop-e in
    let inv = l.invariant in (
      inv.0,
      omega (arith, inv.1, c.entry_length-n.ensures.small),
      omega (arith, inv.2, c.entry_length-n.ensures.is, length_turn (held c.args.t) l.e-index c.loop-e-test.true),
    )

pub returns : goal.returns
returns c =
    let t = c.args.t in
    omega (arith, c.loop-e.invariant.2, save_length t, c.number_length-n.ensures.is, ap length (bytes_end (held t) c.loop-e.e-index c.loop-e-test.false))
