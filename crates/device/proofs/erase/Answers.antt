-- `device::erase` meets its contract: a block that does not refuse is lent whole and filled. Assumes nothing.
use native.Mathlib.Omega.{arith}
use lib.ListN.{replicate, length-replicate}
use Rattle.device.specs.Device.{wiped}
use Rattle.device.proofs.Steps.{gives_refused, gives_done}
use Rattle.device.proofs.Bounds.{lent_block}
use Rattle.device.proofs.erase.Goals as goal

pub returns-then-refuses_erase : goal.returns-then-refuses_erase
returns-then-refuses_erase c = gives_refused _ _ _ (cc)

pub returns : goal.returns
unfolding wiped
returns c =
    let a = c.args in
    gives_done _ _ _ (cc)
    (lent_block a.b a.k 0 (replicate a.b 255) a.image.now _ c.requires.inside
    (rw length-replicate (omega arith)) c.fill.ensures)
