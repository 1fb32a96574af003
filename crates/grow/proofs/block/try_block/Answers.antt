-- `grow::block::try_block` meets its contract: a refused erase ends the try, else the link's answer is its own. Assumes nothing.
use Rattle.device.proofs.Blanks.{blank_erased}
use Rattle.grow.proofs.Rooms.{block_of, gives}
use Rattle.grow.proofs.Tries.{try_kept, try_wiped}
use borrow.Author.Rules.{rules}
use Rattle.grow.proofs.block.try_block.Goals as goal

pub erase-requires : goal.erase-requires
erase-requires c =
    block_of c.requires.0

pub link-requires : goal.link-requires
link-requires c =
    (search rules, search rules, blank_erased _ _ c.erase.ensures c.in-Ok.is)

pub returns-in-Ok : goal.returns-in-Ok
returns-in-Ok c =
    let a = c.args in
    rw (try_wiped a.health.now a.b a.n a.k a.head a.size a.image.now c.erase.ensures c.in-Ok.is) c.link.ensures

pub returns-in-Err : goal.returns-in-Err
returns-in-Err c =
    let a = c.args in
    gives _ _ (try_kept a.health.now a.b a.n a.k a.head a.size a.image.now c.erase.ensures c.in-Err.is)
