-- `new_block::fill_block` meets its contract: the front decides whether the block refuses, and the tail goes behind it. Assumes nothing.
use Rattle.new_block.proofs.Fills.{front_asks, tail_asked, fill_spoiled, fill_on}
use Rattle.new_block.proofs.fill_block.Goals as goal

pub front-requires : goal.front-requires
front-requires c =
    front_asks c.requires c.max-new.ensures c.min-m.ensures

pub tail-requires : goal.tail-requires
tail-requires c =
    tail_asked c.requires c.max-new.ensures c.min-m.ensures c.front.ensures c.in-Ok.is
    c.front.auto.image

pub returns-in-Ok : goal.returns-in-Ok
returns-in-Ok c =
    fill_on c.requires c.max-new.ensures c.min-m.ensures c.front.ensures c.in-Ok.is
    c.tail.ensures

pub returns-in-Err : goal.returns-in-Err
returns-in-Err c =
    fill_spoiled c.requires c.max-new.ensures c.min-m.ensures c.front.ensures c.in-Err.is
