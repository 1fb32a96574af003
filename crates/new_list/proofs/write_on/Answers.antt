-- `new_list::write_on` meets its contract: what is left to do equals the whole write (`Rest`), and each growth lowers the checkpoint count. Assumes nothing.
use mathlib.Core.Path.{ap, ◌∙◌}
use Rattle.std.specs.Prelude.{Err}
use Rattle.layout.specs.declared.Refusal.TheVariants.{NoSpace}
use Rattle.new_list.proofs.Goes.{rest_start, rest_extends, rest_fills, falls, goes_on, moves_on, ends_done, ends_stopped, ends_named, ends_lost, loop_new, loop_end}
use Rattle.new_list.proofs.write_on.Goals as goal

pub loop-list-init : goal.loop-list-init
loop-list-init c = rest_start c.requires _ _

pub extend_in-grew-requires : goal.extend_in-grew-requires
extend_in-grew-requires c =
    rest_extends c.requires c.loop-list.invariant (loop_new c.requires c.max-new.ensures c.loop-list-test.true)

pub fill_block-requires : goal.fill_block-requires
fill_block-requires c =
    rest_fills c.requires c.loop-list.invariant (loop_new c.requires c.max-new.ensures c.loop-list-test.true) c.extend_in-grew.ensures
    c.in-Ok.is c.extend_in-grew.auto.image

pub loop-list-smaller-in-Ok-fill_block : goal.loop-list-smaller-in-Ok-fill_block
loop-list-smaller-in-Ok-fill_block c =
    falls c.requires c.loop-list.invariant (loop_new c.requires c.max-new.ensures c.loop-list-test.true) c.extend_in-grew.ensures
    c.in-Ok.is

pub loop-list-preserved-in-Ok-fill_block : goal.loop-list-preserved-in-Ok-fill_block
loop-list-preserved-in-Ok-fill_block c =
    goes_on c.requires c.loop-list.invariant (loop_new c.requires c.max-new.ensures c.loop-list-test.true) c.extend_in-grew.ensures
    c.in-Ok.is c.fill_block.ensures c.extend_in-grew.auto.image
    c.fill_block.auto.image _ c.in-Ok-fill_block.is

pub loop-list-smaller : goal.loop-list-smaller
loop-list-smaller c =
    falls c.requires c.loop-list.invariant (loop_new c.requires c.max-new.ensures c.loop-list-test.true) c.extend_in-grew.ensures
    c.in-Ok.is

pub loop-list-preserved : goal.loop-list-preserved
loop-list-preserved c =
    moves_on c.requires c.loop-list.invariant (loop_new c.requires c.max-new.ensures c.loop-list-test.true) c.extend_in-grew.ensures
    c.in-Ok.is c.fill_block.ensures c.extend_in-grew.auto.image
    c.fill_block.auto.image (c.in-Err-Spoiled.is ∙ ap Err c.in-Err-Spoiled.field-0-is)

pub returns-in-Err-Refused : goal.returns-in-Err-Refused
returns-in-Err-Refused c =
    rw c.in-Err-Refused.refusal-is
    (ends_lost c.requires c.loop-list.invariant (loop_new c.requires c.max-new.ensures c.loop-list-test.true) c.extend_in-grew.ensures
    c.in-Ok.is c.fill_block.ensures _ (c.in-Err-Refused.is ∙ ap Err c.in-Err-Refused.field-0-is))

pub returns-in-Err-NoSpace : goal.returns-in-Err-NoSpace
returns-in-Err-NoSpace c =
    ends_named c.requires c.loop-list.invariant (loop_new c.requires c.max-new.ensures c.loop-list-test.true)
    c.extend_in-grew.ensures _ NoSpace c.in-Err-NoSpace.is (rw c.in-Err-NoSpace.is at c.in-Err-NoSpace.field-0-is)

pub returns-in-Err : goal.returns-in-Err
returns-in-Err c =
    ends_stopped c.requires c.loop-list.invariant (loop_new c.requires c.max-new.ensures c.loop-list-test.true)
    c.extend_in-grew.ensures _ c.in-Err.is

pub returns : goal.returns
returns c =
    ends_done c.requires c.loop-list.invariant (loop_end c.requires c.max-new.ensures c.loop-list-test.false)
