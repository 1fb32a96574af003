-- `new_block::tail` meets its contract: behind the front the tail is not due, its block is lost, or it is copied. Assumes nothing.
use mathlib.Core.Path.{refl}
use Rattle.std.proofs.lemmas.Result.{err_from_is_err_and}
use Rattle.device.proofs.Steps.{step_takes}
use Rattle.new_block.proofs.Tails.{tail_none, tail_looks, tail_lost, tail_asks, tail_copied}
use Rattle.new_block.proofs.tail.Goals as goal

pub returns-then-m-at : goal.returns-then-m-at
returns-then-m-at c =
    tail_none c.requires _ c.saturating_sub-at.ensures c.if-m-at.true

pub look-requires : goal.look-requires
look-requires c =
    tail_looks c.requires _ c.saturating_sub-at.ensures c.if-m-at.false

pub program_copy-requires : goal.program_copy-requires
program_copy-requires c =
    tail_asks c.requires _ c.saturating_sub-at.ensures c.if-m-at.false c.look.ensures c.in_ok-block.was

pub unwrap-requires : goal.unwrap-requires
unwrap-requires c =
    rw (step_takes _ _ _ c.requires.takes c.program_copy.ensures).0 refl

pub returns : goal.returns
returns c =
    tail_copied c.requires _ c.saturating_sub-at.ensures c.if-m-at.false c.look.ensures c.in_ok-block.was
    c.program_copy.ensures

pub returns-in_err-block : goal.returns-in_err-block
returns-in_err-block c =
    let p = err_from_is_err_and c.from_residual.result c.from_residual.ensures.1 in
    rw (p.1, p.2) (tail_lost c.requires _ c.saturating_sub-at.ensures c.if-m-at.false c.look.ensures _ c.in_err-block.was)
