-- `grow::attempts::extend_scan` meets its contract: what is left to do equals the whole growth (`Rest`), and each try lowers the checkpoint count. Assumes nothing.
use mathlib.Core.Path.{ap, ◌∙◌}
use Rattle.std.specs.Prelude.{Ok, Err}
use Rattle.grow.proofs.Extends.{rest_start, rest_looking, block_linking, falls, moves_on, ends_done, ends_refused}
use borrow.Author.Rules.{rules}
use Rattle.grow.proofs.attempts.extend_scan.Goals as goal

pub loop-k-init : goal.loop-k-init
loop-k-init c =
    rest_start c.requires _

pub alloc_in-took-requires : goal.alloc_in-took-requires
alloc_in-took-requires c =
    rest_looking c.requires c.loop-k.invariant

pub try_block-requires : goal.try_block-requires
try_block-requires c =
    (block_linking c.requires c.loop-k.invariant c.alloc_in-took.ensures c.in-Ok.is, c.requires.fits)

pub returns-in-Ok-try_block : goal.returns-in-Ok-try_block
returns-in-Ok-try_block c =
    ends_done c.requires c.loop-k.invariant c.alloc_in-took.ensures c.in-Ok.is c.try_block.ensures (Ok c.in-Ok-try_block.grown) c.in-Ok-try_block.is

pub returns-in-Err-Refused : goal.returns-in-Err-Refused
returns-in-Err-Refused c =
    ends_done c.requires c.loop-k.invariant c.alloc_in-took.ensures c.in-Ok.is c.try_block.ensures (Err c.in-Err-Refused.refusal)
    (c.in-Err-Refused.is ∙ ap Err c.in-Err-Refused.field-0-is)

pub loop-k-smaller : goal.loop-k-smaller
loop-k-smaller c =
    falls c.requires c.loop-k.invariant c.alloc_in-took.ensures c.in-Ok.is

pub loop-k-preserved : goal.loop-k-preserved
loop-k-preserved c =
    moves_on c.requires c.loop-k.invariant c.alloc_in-took.ensures c.in-Ok.is c.try_block.ensures (c.in-Err-Spoiled.is ∙ ap Err c.in-Err-Spoiled.field-0-is) (search rules)

pub returns-in-Err : goal.returns-in-Err
returns-in-Err c =
    ends_refused c.requires c.loop-k.invariant c.alloc_in-took.ensures c.in-Err.is
