-- `grow::attempts::extend_in` meets its contract: a block that the window holds is what an allocation answers, and a good one ends the growth; else the
-- growth is the other function's. Assumes nothing.
use mathlib.Core.Path.{refl, ap, ◌∙◌}
use native.Mathlib.Omega.{arith}
use Rattle.std.specs.Prelude.{Ok, Err}
use Rattle.grow.proofs.Extends.{rest_start, held, block_linking, ends_done}
use Rattle.grow.proofs.Tries.{good_takes}
use Rattle.grow.proofs.attempts.extend_in.Goals as goal

pub bounds-health-k : goal.bounds-health-k
bounds-health-k c =
    let k = block_linking c.requires (rest_start c.requires c.args.head) (held c.requires c.take-taken.ensures c.in-Some.is) refl in
    omega (arith, k.block, c.requires.known)

pub try_block-requires : goal.try_block-requires
try_block-requires c =
    (block_linking c.requires (rest_start c.requires c.args.head) (held c.requires c.take-taken.ensures c.in-Some.is) refl, c.requires.fits)

pub returns-in-Ok : goal.returns-in-Ok
returns-in-Ok c =
    ends_done c.requires (rest_start c.requires c.args.head) (held c.requires c.take-taken.ensures c.in-Some.is) refl
    c.try_block.ensures (Ok c.in-Ok.grown) c.in-Ok.is

pub returns-in-Err-Refused : goal.returns-in-Err-Refused
returns-in-Err-Refused c =
    ends_done c.requires (rest_start c.requires c.args.head) (held c.requires c.take-taken.ensures c.in-Some.is) refl
    c.try_block.ensures (Err c.in-Err-Refused.refusal) (c.in-Err-Refused.is ∙ ap Err c.in-Err-Refused.field-0-is)

pub unreachable-requires : goal.unreachable-requires
unreachable-requires c =
    good_takes _ _ _ _ _ _ _ (omega arith) c.try_block.ensures (c.in-Err-Spoiled.is ∙ ap Err c.in-Err-Spoiled.field-0-is)
