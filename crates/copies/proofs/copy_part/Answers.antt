-- `copy_part` copies a part of the block that it lends. Assumes nothing.
use mathlib.Core.Path.{ap, ◌∙◌}
use Prim.Native.Nat.{◌*◌}
use lib.Seq.{sets}
use Rattle.finding.proofs.Parts.{lent_part}
use Rattle.copies.proofs.copy_part.Goals as goal

pub returns : goal.returns
returns c =
    c.copy.ensures
    ∙ ap (sets c.args.buffer.now c.args.to) (lent_part c.args.card.image.now (c.args.k * c.args.card.block_size) c.args.card.block_size _ _ c.requires.inside)
