-- `blocks::grown` meets its contract: the part of the space that is lent is the card's image. Assumes nothing.
use mathlib.Core.Path.{ap, ◌∙◌}
use native.Mathlib.Omega.{arith}
use lib.ListN.{length}
use Rattle.replay.proofs.Allotted.{front, grew_on, answer_is, image_is}
use Rattle.replay.proofs.blocks.grown.Goals as goal

pub returns : goal.returns
returns c =
    let f = front _ _ _ (omega arith) c.copy.ensures in
    let x =
    grew_on _ _ _ _ _ _ _ _ _ _ _ _ _ _ _ _ _ c.place-card.ensures c.image-before.ensures f
    c.geometry-g.ensures c.word.ensures c.place.ensures c.part.ensures c.place-2.ensures c.table.ensures
    c.place-3.ensures c.window.ensures c.word-2.ensures c.word-3.ensures c.ctz_extend-grew.ensures in (
      answer_is _ _ _ _ c.place-card.ensures c.image-before.ensures _ _ x _ c.from.ensures c.if-length-gt2048.false,
      λ _. image_is _ _ _ _ c.place-card.ensures c.image-before.ensures _ _ x _ (c.ctz_extend-grew.auto.image ∙ ap length f),
    )
