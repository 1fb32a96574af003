-- `blocks::extended_image` meets its contract: the front of the space is the image afterwards. Assumes nothing.
use Rattle.std.proofs.Common.{rules}
use Rattle.replay.proofs.Allotted.{room, image_same}
use Rattle.replay.proofs.blocks.extended_image.Goals as goal

pub returns : goal.returns
returns c =
    image_same _ _ _ _ _ _ _ _ c.place.ensures c.image-length.ensures c.place-2.ensures c.part.ensures
    (room _ _ _ c.grown.ensures.0 (search rules)) (search rules) (c.grown.ensures.1 (search rules)) c.same.ensures.0 c.same.ensures.1
