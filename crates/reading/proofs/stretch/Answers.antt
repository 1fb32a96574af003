-- `stretch` hands out the part of the image at the place and of the length that its companion answers.
use Rattle.reading.proofs.Results.{placed_within, stretch_part}
use Rattle.reading.proofs.stretch.Goals as goal

pub slice_bounds-result-end : goal.slice_bounds-result-end
slice_bounds-result-end c =
    placed_within _ _ _ _ _ _ _ _ _ c.stretch_place-placed.ensures c.place_of-place.ensures c.length_of-length.ensures

pub returns : goal.returns
returns c = stretch_part _ _ _ _ _ c.stretch_place-placed.ensures c.place_of-place.ensures c.length_of-length.ensures
