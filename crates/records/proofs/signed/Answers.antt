-- `records::signed` meets its contract: the two halves of the words. Assumes nothing.
use Rattle.records.proofs.Placed.{signed_is}
use Rattle.records.proofs.signed.Goals as goal

pub returns : goal.returns
returns c = signed_is c.ranges.x.fits c.cast_signed.ensures
