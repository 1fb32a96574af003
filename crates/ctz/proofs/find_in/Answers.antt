-- `ctz::find_in` meets its contract: index and offset as `layout` ensures them, then the walk. Assumes nothing.
use mathlib.Core.Path.{◌∙◌}
use Rattle.ctz.proofs.Room.{walks}
use Rattle.ctz.proofs.Lookups.{walk_is}
use Rattle.ctz.proofs.find_in.Goals as goal

pub walk_to-requires : goal.walk_to-requires
walk_to-requires c =
    rw c.index_at-top.ensures (walks c.args.card.facts c.requires.most)

pub returns : goal.returns
returns c =
    c.walk_to.ensures
    ∙ walk_is _ _ _ _ _ _ _ _ _ c.index_at-top.ensures c.index_at-tgt.ensures c.offset_at-offset.ensures
