-- `records::map` meets its contract: the length of the part tells whether it is there. Assumes nothing.
use Rattle.records.proofs.Placed.{map_in, map_out}
use Rattle.records.proofs.map.Goals as goal

pub returns-then-found-eq64 : goal.returns-then-found-eq64
returns-then-found-eq64 c =
    map_in _ _ _ _ c.part-found.ensures c.if-found-eq64.true c.copy.ensures

pub returns-else-found-eq64 : goal.returns-else-found-eq64
returns-else-found-eq64 c = map_out _ _ _ c.part-found.ensures c.if-found-eq64.false
