-- `alloc::mark_file` meets its contract: what is left of the visit, marked from the map as it stands, comes to what the whole visit does. Assumes nothing.
use Rattle.layout.specs.inner.Served.{block_list}
use Rattle.card.specs.Card.{pointer}
use Rattle.card.specs.inner.Cards.{card_with}
use Rattle.ctz.specs.Visits.{visit_of}
use Rattle.ctz.proofs.Visiting.{visit_from}
use Rattle.alloc.proofs.Files.{Goes}
use Rattle.alloc.proofs.mark_file.Given as goal

abbrev pub invariant-loop-step : goal.invariant-loop-step
invariant-loop-step l = Goes l.start l.size l.card.block_count l.initial.map (visit_of (card_with l.card.block_size l.card.block_count l.card.image.now) (block_list l.initial.v.block l.bytes)) l.map (visit_from (pointer l.card.block_size l.card.image.now) l.card.block_count l.v)

abbrev pub decreases-loop-step : goal.decreases-loop-step
decreases-loop-step l = l.v.index
