-- `alloc::alloc_in` meets its contract: what is left of the allocation, from the window as it stands, comes to what the whole one does; the count bounds the
-- searches. Assumes nothing.
use Rattle.card.specs.inner.Cards.{card_with}
use Rattle.window.proofs.Turns.{left}
use Rattle.alloc.specs.Visits.{seen_in}
use Rattle.alloc.proofs.Turning.{Allocating}
use Rattle.alloc.proofs.alloc_in.Given as goal

abbrev pub invariant-loop-block : goal.invariant-loop-block
invariant-loop-block l = Allocating l.card.block_count l.l (seen_in (card_with l.card.block_size l.card.block_count l.card.image.now) l.t) l.initial.v l.v

abbrev pub decreases-loop-block : goal.decreases-loop-block
decreases-loop-block l = left l.v
