-- `audit::further_from` meets its contract. The loop's invariant: the answer is still that of the indexes from here down, on a clean walk.
-- Assumes nothing.
use mathlib.Core.Path.{◌≡◌}
use Rattle.card.specs.Card.{pointer}
use Rattle.audit.specs.Check.{further}
use Rattle.audit.specs.inner.Bounds.{CleanWalk}
use Rattle.audit.proofs.further_from.Given as goal

abbrev pub invariant-loop-index : goal.invariant-loop-index
invariant-loop-index l = (further (pointer l.card.block_size l.card.image.now) l.top l.head ≡ further (pointer l.card.block_size l.card.image.now) l.index l.k) × CleanWalk l.card.image.now l.card.block_size l.card.block_count l.index l.k
