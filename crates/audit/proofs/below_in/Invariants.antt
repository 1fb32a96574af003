-- `audit::below_in` meets its contract: after so many turns the number is the one that lies as many indexes below. Assumes nothing.
use mathlib.Core.Path.{◌≡◌}
use Rattle.card.specs.Card.{pointer}
use Rattle.ctz.specs.Lists.{down}
use Rattle.audit.proofs.below_in.Given as goal

abbrev pub invariant-loop : goal.invariant-loop
invariant-loop l = l.at ≡ down (pointer l.card.block_size l.card.image.now) l.k l.counter
