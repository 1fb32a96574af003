-- `card::Card::new` meets its contract: what the test of a card tells is what the type asks. Assumes nothing.
use mathlib.Core.Path.{sym, ◌∙◌}
use Rattle.card.proofs.Cards.{card}
use Rattle.card.proofs.Card.new.Goals as goal

pub invariant_of-result : goal.invariant_of-result
invariant_of-result c = record { facts = card _ _ _ (sym c.good_card.ensures ∙ c.if-not-good_card.false) }
