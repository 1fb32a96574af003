-- `health::with_four` meets its contract. Assumes nothing.
use Rattle.health.specs.inner.Bounds.{or_four}
use borrow.Author.Rules.{rules}
use Rattle.health.proofs.with_four.Goals as goal

pub returns : goal.returns
unfolding or_four
returns c = search rules
