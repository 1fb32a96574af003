-- `ctz::run::find_run` meets its contract. The loop's invariant: the blocks of the indexes passed are known. Assumes nothing.
use mathlib.Core.Path.{◌≡◌}
use lib.ListN.{length}
use Rattle.card.specs.Card.{pointer}
use Rattle.ctz.specs.inner.Runs.{RunFound}
use Rattle.ctz.proofs.run.find_run.Given as goal

abbrev pub invariant-loop-j : goal.invariant-loop-j
invariant-loop-j l = (length l.blocks ≡ length l.initial.blocks) × RunFound (pointer l.card.block_size l.card.image.now) l.card.block_count l.head l.top l.first l.count l.blocks l.j
