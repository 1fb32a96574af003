-- `records::agree::same_map` meets its contract: whether the bits from the next one on agree answers the whole. Assumes nothing.
use mathlib.Core.Path.{◌≡◌}
use Rattle.records.specs.Agreement.{maps_agree}
use Rattle.records.proofs.agree.same_map.Given as goal

abbrev pub invariant-loop-o : goal.invariant-loop-o
invariant-loop-o l = maps_agree l.ours l.theirs l.next ≡ maps_agree l.ours l.theirs l.o
