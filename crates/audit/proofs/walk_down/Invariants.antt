-- `audit::walk_down` meets its contract. The loop's invariant: the map's bits are the numbers met, and the answer is still that of the walk
-- from here with those numbers. Assumes nothing.
use mathlib.Core.Path.{◌≡◌}
use mathlib.Core.List.{List, []}
use Prim.Native.Nat.{ℕ}
use Rattle.card.specs.Card.{pointer}
use Rattle.ctz.specs.inner.Forms.{pointers_with}
use Rattle.audit.specs.Check.{falls}
use Rattle.audit.proofs.Falling.{Agrees}
use Rattle.audit.proofs.walk_down.Given as goal

abbrev pub invariant-loop-index : goal.invariant-loop-index
invariant-loop-index l = (ms : List ℕ) × Agrees l.met ms × (falls (pointers_with l.card.block_count (pointer l.card.block_size l.card.image.now)) l.top l.head [] ≡ falls (pointers_with l.card.block_count (pointer l.card.block_size l.card.image.now)) l.index l.k ms)
