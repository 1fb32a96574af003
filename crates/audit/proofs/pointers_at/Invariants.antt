-- `audit::pointers_at` meets its contract. The loop's invariant: the answer is still that of the pointers from here on. Assumes nothing.
use mathlib.Core.Path.{◌≡◌}
use Prim.Native.Nat.{◌+◌, ◌-◌}
use Rattle.hops.specs.Walk.{ctz}
use Rattle.card.specs.Card.{pointer}
use Rattle.audit.specs.Check.{names}
use Rattle.audit.specs.inner.Bounds.{holder}
use Rattle.audit.proofs.pointers_at.Given as goal

abbrev pub invariant-loop-pointer : goal.invariant-loop-pointer
invariant-loop-pointer l =
    names (pointer l.card.block_size l.card.image.now) (ctz l.index) (holder l.index l.k) 1
    ≡ names (pointer l.card.block_size l.card.image.now) (ctz l.index + 1 - l.pointer) (holder l.index l.k) l.pointer
