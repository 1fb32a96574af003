-- `ctz::walk_to` meets its contract. The loop's invariant: the answer is still the walk from here, with fuel for each hop that is left.
-- Each hop lowers the index, so the hops and the index together never pass the first one. Assumes nothing.
use mathlib.Core.Path.{◌≡◌}
use Prim.Native.Nat.{suc, ◌+◌, ◌-◌, ◌≤◌}
use Rattle.card.specs.Card.{pointer}
use Rattle.ctz.specs.Lookup.{walk}
use Rattle.ctz.specs.inner.Forms.{pointers_with, target, stand}
use Rattle.ctz.proofs.walk_to.Given as goal

abbrev pub invariant-hop : goal.invariant-hop
invariant-hop l = (l.hops + l.cur ≤ l.top)
    × (walk (suc l.top) (pointers_with l.card.block_count (pointer l.card.block_size l.card.image.now)) (target l.tgt l.offset) (stand l.top l.head 0) ≡ walk (suc (l.top - l.hops)) (pointers_with l.card.block_count (pointer l.card.block_size l.card.image.now)) (target l.tgt l.offset) (stand l.cur l.block l.hops))

abbrev pub decreases-hop : goal.decreases-hop
decreases-hop l = l.cur - l.tgt
