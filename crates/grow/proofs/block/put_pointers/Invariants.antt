-- `grow::block::put_pointers` meets its contract: the pointers from the first on are those that are left from `x` on. Assumes nothing.
use mathlib.Core.Path.{◌≡◌}
use Prim.Native.Nat.{◌*◌, ◌-◌, ◌≤◌}
use lib.ListN.{length}
use Rattle.device.specs.inner.Bounds.{Blank}
use Rattle.grow.specs.inner.Attempt.{put_pointers}
use Rattle.grow.proofs.block.put_pointers.Given as goal

abbrev pub invariant-loop-x : goal.invariant-loop-x
invariant-loop-x l = (l.x ≤ l.count) × (length l.image ≡ length l.initial.image)
    × (put_pointers l.health l.b l.n l.k (4 * l.count) l.count 0 l.head l.initial.image ≡ put_pointers l.health l.b l.n l.k (4 * l.count) (l.count - l.x) l.x l.cur l.image)
    × Blank l.b l.k (4 * l.x) (4 * (l.count - l.x)) l.image
