-- `copy_all` leaves the bytes of a clean run in the buffer from place `at` on. The invariant is `Copying`: what is left of the run, set behind
-- what was copied, is the whole. Assumes nothing.
use Prim.Native.Nat.{◌+◌, ◌-◌}
use Rattle.copies.proofs.Copying.{Copying}
use Rattle.copies.proofs.copy_all.Given as goal

abbrev pub invariant-loop-i : goal.invariant-loop-i
invariant-loop-i l = Copying l.card.image.now l.initial.buffer l.card.block_size l.card.block_count l.head l.size l.pos l.count l.at l.top l.last l.buffer l.blocks l.base l.i l.offset (l.pos + (l.count - l.left)) l.left l.to
