-- `copy_all` leaves the bytes of a clean run in the buffer from place `at` on. The invariant is `Copying`: what is left of the run, set behind
-- what was copied, is the whole. Assumes nothing.
use mathlib.Core.Path.{◌≡◌, refl, ap, ◌∙◌}
use Prim.Native.Nat.{ℕ, suc, ◌+◌, ◌-◌, ◌*◌}
use native.Mathlib.Omega.{arith}
use Rattle.layout.specs.Layout.{pointers}
use Rattle.layout.proofs.Served.{served}
use Rattle.copies.proofs.Copying.{begins, pointers_few, turning, offset_less, turn, parted, copying_on, finished}
use Rattle.copies.proofs.copy_all.Goals as goal

pub offset_at-offset-requires : goal.offset_at-offset-requires
offset_at-offset-requires c =
    record { served = served c.args.card.facts.sized (omega (arith, c.requires.run.most, c.requires.run.inside)); index = c.index_at-first.ensures }

pub loop-i-init : goal.loop-i-init
loop-i-init c =
    let e : c.args.pos + (c.args.count - c.args.count) ≡ c.args.pos = omega arith in
    rw e (begins c.args.card.facts c.requires c.index_at-top.ensures c.index_at-first.ensures c.index_at-last.ensures c.offset_at-offset.ensures)

pub turned-base-requires : goal.turned-base-requires
turned-base-requires c = turning c.loop-i.invariant (c.loop-i.invariant.more (omega arith))

pub overflow_sub-card : goal.overflow_sub-card
overflow_sub-card c = omega (arith, offset_less c.loop-i.invariant (c.loop-i.invariant.more (omega arith)) c.turned-base.ensures)

pub overflow_sub-i : goal.overflow_sub-i
overflow_sub-i c = c.turned-base.ensures.from

pub bounds-blocks-i : goal.bounds-blocks-i
bounds-blocks-i c = omega (arith, c.turned-base.ensures.from, c.turned-base.ensures.among)

pub copy_part-requires : goal.copy_part-requires
copy_part-requires c =
    parted c.loop-i.invariant (c.loop-i.invariant.more (omega arith)) c.turned-base.ensures c.min-part.result c.min-part.ensures

pub overflow_sub-left : goal.overflow_sub-left
overflow_sub-left c =
    let s = turn c.loop-i.invariant (c.loop-i.invariant.more (omega arith)) c.turned-base.ensures c.min-part.result c.min-part.ensures in
    s.most_left

pub overflow_add-to : goal.overflow_add-to
overflow_add-to c =
    let s = turn c.loop-i.invariant (c.loop-i.invariant.more (omega arith)) c.turned-base.ensures c.min-part.result c.min-part.ensures in
    omega (arith, s.most_left, c.loop-i.invariant.fits, c.loop-i.invariant.long, c.well_formed.1.1.1.1.1.1.1.0)

pub overflow_mul-offset : goal.overflow_mul-offset
overflow_mul-offset c =
    let i = c.loop-i.invariant in
    let e : c.loop-i.i + 1 ≡ suc c.loop-i.i = omega arith in
    let n = c.pointer_count-offset.ensures ∙ ap pointers e in
    omega (arith, n, pointers_few c.loop-i.i (omega (arith, i.list.below, i.list.short)))

pub loop-i-preserved : goal.loop-i-preserved
loop-i-preserved c =
    let i = c.loop-i.invariant in
    let some = i.more (omega arith) in
    let s = turn i some c.turned-base.ensures c.min-part.result c.min-part.ensures in
    let e : c.loop-i.i + 1 ≡ suc c.loop-i.i = omega arith in
    copying_on i some c.turned-base.ensures c.min-part.result c.min-part.ensures _ _ _
    c.copy_part.ensures (ap (λ (n : ℕ). 4 * n) (c.pointer_count-offset.ensures ∙ ap pointers e)) (omega (arith, s.most_left, i.end))

pub returns-2 : goal.returns-2
returns-2 c =
    let i = c.loop-i.invariant in
    let some = i.more (omega arith) in
    let s = turn i some c.turned-base.ensures c.min-part.result c.min-part.ensures in
    let e : c.loop-i.i + 1 ≡ suc c.loop-i.i = omega arith in
    finished
    (copying_on i some c.turned-base.ensures c.min-part.result c.min-part.ensures _ _ _
    c.copy_part.ensures (ap (λ (n : ℕ). 4 * n) (c.pointer_count-offset.ensures ∙ ap pointers e)) refl)
    (omega arith)

pub returns : goal.returns
returns c = finished c.loop-i.invariant (omega arith)
