-- `files::position::moved` meets its contract: the sum fits 64 bits, and is tested against both limits. Assumes nothing.
use Rattle.files.proofs.Seeking.{offset_fits, sum_fits, moved_below, moved_above, moved_at, moved_fits, moved_answer}
use Rattle.files.proofs.position.moved.Goals as goal

pub overflow_cast-sum-2 : goal.overflow_cast-sum-2
overflow_cast-sum-2 c = offset_fits c.args.base _ c.ranges.base.fits c.ranges.offset

pub overflow_add-sum : goal.overflow_add-sum
overflow_add-sum c = sum_fits c.args.base c.args.offset c.ranges.base.fits c.ranges.offset

pub returns-then-sum-lt0 : goal.returns-then-sum-lt0
returns-then-sum-lt0 c =
    moved_below c.args.base c.args.offset c.ranges.base.fits c.ranges.offset c.if-sum-lt0.true

pub returns-then-sum : goal.returns-then-sum
returns-then-sum c =
    moved_above c.args.base c.args.offset c.ranges.base.fits c.ranges.offset c.if-sum.true

pub overflow_cast-result : goal.overflow_cast-result
overflow_cast-result c =
    let w = moved_at c.args.base c.args.offset c.ranges.base.fits c.ranges.offset c.if-sum-lt0.false c.if-sum.false in
    moved_fits c.args.base c.args.offset c.ranges.base.fits c.ranges.offset w

pub returns : goal.returns
returns c =
    let w = moved_at c.args.base c.args.offset c.ranges.base.fits c.ranges.offset c.if-sum-lt0.false c.if-sum.false in
    moved_answer c.args.base c.args.offset c.ranges.base.fits c.ranges.offset w
