-- `new_block::front` meets its contract: the zeros, then the run of data that there is. Assumes nothing.
use native.Mathlib.Nat.{lt_of_le_of_lt}
use native.Mathlib.Omega.{arith}
use Rattle.device.proofs.Steps.{is_refused}
use Rattle.new_block.proofs.Blanks.{zeros_blank, data_blank}
use Rattle.new_block.proofs.Fills.{gap_fits, front_spoiled, front_goes}
use borrow.Author.Rules.{rules}
use Rattle.new_block.proofs.front.Goals as goal

pub program_zeros-requires : goal.program_zeros-requires
program_zeros-requires c =
    (search rules, zeros_blank _ _ c.min-gap.ensures c.requires.2)

pub returns-in_err-program_zeros : goal.returns-in_err-program_zeros
returns-in_err-program_zeros c =
    let a = c.args in
    rw (is_refused _ c.from_residual.ensures.0)
    (front_spoiled a.health.now a.b a.k a.off a.s a.m a.pos a.«data».now a.image.now _ _ c.saturating_sub.ensures c.min-gap.ensures c.program_zeros.ensures c.in_err-program_zeros.was)

pub overflow_add-off : goal.overflow_add-off
overflow_add-off c =
    record {
      fits = lt_of_le_of_lt (gap_fits _ _ _ _ _ c.requires.0.room
          c.min-gap.ensures) c.ranges.b.fits;
    }

pub program-requires : goal.program-requires
program-requires c = (
  record {
    inside = omega
        (arith, c.program_zeros.auto.image, c.requires.0.inside);
    known = c.requires.0.known;
    room = omega (arith, c.min-gap.ensures, c.min-run.ensures, c.requires.0.room);
  },
  omega (arith, c.min-from.ensures, c.min-run.ensures),
  data_blank _ _ c.min-gap.ensures c.requires.2 _
      c.program_zeros.ensures _ _ c.min-run.ensures,
)

pub returns : goal.returns
returns c =
    let a = c.args in
    front_goes a.health.now a.b a.k a.off a.s a.m a.pos a.«data».now a.image.now _ _
    c.saturating_sub.ensures
    c.min-gap.ensures
    c.program_zeros.ensures
    c.in_ok-program_zeros.was
    _ _ _ c.saturating_sub-2.ensures c.min-from.ensures
    c.min-run.ensures c.program.ensures
