-- `saved::write::entry_length` meets its contract: number, size, and the head unless the size is 0. Assumes nothing.
use native.Mathlib.Omega.{arith}
use Rattle.saved.proofs.Steps.{counted_none, counted_some}
use Rattle.saved.proofs.write.entry_length.Goals as goal

pub overflow_add-start : goal.overflow_add-start
overflow_add-start c = omega (arith, c.number_length.ensures.small, c.number_length-2.ensures.small)

pub overflow_add-result : goal.overflow_add-result
overflow_add-result c =
    omega (arith, c.number_length.ensures.small, c.number_length-2.ensures.small, c.number_length-then-e-gt0.ensures.small)

pub returns-then-e-gt0 : goal.returns-then-e-gt0
returns-then-e-gt0 c =
    counted_some _ _ _ _ c.number_length.ensures c.number_length-2.ensures c.number_length-then-e-gt0.ensures (λ z. omega (arith, c.if-e-gt0.true))

pub returns : goal.returns
returns c =
    counted_none _ _ _ c.number_length.ensures c.number_length-2.ensures (omega (arith, c.if-e-gt0.false))
