-- `layout::pointer_count` meets its contract. Assumes nothing.
use mathlib.Core.Path.{sym, ap, ◌∙◌}
use native.Mathlib.Omega.{arith}
use lib.Count.{trailing_le}
use Rattle.layout.specs.Layout.{pointers}
use Rattle.layout.proofs.Laws.{pointers_zero, pointers_pos}
use Rattle.layout.proofs.pointer_count.Goals as goal

pub returns-then-index-eq0 : goal.returns-then-index-eq0
returns-then-index-eq0 c = sym (ap pointers c.if-index-eq0.true ∙ pointers_zero)

pub overflow_add-result : goal.overflow_add-result
overflow_add-result c = omega (arith, trailing_le 32 c.args.index)

pub returns : goal.returns
returns c = sym (pointers_pos c.args.index c.if-index-eq0.false)
