-- `layout::index_at` meets its contract: where the first quotient is 0 the position lies in block 0, else the second quotient is its index (`Served`).
-- Assumes nothing.
use mathlib.Core.Path.{sym}
use native.Mathlib.Omega.{arith}
use Rattle.layout.proofs.Served as served
use Rattle.layout.proofs.index_at.Goals as goal

pub returns-then-q-eq0 : goal.returns-then-q-eq0
returns-then-q-eq0 c = sym (served.index_found c.requires 0 (served.quotient_none c.requires c.if-q-eq0.true))

pub overflow_add-result : goal.overflow_add-result
overflow_add-result c = omega (arith, served.pointers_within c.requires c.if-q-eq0.false)

pub overflow_mul-result : goal.overflow_mul-result
overflow_mul-result c = omega (arith, served.pointers_within c.requires c.if-q-eq0.false)

pub overflow_sub-result-2 : goal.overflow_sub-result-2
overflow_sub-result-2 c = omega (arith, served.pointers_within c.requires c.if-q-eq0.false, served.past_first c.requires c.if-q-eq0.false)

pub returns : goal.returns
returns c =
    sym (served.index_found c.requires _ (served.second_quotient c.requires c.if-q-eq0.false))
