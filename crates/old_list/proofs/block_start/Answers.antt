-- `old_list::block_start` meets its contract: what the offset counts behind the pointers lies behind the block's first position. Assumes nothing.
use mathlib.Core.Path.{refl, ap}
use native.Mathlib.Omega.{arith}
use Rattle.layout.specs.Layout.{pointers}
use Rattle.layout.proofs.Places.{offset_past, offset_of}
use Rattle.old_list.proofs.Index.{start_back}
use Rattle.old_list.proofs.block_start.Goals as goal

pub overflow_mul-result : goal.overflow_mul-result
overflow_mul-result c =
    omega (
      arith,
      c.pointer_count.ensures,
      ap pointers c.index_at-index.ensures,
      offset_past c.args.b
          c.args.p,
      c.offset_at.ensures,
    )

pub overflow_sub-result : goal.overflow_sub-result
overflow_sub-result c =
    omega (
      arith,
      c.pointer_count.ensures,
      ap pointers c.index_at-index.ensures,
      offset_past c.args.b
          c.args.p,
      c.offset_at.ensures,
    )

pub overflow_sub-result-2 : goal.overflow_sub-result-2
overflow_sub-result-2 c =
    omega (
      arith,
      c.pointer_count.ensures,
      ap pointers c.index_at-index.ensures,
      offset_of c.args.b
          c.args.p _ refl,
      c.offset_at.ensures,
    )

pub returns : goal.returns
returns c =
    rw c.pointer_count.ensures (start_back c.requires _ _ c.index_at-index.ensures c.offset_at.ensures)
