-- `layout::offset_at` meets its contract: 01's formula at the position's own index, and no difference in it goes below 0. Assumes nothing.
use mathlib.Core.Path.{sym}
use Prim.Native.Nat.{◌+◌, ◌-◌, ◌*◌, ◌≤◌}
use native.Mathlib.Omega.{arith}
use lib.Count.{ones}
use Rattle.layout.proofs.Served as served
use Rattle.layout.proofs.offset_at.Goals as goal

pub overflow_mul-result : goal.overflow_mul-result
overflow_mul-result c =
    let room : (c.args.block_size - 8) * c.args.index + 4 * ones c.args.index ≤ c.args.pos = rw c.requires.index (served.offset_room c.requires.served _ (served.index_in c.requires.served)) in
    omega arith

pub overflow_sub-result-2 : goal.overflow_sub-result-2
overflow_sub-result-2 c =
    let room : (c.args.block_size - 8) * c.args.index + 4 * ones c.args.index ≤ c.args.pos = rw c.requires.index (served.offset_room c.requires.served _ (served.index_in c.requires.served)) in
    omega arith

pub overflow_mul-result-2 : goal.overflow_mul-result-2
overflow_mul-result-2 c =
    let room : (c.args.block_size - 8) * c.args.index + 4 * ones c.args.index ≤ c.args.pos = rw c.requires.index (served.offset_room c.requires.served _ (served.index_in c.requires.served)) in
    omega arith

pub overflow_sub-result-3 : goal.overflow_sub-result-3
overflow_sub-result-3 c =
    let room : (c.args.block_size - 8) * c.args.index + 4 * ones c.args.index ≤ c.args.pos = rw c.requires.index (served.offset_room c.requires.served _ (served.index_in c.requires.served)) in
    omega arith

pub returns : goal.returns
returns c = rw c.requires.index (sym (served.offset_is c.requires.served))
