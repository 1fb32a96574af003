-- `layout::Geometry::new` meets its contract: each test that led to a return settles a part of `card_fits`. Assumes nothing.
use native.Mathlib.Nat.{mul-le-mul}
use native.Mathlib.Omega.{arith}
use Rattle.layout.proofs.Geometry.new.Goals as goal

pub overflow_mul-block_size : goal.overflow_mul-block_size
overflow_mul-block_size c = omega (arith, mul-le-mul c.if-block_size-gt65536.false c.if-block_count-gt65536.false)
