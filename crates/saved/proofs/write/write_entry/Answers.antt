-- `saved::write::write_entry` meets its contract: number, size, and the head unless the size is 0. Assumes nothing.
use native.Mathlib.Omega.{arith}
use Rattle.saved.proofs.Steps.{entry_parts, length_some}
use Rattle.saved.proofs.Stores.{entry_none, entry_some}
use Rattle.saved.proofs.write.write_entry.Goals as goal

pub write_number-after-requires : goal.write_number-after-requires
write_number-after-requires c = omega (arith, c.requires, entry_parts c.args.e)

pub write_number-end-requires : goal.write_number-end-requires
write_number-end-requires c =
    let w = c.write_number-after in
    omega (arith, w.ensures.0, w.auto.buffer, c.requires, entry_parts c.args.e)

pub returns-then-e-eq0 : goal.returns-then-e-eq0
returns-then-e-eq0 c =
    let w = c.write_number-after.ensures in
    entry_none _ _ _ _ _ _ _ w.0 w.1 c.write_number-end.ensures.0 c.write_number-end.ensures.1 c.if-e-eq0.true

pub write_number-requires : goal.write_number-requires
write_number-requires c =
    let v = c.write_number-end in
    let w = c.write_number-after in
    omega (arith, v.ensures.0, v.auto.buffer, w.ensures.0, w.auto.buffer, c.requires, length_some c.args.e c.if-e-eq0.false)

pub returns : goal.returns
returns c =
    let w = c.write_number-after.ensures in
    let v = c.write_number.ensures in
    entry_some _ _ _ _ _ _ _ w.0 w.1 c.write_number-end.ensures.0 c.write_number-end.ensures.1 _ _ c.if-e-eq0.false v.0 v.1
