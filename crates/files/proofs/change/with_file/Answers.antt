-- `files::change::with_file` meets its contract: the files before, the empty file, the files from there on. Assumes nothing.
use mathlib.Core.Path.{ap, ◌∙◌}
use native.Mathlib.Omega.{arith}
use Rattle.files.specs.declared.Table.{Table}
use Rattle.files.proofs.Laws.{slots_ok}
use Rattle.files.proofs.Lists.{with_file}
use Rattle.files.proofs.change.with_file.Goals as goal

pub append-u-requires : goal.append-u-requires
append-u-requires c =
    let p = c.requires in
    let z = ap (λ (t : Table). t.count) c.empty.ensures in
    record { slots = slots_ok _ p.0; in_order = omega arith; to_le = omega (arith, p.1, p.2); fits = omega (arith, p.1, p.2) }

pub offset_bounds-u-at : goal.offset_bounds-u-at
offset_bounds-u-at c = omega (arith, c.requires)

pub bounds-u-at : goal.bounds-u-at
bounds-u-at c = omega (arith, c.requires)

pub overflow_add-u : goal.overflow_add-u
overflow_add-u c = omega (arith, c.requires)

pub append-requires : goal.append-requires
append-requires c =
    let p = c.requires in
    record { slots = slots_ok _ p.0; in_order = p.1; to_le = omega (arith, p.2); fits = omega (arith, p.1, p.2) }

pub returns : goal.returns
returns c =
    let p = c.requires in
    c.append.ensures ∙ with_file _ p.0 _ p.1 _ _ _ p.2 c.empty.ensures c.append-u.ensures
