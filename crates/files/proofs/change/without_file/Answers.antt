-- `files::change::without_file` meets its contract: the files before, and those past it. Assumes nothing.
use mathlib.Core.Path.{ap, ◌∙◌}
use native.Mathlib.Omega.{arith}
use native.Mathlib.Nat.{le_of_lt}
use Rattle.files.specs.declared.Table.{Table}
use Rattle.files.proofs.Laws.{slots_ok, count_ok}
use Rattle.files.proofs.Lists.{without_file, first_count}
use Rattle.files.proofs.change.without_file.Goals as goal

pub append-requires : goal.append-requires
append-requires c =
    let p = c.requires in
    let z = ap (λ (t : Table). t.count) c.empty.ensures in
    record {
      slots = slots_ok _ p.0;
      in_order = omega arith;
      to_le = omega (arith, p.1, count_ok _ p.0);
      fits = omega (arith, p.1, count_ok _ p.0);
    }

pub overflow_add-at : goal.overflow_add-at
overflow_add-at c = omega (arith, c.requires.1, count_ok _ c.requires.0)

pub append-requires-2 : goal.append-requires-2
append-requires-2 c =
    let p = c.requires in
    let z = first_count _ p.0 _ (le_of_lt p.1) _ _ c.empty.ensures c.append.ensures in
    record { slots = slots_ok _ p.0; in_order = omega (arith, p.1); to_le = count_ok _ p.0; fits = omega (arith, p.1, count_ok _ p.0) }

pub returns : goal.returns
returns c =
    let p = c.requires in
    c.append-2.ensures ∙ without_file _ p.0 _ (le_of_lt p.1) _ _ p.1 c.empty.ensures c.append.ensures
