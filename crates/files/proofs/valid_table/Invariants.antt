-- `files::valid_table` meets its contract. The loop's invariant: the whole table's test is that of the files that are left. Assumes nothing.
use mathlib.Core.Path.{◌≡◌}
use lib.ListN.{drop}
use Rattle.files.specs.Table.{files_ok}
use Rattle.files.proofs.valid_table.Given as goal

abbrev pub invariant-loop-e : goal.invariant-loop-e
invariant-loop-e l = files_ok 0 l.e-items ≡ files_ok l.least (drop l.e-index l.e-items)
