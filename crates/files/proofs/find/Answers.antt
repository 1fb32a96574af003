-- `files::find` meets its contract: the table, the number, then the search. Assumes nothing.
use mathlib.Core.Path.{sym, ◌∙◌}
use Rattle.files.proofs.Cases.{find_no_table, find_no_number, find_is}
use Rattle.files.proofs.find.Goals as goal

pub search-requires : goal.search-requires
search-requires c = sym c.valid_table.ensures ∙ c.if-valid_table.true

pub returns-then-number-le-NUMBER_MAX : goal.returns-then-number-le-NUMBER_MAX
returns-then-number-le-NUMBER_MAX c =
    c.search.ensures ∙ sym (find_is _ _ (sym c.valid_table.ensures ∙ c.if-valid_table.true) c.if-number-le-NUMBER_MAX.true)

pub returns-else-number-le-NUMBER_MAX : goal.returns-else-number-le-NUMBER_MAX
returns-else-number-le-NUMBER_MAX c = sym (find_no_number _ _ (sym c.valid_table.ensures ∙ c.if-valid_table.true) c.if-number-le-NUMBER_MAX.false)

pub returns-else-valid_table : goal.returns-else-valid_table
returns-else-valid_table c = sym (find_no_table _ _ (sym c.valid_table.ensures ∙ c.if-valid_table.false))
