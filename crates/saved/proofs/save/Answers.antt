-- `saved::save` meets its contract: the table, the room, then the stores. Assumes nothing.
use mathlib.Core.Path.{sym, ◌∙◌}
use native.Mathlib.Omega.{arith}
use Rattle.saved.proofs.Stores.{save_fits, save_short, save_no_table}
use Rattle.saved.proofs.save.Goals as goal

pub saved_length-n-requires : goal.saved_length-n-requires
saved_length-n-requires c = sym c.valid_table.ensures ∙ c.if-valid_table.true

pub write_table-requires : goal.write_table-requires
write_table-requires c =
    (sym c.valid_table.ensures ∙ c.if-valid_table.true, omega (arith, c.saved_length-n.ensures, c.if-n-buffer.true))

pub returns-then-n-buffer : goal.returns-then-n-buffer
returns-then-n-buffer c =
    save_fits _ _ _ _ (sym c.valid_table.ensures ∙ c.if-valid_table.true) c.saved_length-n.ensures c.if-n-buffer.true c.write_table.ensures

pub returns-else-n-buffer : goal.returns-else-n-buffer
returns-else-n-buffer c = save_short _ _ _ (sym c.valid_table.ensures ∙ c.if-valid_table.true) c.saved_length-n.ensures c.if-n-buffer.false

pub returns-else-valid_table : goal.returns-else-valid_table
returns-else-valid_table c = save_no_table _ _ (sym c.valid_table.ensures ∙ c.if-valid_table.false)
