-- `files::valid_table` meets its contract. The loop's invariant: the whole table's test is that of the files that are left. Assumes nothing.
use mathlib.Core.Path.{◌≡◌, refl, sym, ◌∙◌}
use native.Mathlib.Omega.{arith}
use lib.ListN.{length}
use Rattle.layout.specs.Numbers.{files_max}
use Rattle.files.proofs.Laws.{entry_good, files_turn, files_end, count_out, table_is}
use borrow.Author.Rules.{rules}
use Rattle.files.proofs.valid_table.Goals as goal

pub returns-then-count-gt-MOST : goal.returns-then-count-gt-MOST
returns-then-count-gt-MOST c = sym (count_out _ c.if-count-gt-MOST.true)

pub loop-e-init : goal.loop-e-init
loop-e-init c = refl

pub overflow_add-least : goal.overflow_add-least
overflow_add-least c = omega (arith, (entry_good _ _ (sym c.valid_entry.ensures ∙ c.if-not-valid_entry.false)).number_le)

pub loop-e-preserved : goal.loop-e-preserved
loop-e-preserved c =
    c.loop-e.invariant ∙ files_turn _ _ _ c.loop-e-test.true ∙ rw (sym c.valid_entry.ensures ∙ c.if-not-valid_entry.false)

pub returns-then-not-valid_entry : goal.returns-then-not-valid_entry
returns-then-not-valid_entry c =
    let slots : length c.args.t.files ≡ files_max = search rules in
    sym (table_is _ slots c.if-count-gt-MOST.false ∙ c.loop-e.invariant ∙ files_turn _ _ _ c.loop-e-test.true
    ∙ rw (sym c.valid_entry.ensures ∙ c.if-not-valid_entry.true))

pub returns : goal.returns
returns c =
    let slots : length c.args.t.files ≡ files_max = search rules in
    sym (table_is _ slots c.if-count-gt-MOST.false ∙ c.loop-e.invariant ∙ files_end _ _ _ c.loop-e-test.false)
