-- `files::change::create` meets its contract, case by case of what find answered. Assumes nothing.
use Rattle.layout.specs.declared.Refusal.TheVariants.{Missing}
use borrow.Author.Rules.{rules}
use mathlib.Core.Path.{◌≡◌, ap, ◌∙◌}
use Rattle.std.specs.Prelude.{Err}
use Rattle.files.proofs.Lists.{place_count}
use Rattle.files.proofs.Cases.{missing_table, create_exists, create_full, create_refused, create_done}
use Rattle.files.proofs.change.create.Goals as goal

pub place-requires : goal.place-requires
place-requires c = missing_table _ _ _ c.find.ensures (c.in-Err-Missing.is ∙ ap Err c.in-Err-Missing.field-0-is)

pub with_file-requires : goal.with_file-requires
with_file-requires c =
    let ok = missing_table _ _ _ c.find.ensures (c.in-Err-Missing.is ∙ ap Err c.in-Err-Missing.field-0-is) in
    (ok, place_count _ _ _ ok c.place.ensures, c.if-t-lt-MOST.true)

pub returns-then-t-lt-MOST : goal.returns-then-t-lt-MOST
returns-then-t-lt-MOST c =
    create_done _ _ _ c.find.ensures _ _ (c.in-Err-Missing.is ∙ ap Err c.in-Err-Missing.field-0-is) c.if-t-lt-MOST.true c.place.ensures c.with_file.ensures

pub returns-else-t-lt-MOST : goal.returns-else-t-lt-MOST
returns-else-t-lt-MOST c = create_full _ _ _ c.find.ensures (c.in-Err-Missing.is ∙ ap Err c.in-Err-Missing.field-0-is) c.if-t-lt-MOST.false

pub returns-in-Ok : goal.returns-in-Ok
returns-in-Ok c = create_exists _ _ _ c.find.ensures _ c.in-Ok.is

pub returns-in-Err : goal.returns-in-Err
returns-in-Err c =
    let other : c.in-Err.refusal ≡ Missing → ⊥ = λ e. search rules in
    create_refused _ _ _ c.find.ensures _ other c.in-Err.is
