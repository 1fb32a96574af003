-- `files::change::remove` meets its contract, case by case of what find answered. Assumes nothing.
use mathlib.Core.Path.{sym, ◌∙◌}
use Rattle.files.proofs.Cases.{found_at, remove_done, remove_refused}
use Rattle.files.proofs.change.remove.Goals as goal

pub without_file-requires : goal.without_file-requires
without_file-requires c =
    let h = found_at _ _ _ (sym c.find.ensures ∙ c.in-Ok.is) in
    (h.ok, h.below)

pub returns-in-Ok : goal.returns-in-Ok
returns-in-Ok c = remove_done _ _ _ c.find.ensures _ _ c.in-Ok.is c.without_file.ensures

pub returns-in-Err : goal.returns-in-Err
returns-in-Err c = remove_refused _ _ _ c.find.ensures _ c.in-Err.is
