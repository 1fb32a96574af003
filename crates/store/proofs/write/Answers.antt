-- `store::write` meets its contract: the tests in their order, then the file. Assumes nothing.
use mathlib.Core.Bool.{not}
use mathlib.Core.Path.{sym, ap, ◌∙◌}
use Rattle.grow.proofs.Tests.{held, fails}
use Rattle.store.proofs.Tested.{asked}
use Rattle.store.proofs.Files.{gives}
use Rattle.store.proofs.Calls.{write_untested, write_refused, write_found}
use Rattle.store.proofs.write.Goals as goal

pub returns-then-not-valid_setting : goal.returns-then-not-valid_setting
returns-then-not-valid_setting c =
    let a = c.args in
    gives (write_untested a.g.block_size a.g.block_count a.l a.image.now a.health.now a.w a.t a.number a.pos a.«data».now (fails c.valid_setting.ensures (ap not c.if-not-valid_setting.true))) c.left.ensures

pub write_file-requires : goal.write_file-requires
write_file-requires c =
    let a = c.args in
    asked a.g.block_size a.g.block_count a.l a.image.now a.health.now a.w a.t a.number _ (held c.valid_setting.ensures (ap not c.if-not-valid_setting.false)) (sym c.find.ensures ∙ c.in-Ok.is)

pub returns-in-Ok : goal.returns-in-Ok
returns-in-Ok c =
    let a = c.args in
    rw (write_found a.g.block_size a.g.block_count a.l a.image.now a.health.now a.w a.t a.number a.pos a.«data».now (held c.valid_setting.ensures (ap not c.if-not-valid_setting.false)) _ (sym c.find.ensures ∙ c.in-Ok.is))
    c.write_file.ensures

pub returns-in-Err : goal.returns-in-Err
returns-in-Err c =
    let a = c.args in
    gives (write_refused a.g.block_size a.g.block_count a.l a.image.now a.health.now a.w a.t a.number a.pos a.«data».now (held c.valid_setting.ensures (ap not c.if-not-valid_setting.false)) _ (sym c.find.ensures ∙ c.in-Err.is))
    c.left-in-Err.ensures
