-- `store::truncate` meets its contract: the tests in their order, then the file. Assumes nothing.
use mathlib.Core.Bool.{not}
use mathlib.Core.Path.{sym, ap, ◌∙◌}
use Rattle.grow.proofs.Tests.{held, fails}
use Rattle.store.proofs.Tested.{asked}
use Rattle.store.proofs.Files.{gives}
use Rattle.store.proofs.Calls.{truncate_untested, truncate_refused, truncate_found}
use Rattle.store.proofs.truncate.Goals as goal

pub returns-then-not-valid_setting : goal.returns-then-not-valid_setting
returns-then-not-valid_setting c =
    let a = c.args in
    gives (truncate_untested a.g.block_size a.g.block_count a.l a.image.now a.health.now a.w a.t a.number a.size (fails c.valid_setting.ensures (ap not c.if-not-valid_setting.true))) c.left.ensures

pub truncate_file-requires : goal.truncate_file-requires
truncate_file-requires c =
    let a = c.args in
    asked a.g.block_size a.g.block_count a.l a.image.now a.health.now a.w a.t a.number _ (held c.valid_setting.ensures (ap not c.if-not-valid_setting.false)) (sym c.find.ensures ∙ c.in-Ok.is)

pub returns-in-Ok : goal.returns-in-Ok
returns-in-Ok c =
    let a = c.args in
    rw (truncate_found a.g.block_size a.g.block_count a.l a.image.now a.health.now a.w a.t a.number a.size (held c.valid_setting.ensures (ap not c.if-not-valid_setting.false)) _ (sym c.find.ensures ∙ c.in-Ok.is))
    c.truncate_file.ensures

pub returns-in-Err : goal.returns-in-Err
returns-in-Err c =
    let a = c.args in
    gives (truncate_refused a.g.block_size a.g.block_count a.l a.image.now a.health.now a.w a.t a.number a.size (held c.valid_setting.ensures (ap not c.if-not-valid_setting.false)) _ (sym c.find.ensures ∙ c.in-Err.is))
    c.left-in-Err.ensures
