-- `grow::ctz_extend` meets its contract: the tests decide between the growth and the refusal. Assumes nothing.
use mathlib.Core.Path.{sym, ◌∙◌}
use Rattle.grow.proofs.Extends.{grew}
use Rattle.grow.proofs.Tests.{extending}
use Rattle.grow.proofs.Same.{extend_same, extend_refused}
use Rattle.grow.proofs.ctz_extend.Goals as goal

pub extend_scan-requires : goal.extend_scan-requires
extend_scan-requires c =
    extending (sym c.valid_extend.ensures ∙ c.if-valid_extend.true)

pub returns-then-valid_extend : goal.returns-then-valid_extend
returns-then-valid_extend c =
    rw (extend_same _ _ _ _ _ _ _ _ _ (sym c.valid_extend.ensures ∙ c.if-valid_extend.true)) c.extend_scan.ensures

pub returns : goal.returns
returns c =
    grew _ _ _ (extend_refused _ _ _ _ _ _ _ _ _ (sym c.valid_extend.ensures ∙ c.if-valid_extend.false))
