-- `store::steps::shrink` meets its contract: by the lookup of the last byte that is kept. Assumes nothing.
use mathlib.Core.Path.{◌∙◌}
use Rattle.store.proofs.Files.{shrinks_empty, shrinks_found, shrinks_refused}
use Rattle.store.proofs.steps.shrink.Goals as goal

pub returns-then-size-eq0 : goal.returns-then-size-eq0
returns-then-size-eq0 c =
    let a = c.args in
    shrinks_empty a.b a.n a.image.now a.w a.t a.i a.size c.if-size-eq0.true c.put.ensures

pub returns-in-Ok : goal.returns-in-Ok
returns-in-Ok c =
    let a = c.args in
    shrinks_found a.b a.n a.image.now a.w a.t a.i a.size c.if-size-eq0.false c.find_in.ensures c.in-Ok.is c.put-in-Ok.ensures

pub returns-in-Err : goal.returns-in-Err
returns-in-Err c =
    let a = c.args in
    c.left.ensures ∙ shrinks_refused a.b a.n a.image.now a.w a.t a.i a.size c.if-size-eq0.false c.find_in.ensures c.in-Err.is
