-- `programs::program` meets its contract: a block that does not refuse is lent, and the bytes are copied into it. Assumes nothing.
use mathlib.Core.Path.{sym, ◌∙◌}
use native.Mathlib.Omega.{arith}
use lib.ListN.{take, drop, length-take, length-drop}
use Rattle.programs.proofs.Places.{place_refused, place_lent}
use Rattle.programs.proofs.program.Goals as goal

pub returns-in_err-start : goal.returns-in_err-start
returns-in_err-start c =
    let a = c.args in
    place_refused a.health.now a.b a.k a.off (take a.n (drop a.from a.src.now)) a.image.now _ (sym c.place.ensures ∙ c.in_err-start.was) c.from_residual.ensures.0

pub returns : goal.returns
returns c =
    let a = c.args in
    place_lent a.health.now a.b a.k a.off (take a.n (drop a.from a.src.now)) a.image.now (sym c.place.ensures ∙ c.in_ok-start.was) c.requires.0.inside
    (simp (length-take, length-drop) (omega arith)) c.copy.ensures
