-- `programs::program_zeros` meets its contract: a block that does not refuse is lent, and zeros are filled in. Assumes nothing.
use mathlib.Core.Path.{sym, ◌∙◌}
use lib.ListN.{replicate, length-replicate}
use Rattle.programs.proofs.Places.{place_refused, place_lent}
use Rattle.programs.proofs.program_zeros.Goals as goal

pub returns-in_err-start : goal.returns-in_err-start
returns-in_err-start c =
    let a = c.args in
    place_refused a.health.now a.b a.k a.off (replicate a.n 0) a.image.now _ (sym c.place.ensures ∙ c.in_err-start.was) c.from_residual.ensures.0

pub returns : goal.returns
returns c =
    let a = c.args in
    place_lent a.health.now a.b a.k a.off (replicate a.n 0) a.image.now (sym c.place.ensures ∙ c.in_ok-start.was) c.requires.0.inside
    (rw length-replicate c.requires.0.room) c.fill.ensures
