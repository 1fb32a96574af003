-- `programs::program_word` meets its contract: a block that does not refuse is lent, and the word is put into it. Assumes nothing.
use mathlib.Core.Path.{sym, ◌∙◌}
use Rattle.span.specs.Words.{bytes32}
use Rattle.span.proofs.Words.{length_bytes32}
use Rattle.programs.proofs.Places.{place_refused, place_lent}
use Rattle.programs.proofs.program_word.Goals as goal

pub returns-in_err-start : goal.returns-in_err-start
returns-in_err-start c =
    let a = c.args in
    place_refused a.health.now a.b a.k a.off (bytes32 a.v) a.image.now _ (sym c.place.ensures ∙ c.in_err-start.was) c.from_residual.ensures.0

pub returns : goal.returns
returns c =
    let a = c.args in
    place_lent a.health.now a.b a.k a.off (bytes32 a.v) a.image.now (sym c.place.ensures ∙ c.in_ok-start.was) c.requires.0.inside
    (rw length_bytes32 c.requires.0.room) c.put_word.ensures
