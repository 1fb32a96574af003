-- `programs::program_copy` meets its contract: the bytes are copied within the image, if the block takes them. Assumes nothing.
use mathlib.Core.Path.{sym, ◌∙◌}
use Prim.Native.Nat.{◌+◌, ◌*◌}
use lib.ListN.{take, drop}
use Rattle.programs.proofs.Places.{place_refused, place_stored}
use Rattle.programs.proofs.program_copy.Goals as goal

pub returns-in_err-to : goal.returns-in_err-to
returns-in_err-to c =
    let a = c.args in
    place_refused a.health.now a.b a.k a.off (take a.n (drop (a.from_block * a.b + a.from_off) a.image.now)) a.image.now _ (sym c.place.ensures ∙ c.in_err-to.was) c.from_residual.ensures.0

pub returns : goal.returns
returns c =
    let a = c.args in
    place_stored a.health.now a.b a.k a.off (take a.n (drop (a.from_block * a.b + a.from_off) a.image.now)) a.image.now (sym c.place.ensures ∙ c.in_ok-to.was) c.copy_within.ensures
