-- `place_in` answers what `stretch_in` gives, by the answer of the one lookup.
use mathlib.Core.Path.{sym}
use native.Mathlib.Omega.{arith}
use Rattle.std.proofs.lemmas.Result.{err_from_is_err_and}
use Rattle.reading.proofs.Inner.{place_past, place_part, place_lost, lies}
use Rattle.reading.proofs.list.place_in.Goals as goal

pub returns-then-size-pos : goal.returns-then-size-pos
returns-then-size-pos c = place_past _ _ _ _ _ _ c.if-size-pos.true

pub overflow_mul-result : goal.overflow_mul-result
overflow_mul-result c =
    let i = lies c.args.card.image.now _ _ (record { card = c.args.card.facts; most = c.requires }) c.if-size-pos.false (sym c.in_ok-found.ensures) in omega (arith, i.block)

pub overflow_add-result : goal.overflow_add-result
overflow_add-result c =
    let i = lies c.args.card.image.now _ _ (record { card = c.args.card.facts; most = c.requires }) c.if-size-pos.false (sym c.in_ok-found.ensures) in omega (arith, i.offset, i.block)

pub overflow_sub-card : goal.overflow_sub-card
overflow_sub-card c =
    let i = lies c.args.card.image.now _ _ (record { card = c.args.card.facts; most = c.requires }) c.if-size-pos.false (sym c.in_ok-found.ensures) in omega (arith, i.offset)

pub returns : goal.returns
returns c = place_part _ _ _ _ _ _ _ c.if-size-pos.false (sym c.in_ok-found.ensures) c.min.ensures

pub returns-in_err-found : goal.returns-in_err-found
returns-in_err-found c =
    let p = err_from_is_err_and c.from_residual.result c.from_residual.ensures.1 in
    rw (p.1, p.2) (place_lost _ _ _ (record { card = c.args.card.facts; most = c.requires }) c.if-size-pos.false (sym c.in_err-found.ensures))
