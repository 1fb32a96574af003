-- `card::good_card` meets its contract: `Geometry::new` tells whether the numbers fit, and the length is compared where they do. Assumes nothing.
use mathlib.Core.Path.{sym, ◌∙◌}
use native.Mathlib.Omega.{arith}
use Rattle.card.proofs.Cards.{good_made, good_refused, made_small}
use Rattle.card.proofs.good_card.Goals as goal

pub overflow_mul-result : goal.overflow_mul-result
overflow_mul-result c =
    let g = c.args.g in
    omega (arith, made_small g.block_size g.block_count c.in-Ok.field-0 (sym c.new.ensures ∙ c.in-Ok.is))

pub returns-in-Ok : goal.returns-in-Ok
returns-in-Ok c =
    good_made _ _ _ _ (sym c.new.ensures ∙ c.in-Ok.is)

pub returns-in-Err : goal.returns-in-Err
returns-in-Err c = good_refused _ _ _ _ (sym c.new.ensures ∙ c.in-Err.is)
