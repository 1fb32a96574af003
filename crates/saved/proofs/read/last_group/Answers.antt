-- `saved::read::last_group` meets its contract: not long, then in range. Assumes nothing.
use mathlib.Core.Path.{◌≡◌}
use mathlib.Core.Bool.{false, ◌&&◌}
use native.Mathlib.Omega.{arith}
use lib.Dec.{ltb, eqb}
use Rattle.std.proofs.lemmas.Bool.Decides.{nat_tests}
use Rattle.saved.proofs.Scaling.{group_below, last_long, last_large, last_fits}
use Rattle.saved.proofs.read.last_group.Goals as goal

pub returns-then-b-eq0 : goal.returns-then-b-eq0
returns-then-b-eq0 c = last_long _ _ _ _ _ (omega arith) c.if-b-eq0.true

pub overflow_mul-whole : goal.overflow_mul-whole
overflow_mul-whole c = let p = c.requires in omega (arith, group_below _ _ _ p.0.below p.0.scale_le p.1, p.0.scale_le)

pub overflow_add-whole : goal.overflow_add-whole
overflow_add-whole c = let p = c.requires in omega (arith, group_below _ _ _ p.0.below p.0.scale_le p.1, p.0.scale_le)

pub returns-then-whole-limit : goal.returns-then-whole-limit
returns-then-whole-limit c =
    let short_form : (ltb 1 c.args.scale && eqb c.args.b 0) ≡ false = grind (arith, nat_tests) in
    last_fits _ _ _ _ _ short_form c.if-whole-limit.true

pub returns : goal.returns
returns c =
    let short_form : (ltb 1 c.args.scale && eqb c.args.b 0) ≡ false = grind (arith, nat_tests) in
    last_large _ _ _ _ _ short_form c.if-whole-limit.false
