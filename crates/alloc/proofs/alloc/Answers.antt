-- `alloc::alloc` meets its contract: the tests settle the answer, and behind them it is that of the inner allocation. Assumes nothing.
use mathlib.Core.Path.{sym, ◌∙◌}
use Rattle.window.proofs.Valid.{looks}
use Rattle.alloc.proofs.Tested.{looking}
use Rattle.alloc.proofs.alloc.Goals as goal

pub valid_window-requires : goal.valid_window-requires
valid_window-requires c =
    let k = c.in-Ok.card.facts in
    (looks _ _ k.some k.few (sym c.valid_lookahead.ensures ∙ c.if-valid_lookahead.true)).l_le

pub alloc_in-requires : goal.alloc_in-requires
alloc_in-requires c =
    looking c.in-Ok.card.facts (sym c.valid_lookahead.ensures ∙ c.if-valid_lookahead.true) (sym c.valid_window.ensures ∙ c.if-valid_window.true)
    (sym c.valid_table.ensures ∙ c.if-valid_table.true)
