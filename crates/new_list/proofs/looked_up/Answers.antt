-- `new_list::looked_up` meets its contract: what is not found ends it, first what is kept, then the tail. Assumes nothing.
use mathlib.Core.Path.{sym, ap, ◌∙◌}
use Rattle.std.specs.Prelude.{Err}
use Rattle.std.proofs.lemmas.Result.{err_from_is_err_and}
use Rattle.old_list.proofs.Looks.{told_block, told_lost, told_all, told_missed}
use Rattle.old_list.specs.inner.Lookups.{look_in}
use Rattle.new_list.proofs.Puts.{head_lost, head_tailless, head_whole}
use Rattle.new_list.proofs.looked_up.Goals as goal

pub returns-in_err-head : goal.returns-in_err-head
returns-in_err-head c =
    let a = c.args in
    let h = rw c.min.ensures at c.first_head.ensures in
    let p = err_from_is_err_and c.from_residual.result c.from_residual.ensures.1 in
    let lost = told_lost _ _ (sym h ∙ c.in_err-head.was) in
    rw (p.1, p.2) (ap Err (sym lost.1) ∙ head_lost (look_in a.b a.n a.e) a.image.now a.b _ a.over a.e.size lost.0)

pub returns-in_err-tail_looked : goal.returns-in_err-tail_looked
returns-in_err-tail_looked c =
    let a = c.args in
    let h = rw c.min.ensures at c.first_head.ensures in
    let found = told_block _ _ (sym h ∙ c.in_ok-head.was) in
    let p = err_from_is_err_and c.from_residual-in_err-tail_looked.result c.from_residual-in_err-tail_looked.ensures.1 in
    let missed = told_missed _ _ (sym c.tail_looked.ensures ∙ c.in_err-tail_looked.was) in
    rw (p.1, p.2) (ap Err (sym missed.1) ∙ head_tailless (look_in a.b a.n a.e) a.image.now a.b _ a.over a.e.size found missed.0)

pub returns : goal.returns
returns c =
    let a = c.args in
    let h = rw c.min.ensures at c.first_head.ensures in
    head_whole (look_in a.b a.n a.e) a.image.now a.b _ a.over a.e.size (told_block _ _ (sym h ∙ c.in_ok-head.was))
    (told_all _ (sym c.tail_looked.ensures ∙ c.in_ok-tail_looked.was))
