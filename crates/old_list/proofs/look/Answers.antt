-- `old_list::look` meets its contract: the head at the last byte, else the lookup's answer, case by case. Assumes nothing.
use mathlib.Core.Path.{sym, ap, ◌∙◌}
use Rattle.std.specs.Prelude.{Result}
use Rattle.std.proofs.lemmas.Result.{err_from_is_err_and}
use Rattle.layout.specs.declared.Refusal.{Refusal}
use Rattle.ctz.specs.declared.Found.{Found}
use Rattle.old_list.specs.Write.{Look, look_of}
use Rattle.old_list.specs.inner.Lookups.{looked_of}
use Rattle.old_list.proofs.Looks.{look_head, look_headless, look_refused}
use Rattle.old_list.proofs.look.Goals as goal

pub returns-then-e-n : goal.returns-then-e-n
returns-then-e-n c = sym (ap (λ (x : Look). looked_of x) (look_head _ _ c.args.e _ _ c.if-p-e.true c.if-e-n.true))

pub returns-then-p-e : goal.returns-then-p-e
returns-then-p-e c = sym (ap (λ (x : Look). looked_of x) (look_headless _ _ c.args.e _ _ c.if-e-n.false))

pub returns-in_err-found : goal.returns-in_err-found
returns-in_err-found c =
    let p = err_from_is_err_and c.from_residual.result c.from_residual.ensures.1 in
    rw (p.1, p.2)
    (look_refused c.args.e c.args.image.now c.args.p c.requires.0 c.requires.1 (sym c.find_in.ensures ∙ c.in_err-found.was))

pub returns : goal.returns
returns c =
    ap (λ (f : Result Found Refusal). looked_of (look_of f)) (sym c.in_ok-found.was ∙ c.find_in.ensures)
