-- `old_list::first_head` meets its contract: by where q lies, the block of byte q - 1 is the last one that is looked for. Assumes nothing.
use mathlib.Core.Path.{sym, ap, ◌∙◌}
use mathlib.Core.Logic.{inl, inr}
use native.Mathlib.Omega.{arith}
use Rattle.std.specs.Prelude.{Err}
use Rattle.std.proofs.lemmas.Result.{err_from_is_err_and}
use Rattle.layout.specs.inner.Served.{Served}
use Rattle.layout.proofs.Served.{served}
use Rattle.old_list.specs.inner.Lookups.{look_in}
use Rattle.old_list.proofs.Looks.{look_same, told_block, told_lost}
use Rattle.old_list.proofs.Heads.{head_none, head_lost, head_inside, head_border, head_first}
use Rattle.old_list.proofs.first_head.Goals as goal
use Rattle.old_list.proofs.first_head.Goals.{then-first-gt0+then-first-q+in_ok-look_before, else-first-gt0}

pub returns-then-q-eq0 : goal.returns-then-q-eq0
returns-then-q-eq0 c =
    let a = c.args in
    head_none (look_in a.b a.n a.e) a.image.now a.b a.q c.if-q-eq0.true

pub returns-in_err-look_before : goal.returns-in_err-look_before
returns-in_err-look_before c =
    let a = c.args in
    let p = err_from_is_err_and c.from_residual.result c.from_residual.ensures.1 in
    let lost = told_lost _ _ (sym c.look_before.ensures ∙ c.in_err-look_before.was) in
    rw (p.1, p.2)
    (ap Err (sym lost.1)
    ∙ head_lost (look_in a.b a.n a.e) a.image.now a.b a.q (served c.requires.0.card.sized (omega arith))
    (look_same a.b a.n a.e a.image.now) _ c.block_start-first.ensures c.if-first-gt0.true c.if-first-q.true lost.0)

pub returns : goal.returns
returns c =
    let a = c.args in
    let asked : Served a.b a.q = served c.requires.0.card.sized (omega arith) in
    let looks = look_same a.b a.n a.e a.image.now in
    let before = c.block_start-first.ensures in
    c.look.ensures
    ∙ elim c.if-first-gt0.branch [
      | then-first-gt0+then-first-q+in_ok-look_before w ↦
          head_inside (look_in a.b a.n a.e) a.image.now a.b a.q asked looks _ before _ w.if-first-gt0.true w.if-first-q.true
          (told_block _ _ (sym w.look_before.ensures ∙ w.in_ok-look_before.was))
      | else-first-gt0 w ↦
          elim w.else-first-gt0.either [
            | inl h ↦ head_border (look_in a.b a.n a.e) a.image.now a.b a.q asked looks _ before h.0 h.1
            | inr h ↦ head_first (look_in a.b a.n a.e) a.image.now a.b a.q asked looks _ before h (omega (arith, c.if-q-eq0.false))
          ]
    ]
