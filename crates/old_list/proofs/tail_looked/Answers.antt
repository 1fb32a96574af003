-- `old_list::tail_looked` meets its contract: what is left to look for equals the whole. Assumes nothing.
use mathlib.Core.Path.{refl, sym, ap, ◌∙◌}
use Prim.Native.Nat.{ℕ, ◌+◌, ◌-◌}
use native.Mathlib.Omega.{arith}
use Rattle.std.specs.Prelude.{Err}
use Rattle.std.proofs.lemmas.Result.{err_from_is_err_and}
use Rattle.layout.proofs.Places.{offset_inside}
use Rattle.layout.proofs.Served.{served, index_in}
use Rattle.old_list.specs.inner.Lookups.{found_all, look_in}
use Rattle.old_list.proofs.Looks.{look_same, told_block, told_lost}
use Rattle.old_list.proofs.Heads.{tail_lost, tail_turn, tail_end}
use Rattle.old_list.proofs.tail_looked.Goals as goal

pub loop-p-init : goal.loop-p-init
loop-p-init c = refl

pub look-requires : goal.look-requires
look-requires c = (c.requires.0, c.loop-p-test.true)

pub returns-in_err-look : goal.returns-in_err-look
returns-in_err-look c =
    let a = c.args in
    let p = err_from_is_err_and c.from_residual.result c.from_residual.ensures.1 in
    let lost = told_lost _ _ (sym c.look.ensures ∙ c.in_err-look.was) in
    rw (p.1, p.2)
    (ap Err (sym lost.1)
    ∙ ap found_all
    (tail_lost (look_in a.b a.n a.e) a.image.now a.b _ c.loop-p.p
    (served c.requires.0.card.sized (omega (arith, c.loop-p-test.true, c.requires.0.most)))
    (λ r. look_same a.b a.n a.e a.image.now r c.loop-p.p) c.loop-p-test.true lost.0
    ∙ sym c.loop-p.invariant))

pub index_at-index-requires : goal.index_at-index-requires
index_at-index-requires c =
    served c.requires.0.card.sized (omega (arith, c.loop-p-test.true, c.requires.0.most))

pub offset_at-requires : goal.offset_at-requires
offset_at-requires c =
    record {
      served = served c.requires.0.card.sized
          (omega (arith, c.loop-p-test.true, c.requires.0.most));
      index = c.index_at-index.ensures;
    }

pub overflow_sub-p : goal.overflow_sub-p
overflow_sub-p c =
    omega (
      arith,
      c.offset_at.ensures,
      offset_inside c.args.b c.loop-p.p
          (index_in (served c.requires.0.card.sized (omega (arith, c.loop-p-test.true, c.requires.0.most)))),
    )

pub overflow_add-p : goal.overflow_add-p
overflow_add-p c =
    omega (arith, c.offset_at.ensures, c.loop-p-test.true, c.requires.0.most, c.requires.0.card.high)

pub loop-p-smaller : goal.loop-p-smaller
loop-p-smaller c =
    omega (
      arith,
      c.loop-p-test.true,
      c.offset_at.ensures,
      offset_inside c.args.b
          c.loop-p.p (index_in
          (served c.requires.0.card.sized (omega (arith, c.loop-p-test.true, c.requires.0.most)))),
    )

pub loop-p-preserved : goal.loop-p-preserved
loop-p-preserved c =
    let a = c.args in
    c.loop-p.invariant ∙ tail_turn (look_in a.b a.n a.e) a.image.now a.b _
    c.loop-p.p (served c.requires.0.card.sized
    (omega (arith, c.loop-p-test.true, c.requires.0.most)))
    (λ r. look_same a.b a.n a.e a.image.now r c.loop-p.p)
    c.loop-p-test.true _ _ (told_block _ _
    (sym c.look.ensures ∙ c.in_ok-look.was))
    (ap (λ (o : ℕ). c.loop-p.p + (a.b - o)) c.offset_at.ensures)
    (omega (arith, c.loop-p-test.true, c.requires.0.most, c.requires.0.card.high))

pub returns : goal.returns
returns c =
    let a = c.args in
    let l = c.loop-p in
    ap found_all (tail_end (look_in a.b a.n a.e) a.image.now a.b _ l.p c.loop-p-test.false ∙ sym l.invariant)
