-- `audit::walk_down` meets its contract. The loop's invariant: the map's bits are the numbers met, and the answer is still that of the walk
-- from here with those numbers. Assumes nothing.
use mathlib.Core.Path.{◌≡◌, refl, sym, ap, ◌∙◌}
use mathlib.Core.List.{[], ◌∷◌}
use Prim.Native.Nat.{ℕ, ◌-◌, ◌<◌}
use native.Mathlib.Omega.{arith}
use Rattle.span.specs.Members.{has}
use Rattle.card.specs.Card.{pointer}
use Rattle.ctz.specs.inner.Forms.{pointers_with}
use Rattle.audit.specs.Check.{falls}
use Rattle.audit.proofs.Falling.{agree_none, agree_put, falls_far, falls_again, falls_end, falls_on}
use Rattle.audit.proofs.walk_down.Goals as goal
use Rattle.audit.proofs.walk_down.Goals.{then-index-gt0, else-index-gt0}

pub loop-index-init : goal.loop-index-init
loop-index-init c = ([], agree_none, refl)

pub returns-then-card-k : goal.returns-then-card-k
returns-then-card-k c = sym (c.loop-index.invariant.2 ∙ falls_far _ _ _ _ _ c.if-card-k.true)

pub returns-then-is_set : goal.returns-then-is_set
returns-then-is_set c =
    let l = c.loop-index in
    let told : c.is_set.result ≡ has l.invariant.0 l.k = c.is_set.ensures ∙ l.invariant.1.bit l.k (omega arith) in
    sym (l.invariant.2 ∙ falls_again _ _ _ _ _ c.if-card-k.false (sym told ∙ c.if-is_set.true))

pub loop-index-preserved : goal.loop-index-preserved
loop-index-preserved c =
    let l = c.loop-index in
    let a = c.args in
    let k : l.k < 65536 = omega arith in
    let told : c.is_set.result ≡ has l.invariant.0 l.k = c.is_set.ensures ∙ l.invariant.1.bit l.k k in (
      l.k ∷ l.invariant.0,
      rw c.set.ensures (agree_put _ _ _ k l.invariant.1),
      elim c.if-index-gt0.branch [
        | then-index-gt0 w ↦
            l.invariant.2 ∙ falls_on (pointer a.card.block_size a.card.image.now) _ _ _ _ c.if-card-k.false (sym told ∙ c.if-is_set.false) (λ z. omega arith)
            ∙ ap (λ (q : ℕ). falls (pointers_with a.card.block_count (pointer a.card.block_size a.card.image.now)) (l.index - 1) q (l.k ∷ l.invariant.0)) (sym (w.k-is ∙ w.pointer-k.ensures))
        | else-index-gt0 w ↦ absurd (omega arith)
      ],
    )

pub returns-after-index-gt0 : goal.returns-after-index-gt0
returns-after-index-gt0 c =
    let l = c.loop-index in
    let told : c.is_set.result ≡ has l.invariant.0 l.k = c.is_set.ensures ∙ l.invariant.1.bit l.k (omega arith) in
    sym (l.invariant.2 ∙ falls_end _ _ _ _ _ c.if-card-k.false (sym told ∙ c.if-is_set.false) (omega arith))
