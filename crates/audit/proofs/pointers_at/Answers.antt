-- `audit::pointers_at` meets its contract. The loop's invariant: the answer is still that of the pointers from here on. Assumes nothing.
use mathlib.Core.Path.{◌≡◌, sym, ap, ◌∙◌}
use Prim.Native.Nat.{ℕ, ◌+◌, ◌-◌}
use native.Mathlib.Omega.{arith}
use Rattle.hops.specs.Walk.{ctz}
use Rattle.card.specs.Card.{pointer}
use Rattle.ctz.proofs.Room.{asked}
use Rattle.audit.specs.Check.{names}
use Rattle.audit.specs.inner.Bounds.{holder}
use Rattle.audit.proofs.Further.{stored_within, fewer, head_below, names_none, names_differ, names_on}
use Rattle.audit.proofs.pointers_at.Goals as goal

pub pointer-named-requires : goal.pointer-named-requires
pointer-named-requires c =
    asked {i = c.args.index} c.args.card.facts c.requires.clean.walks c.requires.above (omega arith) (omega arith) (head_below c.requires.clean)

pub below_in-requires : goal.below_in-requires
below_in-requires c =
    let within = stored_within c.args.index c.loop-pointer.pointer c.requires.above (omega arith) in
    fewer _ (omega (arith, c.power.ensures)) c.requires.clean

pub returns-then-named-below_in : goal.returns-then-named-below_in
returns-then-named-below_in c =
    sym
    (c.loop-pointer.invariant ∙ names_differ _ _ _ _ _ _ _ _ (omega arith) c.pointer-named.ensures c.below_in.ensures c.power.ensures c.if-named-below_in.true)

pub loop-pointer-preserved : goal.loop-pointer-preserved
loop-pointer-preserved c =
    let a = c.args in
    let l = c.loop-pointer in
    let left : ctz a.index + 1 - l.pointer - 1 ≡ ctz a.index + 1 - (l.pointer + 1) = omega arith in
    l.invariant ∙ names_on _ _ _ _ _ _ _ _ (omega arith) c.pointer-named.ensures c.below_in.ensures c.power.ensures c.if-named-below_in.false
    ∙ ap (λ (m : ℕ). names (pointer a.card.block_size a.card.image.now) m (holder a.index a.k) (l.pointer + 1)) left

pub returns-else-named-below_in : goal.returns-else-named-below_in
returns-else-named-below_in c =
    sym
    (c.loop-pointer.invariant ∙ names_on _ _ _ _ _ _ _ _ (omega arith) c.pointer-named.ensures c.below_in.ensures c.power.ensures c.if-named-below_in.false ∙ names_none _ _ _ _ _ (omega arith))

pub returns : goal.returns
returns c = sym (c.loop-pointer.invariant ∙ names_none _ _ _ _ _ (omega arith))
