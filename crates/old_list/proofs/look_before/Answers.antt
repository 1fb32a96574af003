-- `old_list::look_before` meets its contract: the block before the head's is the head's pointer 0; else it is looked for. Assumes nothing.
use mathlib.Core.Path.{sym, ap, ◌∙◌}
use Prim.Native.Nat.{◌-◌}
use native.Mathlib.Omega.{arith}
use Rattle.layout.proofs.Served.{served}
use Rattle.ctz.proofs.Room.{first_asked}
use Rattle.std.specs.Prelude.{Ok}
use Rattle.old_list.specs.inner.Lookups.{looked_of}
use Rattle.old_list.proofs.Looks.{look_headless, look_next, look_next_lost}
use Rattle.old_list.proofs.look_before.Goals as goal

pub returns-then-n-e : goal.returns-then-n-e
returns-then-n-e c =
    let a = c.args in
    sym (ap looked_of (look_headless a.b a.n a.e a.image.now (a.first - 1) c.if-n-e.true))

pub pointer-block-requires : goal.pointer-block-requires
pointer-block-requires c = first_asked c.requires.0.card c.if-n-e.false

pub returns-then-n-block : goal.returns-then-n-block
returns-then-n-block c =
    let a = c.args in
    sym (ap looked_of (look_next_lost a.n a.e a.image.now (served c.requires.0.card.sized (omega arith)) c.requires.2
    c.if-q-e.true c.if-n-e.false (omega (arith, c.pointer-block.ensures, c.if-n-block.true))))

pub returns-then-q-e : goal.returns-then-q-e
returns-then-q-e c =
    let a = c.args in
    let k = c.pointer-block.ensures in
    ap Ok k
    ∙ sym (ap looked_of (look_next a.n a.e a.image.now (served c.requires.0.card.sized (omega arith)) c.requires.2
    c.if-q-e.true c.if-n-e.false (omega (arith, k, c.if-n-block.false))))
