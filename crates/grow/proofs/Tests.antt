-- The tests before a growth: their answers one after the other, and what they tell. Assumes nothing.
use mathlib.Core.Path.{◌≡◌, sym, ◌∙◌}
use mathlib.Core.Bool.{Bool, not, true, false, and-eq-true_iff}
use mathlib.Core.List.{List}
use Prim.Native.Nat.{ℕ, ◌≤◌}
use native.Mathlib.Nat.{le_of_eq}
use borrow.Author.Tests.{leb-true, not-true, not-false}
use lib.Dec.{leb}
use lib.ListN.{length}
use Rattle.layout.specs.Numbers.{size_max}
use Rattle.health.specs.Health.{health_ok}
use Rattle.health.proofs.Health.{healthy}
use Rattle.files.specs.declared.Table.{Table}
use Rattle.files.specs.Table.{table_ok}
use Rattle.window.specs.declared.Lookahead.{Lookahead}
use Rattle.window.specs.Value.{lookahead_fits, valid_of}
use Rattle.window.specs.inner.Facts.{scope}
use Rattle.alloc.proofs.Tested.{ready}
use Rattle.grow.specs.Setting.{tested_of}
use Rattle.grow.specs.inner.Extend.{extend_tested, Extending}

-- a test that the code turns round: r is what the tested call answered
pub held : {r x : Bool} → r ≡ x → not r ≡ false → x ≡ true
held {r} e h = sym e ∙ not-false r h

pub fails : {r x : Bool} → r ≡ x → not r ≡ true → x ≡ false
fails {r} e h = sym e ∙ not-true r h

-- the test of L
pub lookahead_most : (l : ℕ) → lookahead_fits l ≡ true → l ≤ 64
unfolding lookahead_fits
lookahead_most l e = leb-true l 64 ((and-eq-true_iff _ _).0 ((and-eq-true_iff _ _).0 e).0).1

-- behind the tests
pub extending : {B N l : ℕ} {image health : List ℕ} {t : Table} {w : Lookahead} {s : ℕ}
    → extend_tested B N l (length image) health t w s ≡ true → Extending B N l image health t w s
unfolding extend_tested tested_of
extending {B} {N} {l} {image} {health} {t} {w} {s} e =
    let f = (and-eq-true_iff _ (leb s size_max)).0 e in
    let d = (and-eq-true_iff _ (table_ok t)).0 f.0 in
    let c = (and-eq-true_iff _ (valid_of (scope N l) w)).0 d.0 in
    let b = (and-eq-true_iff _ (lookahead_fits l)).0 c.0 in
    let a = (and-eq-true_iff _ (health_ok health N)).0 b.0 in
    record {
      ready = ready B N l (length image) t w a.0 b.1 c.1 d.1;
      known = le_of_eq (sym (healthy health N a.1).count);
      fits = leb-true s size_max f.1;
    }
