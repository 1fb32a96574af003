-- The tests of an allocation, in their order. Assumes nothing.
use mathlib.Core.Path.{◌≡◌}
use mathlib.Core.Bool.{true}
use Prim.Native.Nat.{ℕ}
use Rattle.layout.specs.inner.Served.{geometry}
use Rattle.card.specs.Card.{good_card}
use Rattle.card.specs.inner.Cards.{CardFacts}
use Rattle.card.proofs.Cards.{card}
use Rattle.files.specs.declared.Table.{Table}
use Rattle.files.specs.Table.{table_ok}
use Rattle.window.specs.declared.Lookahead.{Lookahead}
use Rattle.window.specs.Value.{lookahead_fits, valid_of}
use Rattle.window.specs.inner.Facts.{scope}
use Rattle.window.proofs.Valid.{looks, tested_valid}
use Rattle.alloc.specs.inner.Facts.{Looking, Ready}

-- behind the tests of a card the allocation can begin
pub looking : {B N l len : ℕ} {t : Table} {w : Lookahead} → CardFacts B N len → lookahead_fits l ≡ true → valid_of (scope N l) w ≡ true → table_ok t ≡ true
    → Looking N l t w
looking {N = N} {l = l} {w = w} k a v f = record { sizes = looks N l k.some k.few a; window = tested_valid w N l v; table = f }

-- the same with the test of the card
pub ready : (B N l len : ℕ) (t : Table) (w : Lookahead) → good_card (geometry B N) len ≡ true → lookahead_fits l ≡ true → valid_of (scope N l) w ≡ true → table_ok t ≡ true
    → Ready B N l len t w
ready B N l len t w c a v f =
    let k = card B N len c in
    record { card = k; sizes = looks N l k.some k.few a; window = tested_valid w N l v; table = f }
