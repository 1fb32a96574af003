-- What the inner steps of an allocation ask for and do.
use Rattle.std.specs.Prelude.{◌≡◌, true, List, ℕ, ◌≤◌, ◌<◌, Result}
use Rattle.layout.specs.declared.Refusal.{Refusal}
use Rattle.layout.specs.Numbers.{size_max}
use Rattle.card.specs.inner.Cards.{CardFacts}
use Rattle.files.specs.declared.Entry.{Entry}
use Rattle.files.specs.declared.Table.{Table}
use Rattle.files.specs.Table.{table_ok}
use Rattle.window.specs.declared.Lookahead.{Lookahead}
use Rattle.window.specs.Scan.{Seen, mark_all, visit_answer}
use Rattle.window.specs.inner.Facts.{ValidWindow, GoodScope, window_on}

-- behind the tests of a card: N and L as they should be, a window that is not refused, and a table
pub record Looking (N l : ℕ) (t : Table) (w : Lookahead) : Type 0 where
  pub sizes : GoodScope N l
  pub window : ValidWindow w N l
  pub table : table_ok t ≡ true

-- the same with the card, for callers that have its numbers
pub record Ready (B N l len : ℕ) (t : Table) (w : Lookahead) : Type 0 where
  pub card : CardFacts B N len
  pub sizes : GoodScope N l
  pub window : ValidWindow w N l
  pub table : table_ok t ≡ true

-- what the marking of one file asks: a window of at most 512 offsets on the card, and a size up to the largest
pub record FileAsked (start size N : ℕ) (e : Entry) : Type 0 where
  pub start_lt : start < N
  pub size_le : size ≤ 512
  pub bytes_le : e.size ≤ size_max

-- what it does to the map: each block handed over is marked; and its answer: -84 where the visit met that
pub record FileMarked (start size N : ℕ) (seen : Seen) (before after : List ℕ) (answer : Result Unit Refusal) : Type 0 where
  pub marks : after ≡ mark_all N (window_on start size before) seen.blocks
  pub ends : answer ≡ visit_answer seen.ok
