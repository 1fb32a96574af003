-- Tables whose lists are sound, and windows that came from store calls on them (01, "How a list is laid out", "The window").
use Rattle.std.specs.Prelude.{◌≡◌, true, List, ◌∷◌, ℕ, ◌<◌}
use Rattle.card.specs.Card.{Card, is_card}
use Rattle.ctz.specs.Lists.{SoundList}
use Rattle.files.specs.declared.Entry.{Entry}
use Rattle.files.specs.declared.Table.{Table}
use Rattle.files.specs.Table.{held, list_of, table_ok}
use Rattle.window.specs.Value.{fresh_of}
use Rattle.grow.specs.Setting.{State}
use Rattle.demands.specs.Calls.{Call, Shape, under, after}

-- e is one of these files
pub data Among (e : Entry) : List Entry → Type 0 where
  here : {es : List Entry} → Among e (e ∷ es)
  there : {x : Entry} {es : List Entry} → Among e es → Among e (x ∷ es)

abbrev pub card_under : Shape → State → Card
card_under g s = record { B = g.B; N = g.N; image = s.image }

-- Every list of the table is sound, on a card and in a table that are not refused.
pub record Sounds (g : Shape) (s : State) : Type 0 where
  pub card : is_card (card_under g s) ≡ true
  pub table : table_ok s.table ≡ true
  pub list : (e : Entry) → Among e (held s.table) → SoundList (card_under g s) (list_of e)

-- "A window came from store calls on a table if it began fresh and since then only store calls changed window, table and image, under one geometry, each
-- given what the last one handed back, and every list of the table was sound at each of those calls." Health may differ from call to call.
pub data Came (g : Shape) : State → Type 0 where
  fresh : (start : ℕ) (t : Table) (image : List ℕ) → start < g.N
      → Came g (record { window = fresh_of (record { N = g.N; L = g.L }) start; table = t; image = image })
  called : {s : State} (health : List ℕ) (c : Call) → Came g s → Sounds g s → Came g (after (under g health) c s).state
