-- What the parts of the entry points ask.
use Rattle.std.specs.Prelude.{Result, Ok, Err, List, ℕ, ◌≤◌, ◌<◌, length}
use Rattle.layout.specs.Numbers.{files_max, size_max}
use Rattle.layout.specs.Layout.{BlockList}
use Rattle.layout.specs.declared.Refusal.{Refusal}
use Rattle.card.specs.inner.Cards.{CardFacts}
use Rattle.files.specs.declared.Table.{Table}
use Rattle.files.specs.Table.{file}
use Rattle.files.specs.Change.{with_list}
use Rattle.window.specs.declared.Lookahead.{Lookahead}
use Rattle.alloc.specs.inner.Facts.{Ready}
use Rattle.store.specs.declared.Stored.{Stored}
use Rattle.store.specs.Asked.{WriteAsked, TruncateAsked}

-- what a call is asked, by its parts
abbrev pub ask_write : ℕ → ℕ → List ℕ → WriteAsked
ask_write number p src = record { number = number; position = p; bytes = src }

abbrev pub ask_truncate : ℕ → ℕ → TruncateAsked
ask_truncate number size = record { number = number; size = size }

-- what a shrinking asks: a card, a file at that place, a size below its own
pub record Shrinking (B N len : ℕ) (t : Table) (i size : ℕ) : Type 0 where
  pub card : CardFacts B N len
  pub slot : i < files_max
  pub most : (file t i).size ≤ size_max
  pub below : size < (file t i).size

-- what a call asks of the file at place i: what the tests before it tell
pub record CallAsked (B N l : ℕ) (image health : List ℕ) (w : Lookahead) (t : Table) (i : ℕ) : Type 0 where
  pub ready : Ready B N l (length image) t w
  pub known : N ≤ length health
  pub slot : i < files_max
  pub most : (file t i).size ≤ size_max

-- the table changes last
abbrev pub finish_of : Table → ℕ → Result BlockList Refusal → Lookahead → Stored
finish_of t i (Ok list) w = record { answer = Ok tt; window = w; table = with_list t i list }
finish_of t i (Err r) w = record { answer = Err r; window = w; table = t }
