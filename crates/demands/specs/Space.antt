-- Good blocks, those that a write can use (01, "The card and its numbers"), and how many it needs (01, "The window", "Store calls"), from any window.
use Rattle.std.specs.Prelude.{◌≡◌, Bool, true, ◌||◌, ◌&&◌, not, List, [], ◌∷◌, ◌++◌, ℕ, ◌+◌, ◌-◌, ◌≤◌, ◌<◌, min, max, ℤ, length, take}
use Rattle.span.specs.Members.{has}
use Rattle.layout.specs.Numbers.{accepted, no_space}
use Rattle.layout.specs.Layout.{index_at}
use Rattle.health.specs.Health.{refuses_erase, refuses_program}
use Rattle.ctz.specs.Visits.{visit_of}
use Rattle.files.specs.declared.Entry.{Entry}
use Rattle.files.specs.Table.{held, list_of}
use Rattle.windows.specs.Space.{used_for, marked_in, good_unused}
use Rattle.alloc.specs.Visits.{listed_in}
use Rattle.grow.specs.Setting.{Setting, State, card_in, tested}
use Rattle.old_list.specs.Write.{zeros}
use Rattle.store.specs.Asked.{WriteAsked, TruncateAsked}
use Rattle.demands.specs.Calls.{Left}

-- a good block takes an erase and a program: it refuses neither
abbrev pub good_block : List ℕ → ℕ → Bool
good_block health k = not (refuses_erase health k) && not (refuses_program health k)

-- how many blocks a write of at least one byte to a file needs: with q = min(position, old size), index(new size - 1) - index(q) + 1
abbrev pub blocks_for : ℕ → Entry → WriteAsked → ℕ
blocks_for B e w = index_at B (max e.size (w.position + length w.bytes) - 1) - index_at B (min w.position e.size) + 1

-- "growing is a write of zeros at the old size": that write
abbrev pub grown_by : Entry → TruncateAsked → WriteAsked
grown_by e t = record { number = t.number; position = e.size; bytes = zeros (t.size - e.size) }

-- what some visit of a file of the table hands over
abbrev pub listed_blocks : Setting → State → List ℕ
listed_blocks g s = listed_in (card_in g s) s.table

-- What a call finds used: in what is left of its window the marked blocks, and outside it the listed ones.
abbrev pub used_in : Setting → State → ℕ → Bool
used_in g s = used_for g.N (listed_blocks g s) s.window

-- how many good blocks of the card are none of these
abbrev pub good_but : Setting → (ℕ → Bool) → ℕ
good_but g used = good_unused (good_block g.health) g.N used

-- how many good blocks no visit hands over; how many a call does not find used; how many are not listed, and not marked in what is left of the window
abbrev pub good_free : Setting → State → ℕ
good_free g s = good_but g (has (listed_blocks g s))

abbrev pub good_usable : Setting → State → ℕ
good_usable g s = good_but g (used_in g s)

abbrev pub good_unmarked : Setting → State → ℕ
good_unmarked g s = good_but g (λ b. has (listed_blocks g s) b || marked_in g.N s.window b)

-- the blocks that the visits of files may read pointers from: all that they hand over but those of index 0
unfoldable pub read_by : Setting → List ℕ → List Entry → List ℕ
read_by g image [] = []
read_by g image (e ∷ es) = take (index_at g.B (e.size - 1)) (visit_of (record { B = g.B; N = g.N; image = image }) (list_of e)).handed ++ read_by g image es

-- No visit reads a block that the call may be handed, so nothing that it writes can change what a scan is told.
abbrev pub Apart : Setting → State → Type 0
Apart g s = (b : ℕ) → has (read_by g s.image (held s.table)) b ≡ true → used_in g s b ≡ true

-- a call from s has so many blocks to use
pub record Free (g : Setting) (s : State) (free : ℕ) : Type 0 where
  pub apart : Apart g s
  pub count : good_usable g s ≡ free

-- the blocks that a call needs, and those that it has to use
pub record Blocks : Type 0 where
  pub needed : ℕ
  pub free : ℕ

-- "-28 exactly if fewer good unlisted blocks exist than it needs", and else accepted
pub record Exactly (b : Blocks) (code : ℤ) : Type 0 where
  pub full : b.free < b.needed → code ≡ no_space
  pub enough : b.needed ≤ b.free → code ≡ accepted

-- what -28 leaves: the table, a state that is not refused, and nothing of the window
pub record Spent (g : Setting) (s : State) (o : Left) : Type 0 where
  pub table : o.state.table ≡ s.table
  pub tested : tested g o.state ≡ true
  pub none_left : o.state.window.size ≤ o.state.window.next

-- "-28 exactly", and what it leaves
pub record Settled (g : Setting) (b : Blocks) (s : State) (o : Left) : Type 0 where
  pub exactly : Exactly b o.code
  pub spent : o.code ≡ no_space → Spent g s o
