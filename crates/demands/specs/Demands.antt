-- What demands 1 and 2 say of one store call on a table of sound lists, from the state s to what it leaves, o.
use Rattle.std.specs.Prelude.{◌≡◌, ℕ}
use Rattle.plain.specs.Bytes.{bytes}
use Rattle.files.specs.declared.Entry.{Entry}
use Rattle.files.specs.Table.{held, list_of}
use Rattle.grow.specs.Setting.{State}
use Rattle.demands.specs.Calls.{Call, create, remove, write, truncate, look, Left, Shape}
use Rattle.demands.specs.Came.{Among, Sounds, Came}
use Rattle.demands.specs.Plain.{plain_after}
use Rattle.demands.specs.Runs.{files_in}

-- the call does not name that file
abbrev pub Spares : Call → ℕ → Type 0
Spares (create number) n = n ≡ number → ⊥
Spares (remove number) n = n ≡ number → ⊥
Spares (write w) n = n ≡ w.number → ⊥
Spares (truncate t) n = n ≡ t.number → ⊥
Spares look n = Unit {0}

-- each list of the old table reads as before
abbrev pub ReadsAsBefore : ℕ → State → Left → Type 0
ReadsAsBefore B s o = (e : Entry) → Among e (held s.table) → bytes B o.state.image (list_of e) ≡ bytes B s.image (list_of e)

-- "and no other file changes": the files that a call does not name have their entries, no other comes in, and each list of the old table reads as before
pub record Others (B : ℕ) (c : Call) (s : State) (o : Left) : Type 0 where
  pub kept : (e : Entry) → Spares c e.number → Among e (held s.table) → Among e (held o.state.table)
  pub came_in : (e : Entry) → Spares c e.number → Among e (held o.state.table) → Among e (held s.table)
  pub reads : ReadsAsBefore B s o

-- Demand 2: "what is written is read back as a plain file of bytes would give it, and no other file changes"; all lists are sound again, and the window
-- came from store calls on the table and image that are handed back.
pub record AcceptedCall (g : Shape) (c : Call) (s : State) (o : Left) : Type 0 where
  pub files : files_in g.B o.state ≡ plain_after c (files_in g.B s)
  pub others : Others g.B c s o
  pub sounds : Sounds g o.state
  pub came : Came g o.state

-- Demand 1: "a refused store call hands the table back as it came; if its lists were sound and the window came from store calls on it, every file reads as before"
pub record RefusedCall (g : Shape) (s : State) (o : Left) : Type 0 where
  pub table : o.state.table ≡ s.table
  pub files : files_in g.B o.state ≡ files_in g.B s
  pub reads : ReadsAsBefore g.B s o
  pub sounds : Sounds g o.state
  pub came : Came g o.state
