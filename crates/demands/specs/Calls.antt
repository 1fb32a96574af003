-- The store calls, and what each leaves by its own definition (01, "Store calls").
use Rattle.std.specs.Prelude.{List, ℕ, ℤ}
use Rattle.layout.specs.Numbers.{accepted}
use Rattle.layout.specs.Refusals.{answer_code}
use Rattle.files.specs.declared.change.Changed.{Changed}
use Rattle.files.specs.Change.{create_of, remove_of}
use Rattle.grow.specs.Setting.{Setting, State}
use Rattle.store.specs.Asked.{WriteAsked, TruncateAsked}
use Rattle.store.specs.Store.{StoreOut, store_write, store_truncate}

-- Create and remove name a file number. Size, read, stretch and seek change nothing: each of them is a look.
pub data Call : Type 0 where
  create : ℕ → Call
  remove : ℕ → Call
  write : WriteAsked → Call
  truncate : TruncateAsked → Call
  look : Call

-- what a call leaves: 01's number, 0 if it was accepted, and the state
pub record Left : Type 0 where
  pub code : ℤ
  pub state : State

-- create and remove see the table only
abbrev pub changed_in : State → Changed → Left
changed_in s c =
    record { code = answer_code c.answer; state = record { window = s.window; table = c.table; image = s.image } }

-- write and truncate
abbrev pub stored_in : StoreOut → Left
stored_in o = record { code = answer_code o.answer; state = o.state }

-- one call
unfoldable pub after : Setting → Call → State → Left
after g (create number) s = changed_in s (create_of s.table number)
after g (remove number) s = changed_in s (remove_of s.table number)
after g (write w) s = stored_in (store_write g s w)
after g (truncate t) s = stored_in (store_truncate g s t)
after g look s = record { code = accepted; state = s }

-- what is one for all calls: N blocks of B bytes, and a lookahead of L bytes
pub record Shape : Type 0 where
  pub B : ℕ
  pub N : ℕ
  pub L : ℕ

-- the setting of one of them, with the health bytes that it is given
abbrev pub under : Shape → List ℕ → Setting
under g health = record { B = g.B; N = g.N; L = g.L; health = health }
