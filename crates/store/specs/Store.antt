-- What write and truncate answer and leave, for every input (01, "Store calls", "Refusal numbers").
use Rattle.std.specs.Prelude.{true, false, Result, Ok, Err, List, ℕ, zero, suc, ◌+◌, ◌-◌, ltb, eqb, length}
use Rattle.layout.specs.Numbers.{size_max, null_block}
use Rattle.layout.specs.Layout.{BlockList}
use Rattle.layout.specs.declared.Refusal.{Refusal}
use Rattle.layout.specs.declared.Refusal.TheVariants as refusal
use Rattle.ctz.specs.Lookup.{walk_to}
use Rattle.files.specs.declared.Entry.{Entry}
use Rattle.files.specs.declared.Table.{Table}
use Rattle.files.specs.Table.{file, list_of, find_of}
use Rattle.files.specs.Change as change
use Rattle.window.specs.declared.Lookahead.{Lookahead}
use Rattle.window.specs.Value.{checkpoint_of}
use Rattle.trials.specs.Loop.{Writing, Written, NoRoom, Corrupt, WriteOut, write_out, write_by}
use Rattle.grow.specs.Setting.{Setting, State, tested}
use Rattle.grow.specs.Extend.{flash}
use Rattle.old_list.specs.Write.{zeros, Job, job_of, kept, Look, look_of, plan_of, wanted, looked, first_head}
use Rattle.store.specs.declared.Stored.{Stored}
use Rattle.store.specs.Asked.{WriteAsked, TruncateAsked}

-- lookups in a list, on the image as it stands
abbrev pub look_on : Setting → BlockList → List ℕ → ℕ → Look
look_on c l image p = look_of (walk_to (record { B = c.B; N = c.N; image = image }) l p)

abbrev pub old_list : Job → BlockList
old_list j = record { head = j.head; size = j.old }

-- A write of at least one byte: the checkpoint, the lookups, then block after block; the scans visit the table as it came.
unfoldable pub put_on : Setting → State → Job → WriteOut Lookahead
put_on c st j =
    let look : List ℕ → ℕ → Look = look_on c (old_list j) in
    let w : Lookahead = checkpoint_of c.N st.window in
    elim (looked (look st.image) (wanted c.B j)) [
      | false ↦ write_out Corrupt st.image w
      | true ↦
          write_by (flash c st.table) (plan_of look c.B j) (suc c.N)
          (record { head = first_head (look st.image) (kept j); size = kept j; image = st.image; rest = w })
    ]

-- accepted, or why not
abbrev pub Answer : Type 0
Answer = Result (Unit {0}) Refusal

-- what a call leaves
pub record StoreOut : Type 0 where
  pub answer : Answer
  pub state : State

abbrev pub left : Answer → Lookahead → Table → List ℕ → StoreOut
left a w t image = record { answer = a; state = record { window = w; table = t; image = image } }

-- The table changes last: only an accepted write changes it. -28 and -84 leave window and image as the steps left them.
abbrev pub written : Table → ℕ → Writing → Lookahead → List ℕ → StoreOut
written t i (Written h s) w image = left (Ok tt) w (change.with_list t i (record { head = h; size = s })) image
written t i NoRoom w image = left (Err refusal.NoSpace) w t image
written t i Corrupt w image = left (Err refusal.Damaged) w t image

abbrev pub written_of : Table → ℕ → WriteOut Lookahead → StoreOut
written_of t i o = written t i o.answer o.rest o.image

-- all as it came
abbrev pub same : Answer → State → StoreOut
same a st = record { answer = a; state = st }

-- Order: geometry and slices, window and table, file number (-22), no such file (-2), then the file, at its place in the table.
unfoldable pub at_file : Setting → State → ℕ → (ℕ → StoreOut) → StoreOut
at_file c st number go =
    elim (tested c st) [
      | false ↦ same (Err refusal.Invalid) st
      | true ↦ elim (find_of st.table number) [
        | Ok i ↦ go i
        | Err r ↦ same (Err r) st
      ]
    ]

-- Position (-22), then position and length (-27), then the card. A write of no bytes changes nothing, the window included, also past the end.
unfoldable pub write_at : Setting → State → WriteAsked → ℕ → StoreOut
write_at c st a i =
    elim (ltb size_max a.position) [
      | true ↦ same (Err refusal.Invalid) st
      | false ↦ elim (ltb size_max (a.position + length a.bytes)) [
        | true ↦ same (Err refusal.TooLarge) st
        | false ↦ elim (eqb (length a.bytes) 0) [
          | true ↦ same (Ok tt) st
          | false ↦ written_of st.table i (put_on c st (job_of (file st.table i) a.position a.bytes))
        ]
      ]
    ]

unfoldable pub store_write : Setting → State → WriteAsked → StoreOut
store_write c st a = at_file c st a.number (write_at c st a)

-- a list cut down to that size: its head is the block of the last kept byte; to 0 gives the null head
unfoldable pub cut_down : (ℕ → Look) → ℕ → Writing
cut_down look zero = Written null_block 0
cut_down look (suc p) = elim (look p) [ Look.Found k ↦ Written k (suc p) | Look.Lost ↦ Corrupt ]

-- A size above the largest is -22. Shrinking leaves card and window as they were; equal changes nothing; growing is a write of zeros at the old size.
unfoldable pub truncate_at : Setting → State → TruncateAsked → ℕ → StoreOut
truncate_at c st a i =
    let e : Entry = file st.table i in
    elim (ltb size_max a.size) [
      | true ↦ same (Err refusal.Invalid) st
      | false ↦ elim (ltb a.size e.size) [
        | true ↦ written_of st.table i (write_out (cut_down (look_on c (list_of e) st.image) a.size) st.image st.window)
        | false ↦ elim (eqb a.size e.size) [
          | true ↦ same (Ok tt) st
          | false ↦ written_of st.table i (put_on c st (job_of e e.size (zeros (a.size - e.size))))
        ]
      ]
    ]

unfoldable pub store_truncate : Setting → State → TruncateAsked → StoreOut
store_truncate c st a = at_file c st a.number (truncate_at c st a)

-- the answer, with window and table
abbrev pub stored_of : StoreOut → Stored
stored_of o = record { answer = o.answer; window = o.state.window; table = o.state.table }
