-- How a store call on sound lists ends, told with what the plain files would say of it. Assumes nothing.
use mathlib.Core.Path.{◌≡◌, refl, ◌∙◌}
use mathlib.Core.Bool.{Bool, true}
use mathlib.Core.List.{List}
use Prim.Native.Nat.{ℕ, ◌<◌}
use lib.IntN.{pos, negsuc}
use lib.ListN.{set}
use Rattle.std.specs.Prelude.{Ok}
use Rattle.layout.specs.inner.Served.{block_list}
use Rattle.plain.specs.Bytes.{bytes}
use Rattle.files.specs.declared.Entry.{Entry}
use Rattle.files.specs.declared.Table.{Table}
use Rattle.files.specs.Table.{held, file}
use Rattle.files.specs.Change.{with_list}
use Rattle.files.proofs.Replaced.{altered}
use Rattle.window.specs.declared.Lookahead.{Lookahead}
use Rattle.grow.specs.Setting.{State}
use Rattle.store.specs.Store.{left}
use Rattle.store.specs.inner.Calls.{ask_write, ask_truncate}
use Rattle.demands.specs.Calls.{Call, write, truncate, Left, stored_in}
use Rattle.demands.specs.Came.{Among}
use Rattle.demands.specs.Plain.{plain_after, plain_code, plain_change, grows}
use Rattle.demands.specs.Runs.{files_in}
use Rattle.demands.specs.Demands.{Others}
use Rattle.demands.proofs.Store.{Before}
use Rattle.demands.proofs.Named.{Placed}
use Rattle.demands.proofs.Contents.{Read, change_files, set_kept, set_from}
use Rattle.demands.proofs.Kept.{Held, held_put, put_held}

-- Accepted, as the plain files accept it; refused, as they refuse it, and all as it came; or -28, which they cannot tell: the table as it came.
pub data Ends (B N l : ℕ) (fits : Bool) (c : Call) (s : State) (o : Left) : Type 0 where
  accepted : o.code ≡ pos 0 → plain_code fits c (files_in B s) ≡ pos 0 → files_in B o.state ≡ plain_after c (files_in B s) → Others B c s o
      → Held B N l o.state → Ends B N l fits c s o
  refused : (k : ℕ) → k < 83 → o.code ≡ negsuc k → plain_code fits c (files_in B s) ≡ negsuc k → o.state ≡ s → Ends B N l fits c s o
  short : o.code ≡ negsuc 27 → plain_code fits c (files_in B s) ≡ pos 0 → grows c (files_in B s) ≡ true → o.state.table ≡ s.table
      → Read B s.image o.state.image (held s.table) → Held B N l o.state → Ends B N l fits c s o

-- nothing changed, and nothing had to
pub ends_same : {B N l : ℕ} {fits : Bool} {c : Call} {s : State} → plain_code fits c (files_in B s) ≡ pos 0 → files_in B s ≡ plain_after c (files_in B s)
    → Held B N l s → Ends B N l fits c s (record { code = pos 0; state = s })
ends_same p f h = accepted refl p f (record { kept = λ e n a. a; came_in = λ e n a. a; reads = λ e a. refl }) h

-- One file of the table has another size and head, and reads as g makes of it: for a write and a truncate alike.
module _ {B N l : ℕ} {s : State} (h : Held B N l s) (number i : ℕ) (b : i < s.table.count) (p : Placed number (file s.table i) i (held s.table))
    (size head : ℕ) (w : Lookahead) (image : List ℕ) (g : List ℕ → List ℕ) (r : Read B s.image image (held s.table))
    (is : bytes B image (block_list head size) ≡ g (bytes B s.image (block_list (file s.table i).head (file s.table i).size)))
    (bf : Before B N l (set (held s.table) i (altered (file s.table i) size head)) w image) where
  abbrev t : Table
  t = s.table

  abbrev s' : State
  s' = record { window = w; table = with_list t i (record { head = head; size = size }); image = image }

  abbrev e' : Entry
  e' = altered (file t i) size head

  files : files_in B s' ≡ plain_change number g (files_in B s)
  files = rw (held_put t i size head b) (change_files B s.image image g p r e' refl is)

  kept : (e : Entry) → (e.number ≡ number → ⊥) → Among e (held t) → Among e (held (with_list t i (record { head = head; size = size })))
  kept e n a = rw (held_put t i size head b) (set_kept e' p n a)

  came_in : (e : Entry) → (e.number ≡ number → ⊥) → Among e (held (with_list t i (record { head = head; size = size }))) → Among e (held t)
  came_in e n a = set_from e' p refl n (rw (held_put t i size head b) at a)

  again : Held B N l s'
  again = put_held t number i size head w image h.sounds.table b p bf

  pub ends_write : (fits : Bool) (at : ℕ) (src : List ℕ) → plain_code fits (write (ask_write number at src)) (files_in B s) ≡ pos 0
      → plain_change number g (files_in B s) ≡ plain_after (write (ask_write number at src)) (files_in B s)
      → Ends B N l fits (write (ask_write number at src)) s (stored_in (left (Ok tt) w (with_list t i (record { head = head; size = size })) image))
  ends_write fits at src c q = accepted refl c (files ∙ q) (record { kept = kept; came_in = came_in; reads = r }) again

  pub ends_truncate : (fits : Bool) (size' : ℕ) → plain_code fits (truncate (ask_truncate number size')) (files_in B s) ≡ pos 0
      → plain_change number g (files_in B s) ≡ plain_after (truncate (ask_truncate number size')) (files_in B s)
      → Ends B N l fits (truncate (ask_truncate number size')) s (stored_in (left (Ok tt) w (with_list t i (record { head = head; size = size })) image))
  ends_truncate fits size' c q = accepted refl c (files ∙ q) (record { kept = kept; came_in = came_in; reads = r }) again
