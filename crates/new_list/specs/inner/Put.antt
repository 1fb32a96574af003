-- The growths of a write with the window as their allocator: what the inner functions leave, and what they ask.
use Rattle.std.specs.Prelude.{◌≡◌, ◌&&◌, Result, Ok, Err, List, ℕ, suc, ◌+◌, ◌≤◌, length}
use Rattle.layout.specs.Numbers.{size_max}
use Rattle.layout.specs.Layout.{BlockList}
use Rattle.layout.specs.declared.Refusal.{Refusal}
use Rattle.layout.specs.declared.Refusal.TheVariants.{NoSpace, Damaged}
use Rattle.layout.specs.inner.Served.{block_list}
use Rattle.files.specs.declared.Entry.{Entry}
use Rattle.files.specs.declared.Table.{Table}
use Rattle.window.specs.declared.Lookahead.{Lookahead}
use Rattle.window.specs.declared.Windowed.{Windowed}
use Rattle.window.specs.Value.{checkpoint_of}
use Rattle.alloc.specs.inner.Facts.{Ready}
use Rattle.trials.specs.Loop.{Writing, Written, NoRoom, Corrupt, WriteOut}
use Rattle.grow.specs.inner.Extend.{window_alloc}
use Rattle.old_list.specs.Write.{Look, looked, first_head, job_of}
use Rattle.old_list.specs.inner.Lookups.{looked_of, found_if, kept_wanted, tail_wanted, look_in}
use Rattle.new_list.specs.inner.Write.{write_of, put_of}

-- the growths from window w and the list (h, s) on, m of them at most
unfoldable pub on_by : ℕ → ℕ → ℕ → ℕ → List ℕ → Table → Entry → ℕ → List ℕ → Lookahead → ℕ → ℕ → List ℕ → WriteOut Lookahead
on_by m B N l health t e pos src w h s img =
    write_of (look_in B N e) (λ (v : Lookahead). v.ckpoint) (window_alloc B N l t) m health B N (job_of e pos src) w h s img

abbrev pub on_from : ℕ → ℕ → ℕ → List ℕ → Table → Entry → ℕ → List ℕ → Lookahead → ℕ → ℕ → List ℕ → WriteOut Lookahead
on_from B N l health t e pos src w h s img = on_by (suc w.ckpoint) B N l health t e pos src w h s img

-- a write of at least one byte to a file of the table: the checkpoint, the lookups, then by growths; the scans visit the table as it came
unfoldable pub puts : ℕ → ℕ → ℕ → List ℕ → Table → Entry → ℕ → List ℕ → Lookahead → List ℕ → WriteOut Lookahead
puts B N l health t e p src w image =
    put_of (look_in B N e) (λ (v : Lookahead). v.ckpoint) (window_alloc B N l t) health B N (job_of e p src) (checkpoint_of N w) image

-- what a write hands over: the written list or why there is none, and the window after it
abbrev pub Wrote : Type 0
Wrote = Windowed (Result BlockList Refusal)

-- the code's answer for a definition's
abbrev pub wrote_of : Writing → Result BlockList Refusal
wrote_of (Written h s) = Ok (block_list h s)
wrote_of NoRoom = Err NoSpace
wrote_of Corrupt = Err Damaged

-- the head of the first growth, once all that is kept of the first q bytes or copied from position `over` on is found
unfoldable pub head_of : (List ℕ → ℕ → Look) → ℕ → List ℕ → ℕ → ℕ → ℕ → Result ℕ Refusal
head_of look B img q over old =
    looked_of (found_if (looked (look img) (kept_wanted B q) && looked (look img) (tail_wanted B over old)) (first_head (look img) q))

-- r is the answer and the window, and `after` the image, that a definition gives
pub record WroteGives (o : WriteOut Lookahead) (r : Wrote) (after : List ℕ) : Type 0 where
  pub answer : r.answer ≡ wrote_of o.answer
  pub window : r.window ≡ o.rest
  pub image : after ≡ o.image

-- behind the tests
pub record Putting (B N l : ℕ) (image health : List ℕ) (t : Table) (w : Lookahead) (e : Entry) (pos : ℕ) (src : List ℕ) : Type 0 where
  pub ready : Ready B N l (length image) t w
  pub known : N ≤ length health
  pub most : e.size ≤ size_max
  pub fits : pos + length src ≤ size_max
