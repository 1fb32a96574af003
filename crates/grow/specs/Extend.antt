-- `ctz_extend`: one growth with the window as its allocator, for every input (01, "Lookup, visit, grow", "The window", "Refusal numbers").
use Rattle.std.specs.Prelude.{true, false, ◌&&◌, Result, Ok, Err, List, ℕ, suc, leb}
use Rattle.layout.specs.declared.Refusal.{Refusal}
use Rattle.layout.specs.declared.Refusal.TheVariants as refusal
use Rattle.layout.specs.Numbers.{size_max}
use Rattle.layout.specs.Layout.{BlockList, offset_at}
use Rattle.files.specs.declared.Table.{Table}
use Rattle.files.specs.Table.{table_ok}
use Rattle.window.specs.declared.Lookahead.{Lookahead}
use Rattle.window.specs.Allocate.{alloc_of, Answer, Allocated}
use Rattle.alloc.specs.Visits.{seen_in}
use Rattle.trials.specs.Loop.{Took, Block, None, Bad, Flash, Plan, Writing, Written, NoRoom, Corrupt, WriteOut, write_by}
use Rattle.grow.specs.declared.Grown.{Grown}
use Rattle.grow.specs.Setting.{Setting, State, tested}
use Rattle.grow.specs.Growth.{growth}

-- an allocation as a write asks for it; behind the tests none is refused
abbrev pub took_of : Answer → Lookahead → Took Lookahead
took_of (Ok k) w = Block k w
took_of (Err refusal.NoSpace) w = None w
took_of (Err e) w = Bad w

-- the window as an allocator: its scans visit the table's files
abbrev pub alloc_in : Setting → Table → Lookahead → List ℕ → Took Lookahead
alloc_in c t w img = let a : Allocated = alloc_of (record { N = c.N; L = c.L }) (seen_in (record { B = c.B; N = c.N; image = img }) t) w in took_of a.answer a.window

-- the card of a call, as its write sees it
abbrev pub flash : Setting → Table → Flash Lookahead
flash c t = record { B = c.B; N = c.N; health = c.health; alloc = alloc_in c t }

-- what a growth answers: the new last block, and where in it the next byte goes; or why there is none
abbrev pub Growth : Type 0
Growth = Result Grown Refusal

abbrev pub grown_at : ℕ → ℕ → Growth
grown_at k off = Ok (record { block = k; offset = off })

-- what a growth leaves: its answer, the image, and the allocator
pub record GrowOut (W : Type 0) : Type 0 where
  pub answer : Growth
  pub image : List ℕ
  pub rest : W

abbrev pub grow_out : {W : Type 0} → Growth → List ℕ → W → GrowOut W
grow_out a img w = record { answer = a; image = img; rest = w }

-- a growth of a list of that size: one block, without data
abbrev pub growing : ℕ → Plan
growing size = record { until = suc size; trial = growth; reach = suc }

-- a write's answer as that of a growth
abbrev pub grew_as : Writing → ℕ → Growth
grew_as (Written k s) off = grown_at k off
grew_as NoRoom off = Err refusal.NoSpace
grew_as Corrupt off = Err refusal.Damaged

abbrev pub grew_by : {W : Type 0} → ℕ → WriteOut W → GrowOut W
grew_by off o = grow_out (grew_as o.answer off) o.image o.rest

-- One growth, for every input. Behind the first tests come those of the table and the size: -22, all as it came. The checkpoint count bounds the tries.
unfoldable pub extend_of : Setting → State → BlockList → GrowOut Lookahead
extend_of c st l =
    elim (tested c st && table_ok st.table && leb l.size size_max) [
      | false ↦ grow_out (Err refusal.Invalid) st.image st.window
      | true ↦
          grew_by (offset_at c.B l.size)
          (write_by (flash c st.table) (growing l.size) (suc st.window.ckpoint)
          (record { head = l.head; size = l.size; image = st.image; rest = st.window }))
    ]
