-- Allocation (01, "The window"): search; window used up and count 0: -28; else a scan, and search again.
use Rattle.std.specs.Prelude.{Bool, true, false, List, ℕ, zero, suc, ◌+◌, ◌-◌, ◌%◌, ltb, eqb, Option, Some, None, Result, Ok, Err}
use Rattle.span.specs.Members.{bit_in}
use Rattle.layout.specs.declared.Refusal.{Refusal}
use Rattle.layout.specs.declared.Refusal.TheVariants.{NoSpace}
use Rattle.window.specs.declared.Lookahead.{Lookahead}
use Rattle.window.specs.declared.Windowed.{Windowed}
use Rattle.window.specs.Value.{Scope}
use Rattle.window.specs.Scan.{Seen, scan_of}

-- what an allocation answers, and with the window that it leaves
abbrev pub Answer : Type 0
Answer = Result ℕ Refusal

abbrev pub Allocated : Type 0
Allocated = Windowed Answer

-- past the marked offsets of a map, at most k of them, from o on
unfoldable pub skip : ℕ → List ℕ → ℕ → ℕ
skip zero m o = o
skip (suc k) m o = elim (bit_in m o) [ true ↦ skip k m (suc o) | false ↦ o ]

-- the first unmarked offset of a window from o on, else its size (from o up to the size there are size - o offsets, none if o is past it)
abbrev pub free_from : Lookahead → ℕ → ℕ
free_from w o = skip (w.size - o) w.map o

-- the window moved on to offset `to`: each block passed lowers the checkpoint count by one (in a valid window neither `-` stops at 0)
abbrev pub moved : Lookahead → ℕ → Lookahead
moved w to = record { map = w.map; start = w.start; next = to; size = w.size; ckpoint = w.ckpoint - (to - w.next) }

-- a search that came to offset `at`: there is the first unmarked block, and the window moves on eagerly to the next or the end; or it is used up
abbrev pub take_case : Bool → ℕ → Lookahead → ℕ → Windowed (Option ℕ)
take_case true N w at = record { answer = Some ((w.start + at) % N); window = moved w (free_from w (at + 1)) }
take_case false N w at = record { answer = None; window = moved w at }

-- a search in window w, from next on
unfoldable pub take_of : ℕ → Lookahead → Windowed (Option ℕ)
take_of N w = take_case (ltb (free_from w w.next) w.size) N w (free_from w w.next)

-- what follows a scan: the search again, or -84
abbrev pub on_scan : Windowed (Result Unit Refusal) → (Lookahead → Allocated) → Allocated
on_scan s f = elim s.answer [ Ok _ ↦ f s.window | Err e ↦ record { answer = Err e; window = s.window } ]

-- what follows a search that used the window up: -28 where the count is 0, and else what f says
abbrev pub used_up : Bool → Lookahead → (Lookahead → Allocated) → Allocated
used_up true v f = record { answer = Err NoSpace; window = v }
used_up false v f = f v

-- what follows a search
abbrev pub on_got : Option ℕ → Lookahead → (Lookahead → Allocated) → Allocated
on_got (Some b) v f = record { answer = Ok b; window = v }
on_got None v f = used_up (eqb v.ckpoint 0) v f

-- at most k searches, with a scan between each and the next
unfoldable pub alloc_by : ℕ → Scope → Seen → Lookahead → Allocated
alloc_by zero s seen w = record { answer = Err NoSpace; window = w }
alloc_by (suc k) s seen w =
    on_got (take_of s.N w).answer (take_of s.N w).window (λ v. on_scan (scan_of s seen v) (λ u. alloc_by k s seen u))

-- the search behind a scan passes at least one block, so the count bounds the searches and k never runs out
unfoldable pub alloc_of : Scope → Seen → Lookahead → Allocated
alloc_of s seen w = alloc_by (w.ckpoint + 2) s seen w
