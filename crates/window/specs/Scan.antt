-- A scan (01, "The window"), told what the visits of all files hand over: the window never sees an image.
use Rattle.std.specs.Prelude.{Bool, true, false, ◌&&◌, List, [], ◌∷◌, ◌++◌, ℕ, ◌+◌, ◌-◌, ◌*◌, ◌%◌, min, ltb, replicate, Result, Ok, Err}
use Rattle.span.specs.Members.{with_bit_in}
use Rattle.layout.specs.declared.Refusal.{Refusal}
use Rattle.layout.specs.declared.Refusal.TheVariants.{Damaged}
use Rattle.window.specs.declared.Lookahead.{Lookahead}
use Rattle.window.specs.declared.Windowed.{Windowed}
use Rattle.window.specs.Value.{Scope, with_map, dropped_of}

-- what visits hand over, in order: all (ok true), or up to the first -84 (ok false)
pub record Seen : Type 0 where
  pub blocks : List ℕ
  pub ok : Bool

-- behind a visit that failed nothing is handed over
abbrev pub if_ok : Bool → List ℕ → List ℕ
if_ok true bs = bs
if_ok false bs = []

-- the visits of several files, one after the other, up to the first -84
unfoldable pub seen_all : List Seen → Seen
seen_all [] = record { blocks = []; ok = true }
seen_all (v ∷ vs) = record { blocks = v.blocks ++ if_ok v.ok (seen_all vs).blocks; ok = v.ok && (seen_all vs).ok }

-- listed means handed over by the visit of some file
unfoldable pub listed_of : List Seen → List ℕ
listed_of [] = []
listed_of (v ∷ vs) = v.blocks ++ listed_of vs

-- the offset of block b in a window: offset o is block start + o modulo N (start is below N, so `-` does not stop at 0)
abbrev pub offset_in : ℕ → Lookahead → ℕ → ℕ
offset_in N w b = (b + N - w.start) % N

-- the map of a window with block b marked, if the window has it
unfoldable pub mark_map : ℕ → Lookahead → ℕ → List ℕ
mark_map N w b = elim (ltb (offset_in N w b) w.size) [ true ↦ with_bit_in w.map (offset_in N w b) | false ↦ w.map ]

-- with each block of a list marked, first block first
unfoldable pub mark_all : ℕ → Lookahead → List ℕ → List ℕ
mark_all N w [] = w.map
mark_all N w (b ∷ bs) = mark_all N (with_map w (mark_map N w b)) bs

-- a scan moves start by next modulo N, sets next 0 and size min(8*L, checkpoint count), clears all 64 bytes ..
unfoldable pub cleared : Scope → Lookahead → Lookahead
cleared s w =
    record {
      map = replicate 64 0;
      start = (w.start + w.next) % s.N;
      next = 0;
      size = min (8 * s.L) w.ckpoint;
      ckpoint = w.ckpoint;
    }

-- .. and marks every block that is handed over
abbrev pub mark_on : ℕ → Lookahead → List ℕ → Lookahead
mark_on N w bs = with_map w (mark_all N w bs)

-- what a visit or a scan answers: -84 where it met that
abbrev pub visit_answer : Bool → Result Unit Refusal
visit_answer true = Ok tt
visit_answer false = Err Damaged

-- a scan meeting -84 drops the window, whose map stays as it was marked so far
abbrev pub scan_case : Bool → ℕ → Lookahead → Windowed (Result Unit Refusal)
scan_case true N w = record { answer = Ok tt; window = w }
scan_case false N w = record { answer = Err Damaged; window = dropped_of N w }

-- the rest of a scan, from the window as it is marked so far
abbrev pub scan_from : ℕ → Seen → Lookahead → Windowed (Result Unit Refusal)
scan_from N seen w = scan_case seen.ok N (mark_on N w seen.blocks)

-- a scan of window w
unfoldable pub scan_of : Scope → Seen → Lookahead → Windowed (Result Unit Refusal)
scan_of s seen w = scan_from s.N seen (cleared s w)
