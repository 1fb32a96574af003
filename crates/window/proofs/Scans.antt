-- A scan goes file by file: the laws of its loops. Assumes nothing.
use mathlib.Core.Path.{◌≡◌, refl}
use mathlib.Core.Bool.{true, false}
use mathlib.Core.List.{List, [], ◌∷◌, ◌++◌, append-nil}
use Prim.Native.Nat.{ℕ}
use Rattle.std.specs.Prelude.{Ok, Err}
use Rattle.layout.specs.declared.Refusal.TheVariants.{Damaged}
use Rattle.window.specs.declared.Lookahead.{Lookahead}
use Rattle.window.specs.Scan.{mark_map, mark_all, Seen, seen_all, cleared, mark_on, scan_from, scan_of}
use Rattle.window.specs.Value.{with_map, dropped_of}
use Rattle.window.specs.inner.Facts.{window_on, scope}

pub all_append : (n : ℕ) (xs ys : List ℕ) (w : Lookahead) → mark_all n w (xs ++ ys) ≡ mark_all n (mark_on n w xs) ys
unfolding mark_all
all_append n [] ys w = refl
all_append n (x ∷ xs) ys w = all_append n xs ys (with_map w (mark_map n w x))

-- marking looks at start, size and map only
pub marks_seen : (n : ℕ) (bs : List ℕ) (w : Lookahead) → mark_all n w bs ≡ mark_all n (window_on w.start w.size w.map) bs
unfolding mark_all mark_map
marks_seen n [] w = refl
marks_seen n (b ∷ bs) w = marks_seen n bs (with_map w (mark_map n w b))

pub scan_start : (n l : ℕ) (seen : Seen) (w : Lookahead) → scan_of (scope n l) seen w ≡ scan_from n seen (cleared (scope n l) w)
unfolding scan_of
scan_start n l seen w = refl

module _ (n : ℕ) (v : Lookahead) where
  -- no file is left
  pub scan_end : scan_from n (seen_all []) v ≡ record { answer = Ok tt; window = v }
  unfolding seen_all mark_all
  scan_end = refl

  module _ (s : Seen) (rest : List Seen) where
    -- a file whose visit came to its end
    pub scan_file : s.ok ≡ true → scan_from n (seen_all (s ∷ rest)) v ≡ scan_from n (seen_all rest) (mark_on n v s.blocks)
    unfolding seen_all
    scan_file e = rw (e, all_append n s.blocks (seen_all rest).blocks v)

    -- a file whose visit met -84
    pub scan_stops : s.ok ≡ false → scan_from n (seen_all (s ∷ rest)) v ≡ record { answer = Err Damaged; window = dropped_of n (mark_on n v s.blocks) }
    unfolding seen_all
    scan_stops e = rw (e, append-nil)
