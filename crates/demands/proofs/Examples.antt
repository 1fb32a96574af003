-- Plain files by small calls, each computed. Assumes nothing.
use mathlib.Core.Path.{◌≡◌, refl}
use mathlib.Core.Bool.{true, false}
use mathlib.Core.List.{[], ◌∷◌}
use lib.IntN.{pos, negsuc}
use Rattle.store.specs.inner.Calls.{ask_write, ask_truncate}
use Rattle.demands.specs.Calls.{Call, create, remove, write, truncate}
use Rattle.demands.specs.Plain.{has_file, file_bytes, plain_create, plain_remove, plain_change, plain_write, meets}
use Rattle.demands.specs.Runs.{plain_runs, PlainCall}

abbrev fine : Call → PlainCall
fine c = record { fits = true; short = false; call = c }

-- two files, a gap, a tail, a cut, and what is refused: a file made twice, a file that is not there, a position past the largest, a call that is short of blocks
small_run : plain_runs (
    fine (create 7) ∷ (fine (create 3) ∷ (fine (create 7) ∷ (fine (write (ask_write 7 2 (5 ∷ []))) ∷ (fine (write (ask_write 7 0 (8 ∷ (9 ∷ [])))) ∷ (fine (write (ask_write 3 4 [])) ∷ (fine (truncate (ask_truncate 7 4)) ∷ (fine (truncate (ask_truncate 7 1))
    ∷ (fine (remove 4) ∷ (fine (write (ask_write 3 2147483647 (1 ∷ []))) ∷ (record { fits = true; short = true; call = write (ask_write 3 0 (1 ∷ [])) } ∷ []))))))))))) []
    ≡ record {
      codes = pos 0 ∷ (pos 0 ∷ (negsuc 16 ∷ (pos 0 ∷ (pos 0 ∷ (pos 0 ∷ (pos 0 ∷ (pos 0 ∷ (negsuc 1 ∷ (negsuc 26 ∷ (negsuc 27 ∷ []))))))))));
      files = record { number = 3; bytes = [] } ∷ (record { number = 7; bytes = 8 ∷ [] } ∷ []);
    }
unfolding plain_runs plain_create plain_remove plain_change meets has_file file_bytes
small_run = refl

-- the bytes on the way: a gap of two zeros and the data, then the front written over and the tail kept
small_writes : (plain_write (ask_write 7 2 (5 ∷ [])) [] ≡ 0 ∷ (0 ∷ (5 ∷ []))) × (plain_write (ask_write 7 0 (8 ∷ (9 ∷ []))) (0 ∷ (0 ∷ (5 ∷ []))) ≡ 8 ∷ (9 ∷ (5 ∷ [])))
small_writes = (refl, refl)
