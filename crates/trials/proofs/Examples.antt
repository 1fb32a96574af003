-- The loop runs: three blocks of 4 bytes, handed out from the last down; block 2 refuses its erase, block 1 its first program. Assumes nothing.
use mathlib.Core.Path.{◌≡◌, refl}
use mathlib.Core.List.{List, [], ◌∷◌}
use Prim.Native.Nat.{ℕ, ◌+◌}
use lib.ListN.{replicate}
use Rattle.device.specs.Device.{stored, wiped}
use Rattle.trials.specs.Steps.{done, series, programs}
use Rattle.trials.specs.Trial.{Fault, Trial, whole, taken_by}
use Rattle.trials.specs.Loop.{Took, Block, None, WriteOut, write_out, Written, NoRoom, Corrupt, tried, followed, turn_of, write_by, Candidate}

hand_out : List ℕ → List ℕ → Took (List ℕ)
hand_out [] img = None []
hand_out (k ∷ ks) img = Block k ks

-- a plan that puts these bytes into each block, until that size
runs : Trial → ℕ → WriteOut (List ℕ)
runs t size =
    write_by (record { B = 4; N = 3; health = 0 ∷ 2 ∷ 1 ∷ []; alloc = hand_out }) (record { until = size; trial = λ (q : Candidate) (img : List ℕ). t; reach = λ s. s + 4 })
    4 (record { head = 9; size = 0; image = replicate 12 9; rest = 2 ∷ 1 ∷ 0 ∷ [] })

-- Done in block 0, with block 1 erased. Two blocks: -28. A fault behind one byte: -84, with that byte stored. No bytes: block 1 will do.
ran : (runs (whole (7 ∷ 8 ∷ [])) 4 ≡ write_out (Written 0 4) (7 ∷ 8 ∷ 255 ∷ 255 ∷ 255 ∷ 255 ∷ 255 ∷ 255 ∷ replicate 4 9) [])
    × (runs (whole (7 ∷ 8 ∷ [])) 5 ≡ write_out NoRoom (7 ∷ 8 ∷ 255 ∷ 255 ∷ 255 ∷ 255 ∷ 255 ∷ 255 ∷ replicate 4 9) [])
    × (runs (record { bytes = 7 ∷ []; ending = Fault }) 4 ≡ write_out Corrupt (7 ∷ 255 ∷ 255 ∷ 255 ∷ 255 ∷ 255 ∷ 255 ∷ 255 ∷ replicate 4 9) [])
    × (runs (whole []) 4 ≡ write_out (Written 1 4) (9 ∷ 9 ∷ 9 ∷ 9 ∷ 255 ∷ 255 ∷ 255 ∷ 255 ∷ replicate 4 9) (0 ∷ []))
unfolding hand_out runs write_by followed turn_of tried taken_by series done programs wiped stored
ran = (refl, refl, refl, refl)
