-- Growths on a card of four blocks of 16 bytes, by computing. The allocator hands out 0, 1, 2, ..; block 0 refuses an erase, block 1 a program.
use mathlib.Core.Path.{◌≡◌, refl}
use mathlib.Core.List.{List, [], ◌∷◌, ◌++◌}
use Prim.Native.Nat.{ℕ, suc}
use lib.Count.{count_trailing_zeros}
use lib.ListN.{replicate}
use Rattle.std.specs.Prelude.{Err}
use Rattle.span.specs.Words.{bytes32, word_at}
use Rattle.layout.specs.Layout.{pointers, capacity, start, index_at, offset_at}
use Rattle.layout.specs.declared.Refusal.TheVariants as refusal
use Rattle.card.specs.Card.{pointer}
use Rattle.device.specs.Device.{stored, wiped}
use Rattle.trials.specs.Steps.{done, series, programs}
use Rattle.trials.specs.Trial.{taken_by}
use Rattle.trials.specs.Loop.{Took, Block, tried, followed, turn_of, write_by}
use Rattle.grow.specs.Growth.{links, growth}
use Rattle.grow.specs.Extend.{grown_at, GrowOut, grow_out, growing, grew_by}

abbrev filled : ℕ → List ℕ
filled v = replicate 16 v

abbrev rising : ℕ → List ℕ → Took ℕ
rising w img = Block w (suc w)

-- from (head, size), with that many turns
grows : ℕ → ℕ → ℕ → GrowOut ℕ
grows m head size =
    grew_by (offset_at 16 size)
    (write_by (record { B = 16; N = 4; health = 1 ∷ 2 ∷ 0 ∷ 0 ∷ []; alloc = rising }) (growing size) m
    (record { head = head; size = size; image = filled 7 ++ (filled 7 ++ (filled 7 ++ filled 7)); rest = 0 }))

-- A full last block: block 0 is passed as it was, block 1 erased, block 2 gets the pointer. An incomplete one is copied. Size 0 programs nothing, so
-- block 1 will do; so it does where the head is not below the block count: -84, after the erase. No turn left: -28.
grown : (grows 4 3 16 ≡ grow_out (grown_at 2 4) (filled 7 ++ (filled 255 ++ ((3 ∷ 0 ∷ 0 ∷ 0 ∷ replicate 12 255) ++ filled 7))) 3)
    × (grows 4 3 5 ≡ grow_out (grown_at 2 5) (filled 7 ++ (filled 255 ++ ((replicate 5 7 ++ replicate 11 255) ++ filled 7))) 3)
    × (grows 4 3 0 ≡ grow_out (grown_at 1 0) (filled 7 ++ (filled 255 ++ (filled 7 ++ filled 7))) 2)
    × (grows 4 4 5 ≡ grow_out (Err refusal.Damaged) (filled 7 ++ (filled 255 ++ (filled 7 ++ filled 7))) 2)
    × (grows 2 3 5 ≡ grow_out (Err refusal.NoSpace) (filled 7 ++ (filled 255 ++ (filled 7 ++ filled 7))) 2)
unfolding grows write_by followed turn_of tried taken_by growth links series done programs wiped stored bytes32 pointer word_at index_at offset_at start capacity pointers count_trailing_zeros
grown = (refl, refl, refl, refl, refl)
