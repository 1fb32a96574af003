-- The definitions run: a gap and both health faults, two blocks with a pointer, and -28.
use mathlib.Core.Path.{◌≡◌, refl}
use mathlib.Core.List.{List, [], ◌∷◌}
use Prim.Native.Nat.{ℕ}
use lib.ListN.{length, replicate, take}
use lib.Count.{count_trailing_zeros}
use Rattle.span.specs.Words.{word_at, bytes32}
use Rattle.layout.specs.Layout.{pointers, capacity, start, index_at, offset_at}
use Rattle.card.specs.Card.{pointer}
use Rattle.device.specs.Device.{stored, wiped}
use Rattle.ctz.specs.Lists.{down}
use Rattle.trials.specs.Loop.{Written, NoRoom, WriteOut}
use Rattle.grow.specs.inner.Grow.{part, pointers_of, link_of, spoils, grow_of}
use Rattle.old_list.specs.Write.{starts, wanted, looked, first_head}
use Rattle.new_block.specs.inner.Fill.{fronted, tailed}
use Rattle.new_list.specs.inner.Write.{filled_of, grown_of, write_of, put_of}
use Rattle.writes.proofs.Listed.{look_at, hand_out}

-- one byte after a gap of two, into an empty file; block 2 refuses its erase, block 1 its program
one_byte : WriteOut (List ℕ)
one_byte =
    put_of (look_at 128 4294967295 0) length hand_out (0 ∷ 2 ∷ 1 ∷ []) 128 3 (record { head = 4294967295; old = 0; pos = 2; src = 7 ∷ [] })
    (2 ∷ 1 ∷ 0 ∷ []) (replicate 384 9)

-- 130 bytes into an empty file, from the blocks ks: a second block has a pointer to the first
two_blocks : List ℕ → WriteOut (List ℕ)
two_blocks ks =
    put_of (look_at 128 4294967295 0) length hand_out (0 ∷ 0 ∷ []) 128 2 (record { head = 4294967295; old = 0; pos = 0; src = replicate 130 7 })
    ks (replicate 256 9)

examples : (one_byte.answer ≡ Written 0 3) × (take 4 one_byte.image ≡ 0 ∷ 0 ∷ 7 ∷ 255 ∷ [])
    × ((two_blocks (1 ∷ 0 ∷ [])).answer ≡ Written 0 130) × (take 7 (two_blocks (1 ∷ 0 ∷ [])).image ≡ 1 ∷ 0 ∷ 0 ∷ 0 ∷ 7 ∷ 7 ∷ 255 ∷ [])
    × ((two_blocks (1 ∷ [])).answer ≡ NoRoom)
unfolding one_byte two_blocks put_of wanted starts looked first_head write_of grown_of filled_of fronted tailed grow_of spoils link_of pointers_of part wiped stored down pointer word_at bytes32 pointers capacity start index_at offset_at count_trailing_zeros
examples = (refl, refl, refl, refl, refl)
