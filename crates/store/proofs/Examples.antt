-- Writes on a card of six blocks of 16 bytes, by computing. The allocator hands out 2, 3, 4, ..; block 5 refuses a program. The old file is 20 bytes
-- of 7 in blocks 0 and 1: the second holds a pointer and four bytes. Through the whole call: `Refusing` for what -84 and -28 leave, `Shrinking` for truncate.
use mathlib.Core.Path.{◌≡◌, refl}
use mathlib.Core.Bool.{Bool, true, false}
use mathlib.Core.List.{List, [], ◌∷◌, ◌++◌}
use Prim.Native.Nat.{ℕ, suc, ◌*◌}
use lib.Count.{count_trailing_zeros, count_leading_zeros}
use lib.Dec.{ltb}
use lib.ListN.{take, drop, replicate}
use Rattle.span.specs.Words.{bytes32, word_at}
use Rattle.layout.specs.Numbers.{null_block}
use Rattle.layout.specs.Layout.{pointers, capacity, start, index_at, offset_at}
use Rattle.layout.specs.inner.Served.{block_list}
use Rattle.card.specs.Card.{pointer}
use Rattle.card.specs.inner.Cards.{card_with}
use Rattle.device.specs.Device.{stored, wiped}
use Rattle.ctz.specs.Lookup.{found_at, walk, walk_to}
use Rattle.files.specs.declared.Entry.{Entry}
use Rattle.files.specs.Table.{list_of}
use Rattle.trials.specs.Steps.{done, series, programs}
use Rattle.trials.specs.Trial.{taken_by}
use Rattle.trials.specs.Loop.{Took, Block, None, WriteOut, Written, NoRoom, tried, followed, turn_of, write_by}
use Rattle.grow.specs.Growth.{links, growth}
use Rattle.old_list.specs.Write.{Look, kept, ahead, then, tail, trial_of, plan_of, starts, wanted, looked, first_head, job_of}
use Rattle.store.specs.Store.{look_on}

abbrev handed : Bool → ℕ → Took ℕ
handed b w = elim b [ true ↦ Block w (suc w) | false ↦ None w ]

abbrev rising : ℕ → List ℕ → Took ℕ
rising w img = handed (ltb w 6) w

abbrev card : List ℕ
card = replicate 16 7 ++ ((0 ∷ 0 ∷ 0 ∷ 0 ∷ (replicate 4 7 ++ replicate 8 255)) ++ replicate 64 9)

abbrev old : Entry
old = record { number = 3; size = 20; head = 1 }

abbrev empty : Entry
empty = record { number = 4; size = 0; head = null_block }

-- a write to a file behind its lookups, with blocks from w on; block 5 refuses its first program
writes : Entry → ℕ → ℕ → List ℕ → WriteOut ℕ
writes e w pos src =
    let look : List ℕ → ℕ → Look = look_on (record { B = 16; N = 6; L = 8; health = [] }) (list_of e) in
    write_by (record { B = 16; N = 6; health = 0 ∷ 0 ∷ 0 ∷ 0 ∷ 0 ∷ 2 ∷ []; alloc = rising }) (plan_of look 16 (job_of e pos src)) 7
    (record { head = first_head (look card) (kept (job_of e pos src)); size = kept (job_of e pos src); image = card; rest = w })

block : ℕ → WriteOut ℕ → List ℕ
block k o = take 16 (drop (k * 16) o.image)

-- Appended inside a block: it is copied. At its border: linked. Over the first bytes: both blocks anew, with the tail. Past a gap.
-- No block left: -28.
wrote : ((writes old 2 20 (5 ∷ [])).answer ≡ Written 2 21) × (block 2 (writes old 2 20 (5 ∷ [])) ≡ 0 ∷ 0 ∷ 0 ∷ 0 ∷ 7 ∷ 7 ∷ 7 ∷ 7 ∷ 5 ∷ replicate 7 255)
    × ((writes old 2 16 (5 ∷ 6 ∷ [])).answer ≡ Written 2 20) × (block 2 (writes old 2 16 (5 ∷ 6 ∷ [])) ≡ 0 ∷ 0 ∷ 0 ∷ 0 ∷ 5 ∷ 6 ∷ 7 ∷ 7 ∷ replicate 8 255)
    × ((writes old 2 0 (5 ∷ [])).answer ≡ Written 3 20) × (block 2 (writes old 2 0 (5 ∷ [])) ≡ 5 ∷ replicate 15 7)
    × (block 3 (writes old 2 0 (5 ∷ [])) ≡ 2 ∷ 0 ∷ 0 ∷ 0 ∷ 7 ∷ 7 ∷ 7 ∷ 7 ∷ replicate 8 255)
    × ((writes old 2 22 (5 ∷ [])).answer ≡ Written 2 23) × (block 2 (writes old 2 22 (5 ∷ [])) ≡ 0 ∷ 0 ∷ 0 ∷ 0 ∷ 7 ∷ 7 ∷ 7 ∷ 7 ∷ 0 ∷ 0 ∷ 5 ∷ replicate 5 255)
    × ((writes old 5 0 (5 ∷ [])).answer ≡ NoRoom) × (block 5 (writes old 5 0 (5 ∷ [])) ≡ replicate 16 255)
unfolding writes block first_head write_by followed turn_of tried taken_by trial_of then growth links tail ahead series done programs wiped stored walk_to walk pointer word_at bytes32 pointers capacity start index_at offset_at count_trailing_zeros count_leading_zeros
wrote = (refl, refl, refl, refl, refl, refl, refl, refl, refl, refl, refl)

-- Written from a block of its own on, also past a gap.
began : ((writes empty 2 0 (5 ∷ [])).answer ≡ Written 2 1) × (block 2 (writes empty 2 0 (5 ∷ [])) ≡ 5 ∷ replicate 15 255)
    × ((writes empty 2 2 (5 ∷ [])).answer ≡ Written 2 3) × (block 2 (writes empty 2 2 (5 ∷ [])) ≡ 0 ∷ 0 ∷ 5 ∷ replicate 13 255)
unfolding writes block first_head write_by followed turn_of tried taken_by trial_of then growth links tail ahead series done programs wiped stored walk_to walk pointer word_at bytes32 pointers capacity start index_at offset_at count_trailing_zeros count_leading_zeros
began = (refl, refl, refl, refl)

-- Shrunk to 17 bytes the last byte is the first of block 1, to 16 the last of block 0, to 1 its first: the block that becomes the head.
heads : (walk_to (card_with 16 6 card) (block_list 1 20) 16 ≡ found_at 1 4 0) × (walk_to (card_with 16 6 card) (block_list 1 20) 15 ≡ found_at 0 15 1) × (walk_to (card_with 16 6 card) (block_list 1 20) 0 ≡ found_at 0 0 1)
unfolding walk_to walk pointer word_at pointers capacity start index_at offset_at count_trailing_zeros count_leading_zeros
heads = (refl, refl, refl)

-- A lookup before the write finds the old list's blocks, and -84 where its head is no block: before any allocation.
finds : ℕ → Bool
finds head =
    looked (look_on (record { B = 16; N = 6; L = 8; health = [] }) (record { head = head; size = 20 }) card)
    (wanted 16 (job_of (record { number = 3; size = 20; head = head }) 20 (5 ∷ [])))

looks : (finds 1 ≡ true) × (finds 6 ≡ false)
unfolding finds looked wanted starts walk_to walk pointer word_at pointers capacity start index_at offset_at count_trailing_zeros count_leading_zeros
looks = (refl, refl)
