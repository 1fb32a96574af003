-- Writes refused with -84 and -28 through the whole call, by computing, on a card of six blocks of 128 bytes. Each case compares the answer, the window, the
-- table and the whole image. Assumes nothing.
use mathlib.Core.Path.{◌≡◌, refl}
use mathlib.Core.List.{List, [], ◌∷◌, ◌++◌}
use Prim.Native.Nat.{ℕ}
use lib.Count.{count_trailing_zeros, count_leading_zeros}
use lib.ListN.{replicate}
use Rattle.std.specs.Prelude.{Ok, Err}
use Rattle.span.specs.Words.{bytes32, word_at}
use Rattle.layout.specs.Layout.{pointers, capacity, start, index_at, offset_at}
use Rattle.layout.specs.declared.Refusal.TheVariants as refusal
use Rattle.card.specs.Card.{good_card, pointer}
use Rattle.health.specs.Health.{each_valid, health_ok}
use Rattle.device.specs.Device.{stored, wiped}
use Rattle.ctz.specs.Lookup.{walk, walk_to}
use Rattle.ctz.specs.Visits.{visit_of, visit, hand}
use Rattle.files.specs.declared.Table.{Table}
use Rattle.files.specs.Table.{search_of, find_of, head_ok, entry_ok, files_ok, table_of, table_ok}
use Rattle.window.specs.declared.Lookahead.{Lookahead}
use Rattle.window.specs.Allocate.{alloc_by, alloc_of, skip, take_of}
use Rattle.window.specs.Scan.{mark_all, mark_map, cleared, scan_of, seen_all}
use Rattle.window.specs.Value.{lookahead_fits, valid_of}
use Rattle.alloc.specs.Visits.{seen_in}
use Rattle.trials.specs.Steps.{done, series, programs}
use Rattle.trials.specs.Trial.{taken_by}
use Rattle.trials.specs.Loop.{tried, followed, turn_of, write_by}
use Rattle.grow.specs.Setting.{tested_of}
use Rattle.grow.specs.Growth.{links, growth}
use Rattle.old_list.specs.Write.{ahead, then, tail, trial_of, starts, wanted, looked, first_head}
use Rattle.store.specs.Store.{StoreOut, left, put_on, at_file, write_at, store_write}

-- The file is 372 bytes of 7 in blocks 0, 1 and 2, all three full. Pointer 1 of block 2 should name block 0 and names p. Blocks 3, 4 and 5 are given.
abbrev card : ℕ → List ℕ → List ℕ → List ℕ → List ℕ
card p three four five =
    replicate 128 7
    ++ ((0 ∷ 0 ∷ 0 ∷ 0 ∷ replicate 124 7)
    ++ ((1 ∷ 0 ∷ 0 ∷ 0 ∷ p ∷ 0 ∷ 0 ∷ 0 ∷ replicate 120 7)
    ++ (three ++ (four ++ five))))

-- a block that is in no file
abbrev spare : List ℕ
spare = replicate 128 9

-- block 3 as the first growth of a write at 372 leaves it: a pointer to block 2, and filled
abbrev filled : List ℕ
filled = 2 ∷ 0 ∷ 0 ∷ 0 ∷ replicate 124 5

abbrev files : ℕ → ℕ → Table
files size head = table_of (record { number = 3; size = size; head = head } ∷ [])

-- a window with that first byte of its map, and 0 behind it
abbrev window : ℕ → ℕ → ℕ → ℕ → ℕ → Lookahead
window byte start next size count =
    record { map = byte ∷ replicate 63 0; start = start; next = next; size = size; ckpoint = count }

-- n bytes of 5 go to that position of the file
writes : ℕ → List ℕ → Lookahead → ℕ → ℕ → StoreOut
writes p health w pos n =
    store_write (record { B = 128; N = 6; L = 8; health = health }) (record { window = w; table = files 372 2; image = card p spare spare spare })
    (record { number = 3; position = pos; bytes = replicate n 5 })

abbrev good : List ℕ
good = replicate 6 0

-- 125 bytes at the end take a block for 124 of them and a block for the last, with three pointers.
-- Where the list is sound: done, and the window has passed both blocks.
-- Where pointer 1 of block 2 is 77, only the third pointer of the second block meets it: -84. The table is as it came, the window has passed both blocks;
-- block 3 is filled, and block 4 is erased with the two pointers before.
-- The same with a window that ends behind block 3: the scan for the second block meets 77, with blocks 2 and 1 marked, and drops the window. Block 3 is filled.
-- The same with a fresh window: the scan for the first block meets it. The card is as it came.
-- Over the first byte of all, the lookups meet it: -84 before any allocation. All is as it came but the checkpoint count.
-- The list is sound, but block 4 refuses its erase and block 5 its program: -28. The table is as it came, the window used up, block 3 filled, block 4 as it
-- came, block 5 erased.
refused : (writes 0 good (window 7 0 3 6 3) 372 125
    ≡ left (Ok tt) (window 7 0 5 6 4) (files 497 4)
    (card 0 filled (3 ∷ 0 ∷ 0 ∷ 0 ∷ 2 ∷ 0 ∷ 0 ∷ 0 ∷ 0 ∷ 0 ∷ 0 ∷ 0 ∷ 5 ∷ replicate 115 255) spare))
    × (writes 77 good (window 7 0 3 6 3) 372 125
    ≡ left (Err refusal.Damaged) (window 7 0 5 6 4) (files 372 2) (card 77 filled (3 ∷ 0 ∷ 0 ∷ 0 ∷ 2 ∷ 0 ∷ 0 ∷ 0 ∷ replicate 120 255) spare))
    × (writes 77 good (window 7 0 3 4 3) 372 125 ≡ left (Err refusal.Damaged) (window 24 4 0 0 6) (files 372 2) (card 77 filled spare spare))
    × (writes 77 good (window 0 0 0 0 6) 372 125 ≡ left (Err refusal.Damaged) (window 6 0 0 0 6) (files 372 2) (card 77 spare spare spare))
    × (writes 77 good (window 7 0 3 6 3) 0 1 ≡ left (Err refusal.Damaged) (window 7 0 3 6 6) (files 372 2) (card 77 spare spare spare))
    × (writes 0 (0 ∷ 0 ∷ 0 ∷ 0 ∷ 1 ∷ 2 ∷ []) (window 7 0 3 6 3) 372 125
    ≡ left (Err refusal.NoSpace) (window 7 0 3 3 0) (files 372 2) (card 0 filled spare (replicate 128 255)))
unfolding writes store_write at_file tested_of write_at put_on wanted starts looked first_head write_by followed turn_of tried taken_by trial_of then growth links tail ahead series done programs wiped stored alloc_of alloc_by take_of skip scan_of cleared mark_all mark_map seen_in seen_all visit_of visit hand good_card health_ok each_valid lookahead_fits valid_of find_of search_of table_ok files_ok entry_ok head_ok walk_to walk pointer word_at bytes32 pointers capacity start index_at offset_at count_trailing_zeros count_leading_zeros
refused = (refl, refl, refl, refl, refl, refl)
