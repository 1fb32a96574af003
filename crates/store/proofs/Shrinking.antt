-- Shrinking through the whole call, by computing, on a card of three blocks of 128 bytes. Each case compares the answer, the window, the table and the whole
-- image. Assumes nothing.
use mathlib.Core.Path.{◌≡◌, refl}
use mathlib.Core.List.{List, [], ◌∷◌, ◌++◌}
use Prim.Native.Nat.{ℕ}
use lib.Count.{count_trailing_zeros, count_leading_zeros}
use lib.ListN.{replicate}
use Rattle.std.specs.Prelude.{Ok, Err}
use Rattle.span.specs.Words.{word_at}
use Rattle.layout.specs.Layout.{pointers, capacity, start, index_at, offset_at}
use Rattle.layout.specs.Numbers.{null_block}
use Rattle.layout.specs.declared.Refusal.TheVariants as refusal
use Rattle.card.specs.Card.{good_card, pointer}
use Rattle.health.specs.Health.{each_valid, health_ok}
use Rattle.ctz.specs.Lookup.{walk, walk_to}
use Rattle.files.specs.declared.Table.{Table}
use Rattle.files.specs.Table.{search_of, find_of, head_ok, entry_ok, files_ok, table_of, table_ok}
use Rattle.window.specs.declared.Lookahead.{Lookahead}
use Rattle.window.specs.Value.{lookahead_fits, valid_of}
use Rattle.grow.specs.Setting.{tested_of}
use Rattle.store.specs.Store.{StoreOut, left, at_file, cut_down, truncate_at, store_truncate}

-- The file is 260 bytes in blocks 2, 0 and 1: 128 of 7; 124 of 8 behind a pointer; 8 of 9 behind two. The first of those should name block 0 and names p.
abbrev card : ℕ → List ℕ
card p =
    (2 ∷ 0 ∷ 0 ∷ 0 ∷ replicate 124 8)
    ++ ((p ∷ 0 ∷ 0 ∷ 0 ∷ 2 ∷ 0 ∷ 0 ∷ 0 ∷ (replicate 8 9 ++ replicate 112 255))
    ++ replicate 128 7)

abbrev files : ℕ → ℕ → Table
files size head = table_of (record { number = 3; size = size; head = head } ∷ [])

-- a window in use, whose checkpoint count is not the block count
abbrev window : Lookahead
window = record { map = 5 ∷ replicate 63 0; start = 1; next = 1; size = 2; ckpoint = 2 }

truncates : ℕ → ℕ → StoreOut
truncates p size =
    store_truncate (record { B = 128; N = 3; L = 8; health = 0 ∷ 0 ∷ 0 ∷ [] }) (record { window = window; table = files 260 1; image = card p })
    (record { number = 3; size = size })

-- done, with that size and head; card and window are as they came
abbrev keeps : ℕ → ℕ → StoreOut
keeps size head = left (Ok tt) window (files size head) (card 0)

-- The size it has changes nothing. Block 1 stays the head inside it and one past the end of block 0; block 0 becomes the head exactly at its end, inside it
-- and one past the end of block 2; block 2 exactly at its end, inside it and for one byte; for none the head is null.
shrank : (truncates 0 260 ≡ keeps 260 1) × (truncates 0 259 ≡ keeps 259 1) × (truncates 0 253 ≡ keeps 253 1)
    × (truncates 0 252 ≡ keeps 252 0) × (truncates 0 251 ≡ keeps 251 0) × (truncates 0 129 ≡ keeps 129 0)
    × (truncates 0 128 ≡ keeps 128 2) × (truncates 0 127 ≡ keeps 127 2) × (truncates 0 1 ≡ keeps 1 2)
    × (truncates 0 0 ≡ keeps 0 null_block)
unfolding truncates store_truncate at_file tested_of truncate_at cut_down good_card health_ok each_valid lookahead_fits valid_of find_of search_of table_ok files_ok entry_ok head_ok walk_to walk pointer word_at pointers capacity start index_at offset_at count_trailing_zeros count_leading_zeros
shrank = (refl, refl, refl, refl, refl, refl, refl, refl, refl, refl)

-- Where the pointer names no block of the card: -84 if it would become the head, and all is as it came.
lost : truncates 77 252 ≡ left (Err refusal.Damaged) window (files 260 1) (card 77)
unfolding truncates store_truncate at_file tested_of truncate_at cut_down good_card health_ok each_valid lookahead_fits valid_of find_of search_of table_ok files_ok entry_ok head_ok walk_to walk pointer word_at pointers capacity start index_at offset_at count_trailing_zeros count_leading_zeros
lost = refl
