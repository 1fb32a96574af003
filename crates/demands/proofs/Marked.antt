-- -28 from windows that are not fresh, by computing, on a card of two blocks of 128 bytes. Assumes nothing.
use mathlib.Core.Path.{◌≡◌, refl}
use mathlib.Core.Bool.{true, false}
use mathlib.Core.List.{List, [], ◌∷◌, ◌++◌}
use Prim.Native.Nat.{ℕ}
use lib.Count.{count_trailing_zeros, count_leading_zeros}
use lib.IntN.{pos, negsuc}
use lib.ListN.{replicate}
use Rattle.span.specs.Words.{bytes32, word_at}
use Rattle.span.specs.Members.{has}
use Rattle.layout.specs.Layout.{pointers, capacity, start, index_at, offset_at}
use Rattle.card.specs.Card.{good_card, pointer}
use Rattle.health.specs.Health.{each_valid, health_ok}
use Rattle.device.specs.Device.{stored, wiped}
use Rattle.ctz.specs.Lookup.{walk, walk_to}
use Rattle.ctz.specs.Visits.{visit_of, visit, hand}
use Rattle.files.specs.declared.Entry.{Entry}
use Rattle.files.specs.Table.{search_of, find_of, head_ok, entry_ok, files_ok, table_of, table_ok}
use Rattle.window.specs.Allocate.{alloc_by, alloc_of, skip, take_of}
use Rattle.window.specs.Scan.{mark_all, mark_map, cleared, listed_of, scan_of, seen_all}
use Rattle.window.specs.Value.{lookahead_fits, valid_of}
use Rattle.windows.specs.Space.{used_for, tally}
use Rattle.alloc.specs.Visits.{seen_in, listed_in}
use Rattle.trials.specs.Steps.{done, series, programs}
use Rattle.trials.specs.Trial.{taken_by}
use Rattle.trials.specs.Loop.{tried, followed, turn_of, write_by}
use Rattle.grow.specs.Setting.{tested_of, Setting, State}
use Rattle.grow.specs.Growth.{links, growth}
use Rattle.old_list.specs.Write.{ahead, then, tail, trial_of, starts, wanted, looked, first_head}
use Rattle.store.specs.Store.{put_on, at_file, truncate_at, store_truncate}
use Rattle.demands.specs.Calls.{Left, truncate, after}
use Rattle.demands.specs.Space.{good_free, good_usable, read_by, used_in}

abbrev good : List ℕ
good = 0 ∷ 0 ∷ []

-- block 0 begins with the number of block 1
abbrev card : List ℕ
card = (1 ∷ 0 ∷ 0 ∷ 0 ∷ replicate 124 7) ++ replicate 128 7

-- a window from block 0 on, with that first byte of its map, and the file 2, empty, behind these files
abbrev from : ℕ → ℕ → List Entry → State
from byte size es =
    record {
      window = record { map = byte ∷ replicate 63 0; start = 0; next = 0; size = size; ckpoint = 2 };
      table = table_of (es ++ (record { number = 2; size = 0; head = 4294967295 } ∷ []));
      image = card;
    }

-- file 1 has block 0 at index 1 and block 1 at index 0: its list is sound
abbrev two : List Entry
two = record { number = 1; size = 200; head = 0 } ∷ []

abbrev pair : Setting
pair = record { B = 128; N = 2; L = 8; health = good }

-- 252 bytes for file 2: they need two blocks
grown : State → Left
grown s = after pair (truncate (record { number = 2; size = 252 })) s

-- Nothing is listed, and block 1 is marked in what is left of the window: -28, though two blocks are good and unlisted. The same call again is accepted.
freed : ((grown (from 2 2 [])).code ≡ negsuc 27) × (good_free pair (from 2 2 []) ≡ 2) × (good_usable pair (from 2 2 []) ≡ 1)
    × ((grown (grown (from 2 2 [])).state).code ≡ pos 0)
unfolding grown after store_truncate at_file tested_of truncate_at put_on wanted starts looked first_head write_by followed turn_of tried taken_by trial_of then growth links tail ahead series done programs wiped stored alloc_of alloc_by take_of skip scan_of cleared mark_all mark_map seen_in seen_all visit_of visit hand good_card health_ok each_valid lookahead_fits valid_of find_of search_of table_ok files_ok entry_ok head_ok walk_to walk pointer word_at bytes32 pointers capacity start index_at offset_at count_trailing_zeros count_leading_zeros listed_in listed_of used_for has tally
freed = (refl, refl, refl, refl)

-- WHY `Apart` IS ASKED. Block 0 is what is left of the window, not marked there but read by the visit of file 1. It is filled with zeros, so the scan is told
-- of block 0 alone: block 1 is handed out too, and the call is accepted, though only block 0 is usable as the call begins.
read_and_lost : ((grown (from 0 1 two)).code ≡ pos 0) × (good_usable pair (from 0 1 two) ≡ 1)
    × (has (read_by pair card two) 0 ≡ true) × (used_in pair (from 0 1 two) 0 ≡ false)
unfolding grown after store_truncate at_file tested_of truncate_at put_on wanted starts looked first_head write_by followed turn_of tried taken_by trial_of then growth links tail ahead series done programs wiped stored alloc_of alloc_by take_of skip scan_of cleared mark_all mark_map seen_in seen_all visit_of visit hand good_card health_ok each_valid lookahead_fits valid_of find_of search_of table_ok files_ok entry_ok head_ok walk_to walk pointer word_at bytes32 pointers capacity start index_at offset_at count_trailing_zeros count_leading_zeros listed_in listed_of used_for has tally read_by
read_and_lost = (refl, refl, refl, refl)
