-- What stands in the list of answers: words, parts, cards, windows and tables. Past its end a word is 0 and a part is empty.
use Rattle.std.specs.Prelude.{true, false, List, [], ◌∷◌, ℕ, zero, suc, ◌+◌, ◌-◌, ◌*◌, length, take, drop, replicate, ltb, leb, ℤ, pos, negsuc}
use Rattle.span.specs.Words.{word_at}
use Rattle.layout.specs.declared.Geometry.{Geometry}
use Rattle.layout.specs.Numbers.{files_max}
use Rattle.files.specs.declared.Entry.{Entry}
use Rattle.files.specs.declared.Table.{Table}
use Rattle.files.specs.Table.{table_of}
use Rattle.window.specs.declared.Lookahead.{Lookahead}

-- word k of what stands at byte `at`; 0 where its four bytes are not all in the list
unfoldable pub word_of : List ℕ → ℕ → ℕ → ℕ
word_of list at k = elim (leb (at + 4 * k + 4) (length list)) [ true ↦ word_at list (at + 4 * k) | false ↦ 0 ]

-- the n bytes from `at` on; none where they are not all in the list
unfoldable pub bytes_at : List ℕ → ℕ → ℕ → List ℕ
bytes_at list at n = elim (leb (at + n) (length list)) [ true ↦ take n (drop at list) | false ↦ [] ]

-- a card: block size, block count and lookahead, then the place and the length of its image
abbrev pub geometry_of : List ℕ → ℕ → Geometry
geometry_of list card = record { block_size = word_of list card 0; block_count = word_of list card 1 }

abbrev pub image_of : List ℕ → ℕ → List ℕ
image_of list card = bytes_at list (word_of list card 3) (word_of list card 4)

-- a word as a signed number: two's complement
unfoldable pub signed_of : ℕ → ℤ
signed_of x = elim (ltb x 2147483648) [ true ↦ pos x | false ↦ negsuc (4294967295 - x) ]

-- the map of a window: 64 bytes, zeros where they are not all in the list
unfoldable pub map_of : List ℕ → ℕ → List ℕ
map_of list at = elim (leb (at + 64) (length list)) [ true ↦ take 64 (drop at list) | false ↦ replicate 64 0 ]

-- start, next, size, checkpoint count, and the place of the map
abbrev pub window_of : List ℕ → ℕ → Lookahead
window_of list at =
    record {
      map = map_of list (word_of list at 4);
      start = word_of list at 0;
      next = word_of list at 1;
      size = word_of list at 2;
      ckpoint = word_of list at 3;
    }

-- file i of a table: its size and head are two words, behind the count and the files before it
abbrev pub entry_of : List ℕ → ℕ → ℕ → Entry
entry_of list at i = record { number = i; size = word_of list at (2 * i + 1); head = word_of list at (2 * i + 2) }

-- k files, from file i on
unfoldable pub entries_of : List ℕ → ℕ → ℕ → ℕ → List Entry
entries_of list at i zero = []
entries_of list at i (suc k) = entry_of list at i ∷ entries_of list at (suc i) k

-- how many files, then each of them; the table of no files where there are more than 32
unfoldable pub table_at : List ℕ → ℕ → Table
table_at list at =
    elim (leb (word_of list at 0) files_max) [
      | true ↦ table_of (entries_of list at 0 (word_of list at 0))
      | false ↦ table_of []
    ]
