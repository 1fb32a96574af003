-- Records on the blocks of a card: one allocation and one growth.
use Rattle.std.specs.Prelude.{Bool, true, false, Option, Some, None, ◌&&◌, List, [], ◌∷◌, ℕ, leb, eqb, length}
use Rattle.card.specs.inner.Cards.{card_with}
use Rattle.window.specs.Allocate.{Allocated}
use Rattle.window.specs.declared.Lookahead.{Lookahead}
use Rattle.alloc.specs.Allocate.{allocate_of}
use Rattle.grow.specs.Extend.{extend_of, GrowOut}
use Rattle.grow.specs.inner.Setting.{setting, state}
use Rattle.told_windows.specs.declared.TidAlloc.{TidAlloc}
use Rattle.told_windows.specs.declared.TidExtend.{TidExtend}
use Rattle.told_windows.specs.Windows.{allocated_told, extend_told}
use Rattle.records.specs.Records.{word_of, bytes_at, image_of, window_of, table_at}
use Rattle.records.specs.Agreement.{bare_of, told_of, windows_agree}

-- the window afterwards, whose place is word 6, then the block
abbrev pub allocated_equal : List ℕ → ℕ → TidAlloc → Bool
allocated_equal list at a = windows_agree a.window (window_of list (word_of list at 6)) && told_of list at (bare_of a.code) a.block 0 0

-- an allocation on a card, whose word 6 is the place of its table
abbrev pub alloc_on : List ℕ → ℕ → Lookahead → Allocated
alloc_on list card w =
    allocate_of (card_with (word_of list card 0) (word_of list card 1) (image_of list card)) (word_of list card 2) (table_at list (word_of list card 6)) w

-- the question: card and window
unfoldable pub alloc_equal : List ℕ → ℕ → Bool
alloc_equal list at = allocated_equal list at (allocated_told (alloc_on list (word_of list at 4) (window_of list (word_of list at 5))))

-- the window afterwards, whose place is word 6, then block and offset
abbrev pub extended_equal : List ℕ → ℕ → TidExtend → Bool
extended_equal list at a =
    windows_agree a.window (window_of list (word_of list at 6)) && told_of list at (bare_of a.code) a.block a.offset 0

-- whether two runs of bytes are the same
unfoldable pub bytes_agree : List ℕ → List ℕ → Bool
bytes_agree [] [] = true
bytes_agree [] (y ∷ ys) = false
bytes_agree (x ∷ xs) [] = false
bytes_agree (x ∷ xs) (y ∷ ys) = eqb x y && bytes_agree xs ys

-- a growth on this image of a card, whose word 5 is the place of its health bytes
abbrev pub extend_on : List ℕ → ℕ → List ℕ → Lookahead → ℕ → ℕ → GrowOut Lookahead
extend_on list card image w head size =
    extend_of (setting (word_of list card 0) (word_of list card 1) (word_of list card 2) (bytes_at list (word_of list card 5) (word_of list card 1))) (state w (table_at list (word_of list card 6)) image) (record { head = head; size = size })

-- the whole image afterwards, whose place is word 9; or the answer
unfoldable pub grew_equal : Bool → List ℕ → ℕ → GrowOut Lookahead → Bool
grew_equal true list at o = bytes_agree o.image (bytes_at list (word_of list at 9) (length o.image))
grew_equal false list at o = extended_equal list at (extend_told o)

-- the question on this image: window, head and size
unfoldable pub grown_equal : Bool → List ℕ → ℕ → ℕ → List ℕ → Bool
grown_equal whole list at card image =
    grew_equal whole list at (extend_on list card image (window_of list (word_of list at 5)) (word_of list at 7) (word_of list at 8))

-- on the card's image, which has at most 2,048 bytes
unfoldable pub extend_equal : Bool → List ℕ → ℕ → Bool
extend_equal whole list at =
    elim (leb (length (image_of list (word_of list at 4))) 2048) [
      | true ↦ grown_equal whole list at (word_of list at 4) (image_of list (word_of list at 4))
      | false ↦ false
    ]

-- the growth that the question asks, on the card's image
abbrev pub grown_on : List ℕ → ℕ → GrowOut Lookahead
grown_on list at =
    extend_on list (word_of list at 4) (image_of list (word_of list at 4)) (window_of list (word_of list at 5)) (word_of list at 7) (word_of list at 8)

-- what it answers, where there is room for the image
abbrev pub answer_on : List ℕ → ℕ → Option TidExtend
answer_on list at =
    elim (leb (length (image_of list (word_of list at 4))) 2048) [ true ↦ Some (extend_told (grown_on list at)) | false ↦ None ]
