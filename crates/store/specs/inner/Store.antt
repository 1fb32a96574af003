-- A write or truncate of one file by nested cases, behind the tests of card, window and table: what the inner functions answer and leave.
use Rattle.std.specs.Prelude.{true, false, Result, Ok, Err, List, ℕ, ◌+◌, ◌-◌, ltb, eqb, length}
use Rattle.layout.specs.declared.Refusal.{Refusal}
use Rattle.layout.specs.Numbers.{size_max, null_block}
use Rattle.layout.specs.declared.Refusal.TheVariants as refusal
use Rattle.layout.specs.inner.Served.{block_list}
use Rattle.card.specs.inner.Cards.{card_with}
use Rattle.ctz.specs.declared.Found.{Found}
use Rattle.ctz.specs.Lookup.{walk_to}
use Rattle.files.specs.declared.Table.{Table}
use Rattle.files.specs.Table.{file}
use Rattle.files.specs.Change as change
use Rattle.window.specs.declared.Lookahead.{Lookahead}
use Rattle.old_list.specs.Write.{zeros}
use Rattle.new_list.specs.inner.Put.{puts}
use Rattle.store.specs.declared.Stored.{Stored}
use Rattle.store.specs.Store.{Answer, StoreOut, left, written_of}

abbrev pub stays : Answer → Lookahead → Table → Stored
stays a w t = record { answer = a; window = w; table = t }

-- A write to the file at place i: position (-22), then position and length (-27), then the card.
-- A write of no bytes changes nothing, the window included, also past the end.
unfoldable pub write_file : ℕ → ℕ → ℕ → List ℕ → List ℕ → Lookahead → Table → ℕ → ℕ → List ℕ → StoreOut
write_file B N l image health w t i p src =
    elim (ltb size_max p) [
      | true ↦ left (Err refusal.Invalid) w t image
      | false ↦ elim (ltb size_max (p + length src)) [
        | true ↦ left (Err refusal.TooLarge) w t image
        | false ↦ elim (eqb (length src) 0) [
          | true ↦ left (Ok tt) w t image
          | false ↦ written_of t i (puts B N l health t (file t i) p src w image)
        ]
      ]
    ]

-- Shrinking takes the block of the last kept byte as head and leaves card and window as they were; to 0 gives the null head.
abbrev pub shrunk : Table → ℕ → ℕ → Lookahead → List ℕ → Result Found Refusal → StoreOut
shrunk t i size w image (Ok found) = left (Ok tt) w (change.with_list t i (record { head = found.block; size = size })) image
shrunk t i size w image (Err r) = left (Err refusal.Damaged) w t image

unfoldable pub shrinks : ℕ → ℕ → List ℕ → Lookahead → Table → ℕ → ℕ → StoreOut
shrinks B N image w t i size =
    elim (eqb size 0) [
      | true ↦ left (Ok tt) w (change.with_list t i (record { head = null_block; size = 0 })) image
      | false ↦ shrunk t i size w image (walk_to (card_with B N image) (block_list (file t i).head (file t i).size) (size - 1))
    ]

-- Growing is a write of zeros at the old size; equal changes nothing. A size above the largest is -22.
unfoldable pub truncate_file : ℕ → ℕ → ℕ → List ℕ → List ℕ → Lookahead → Table → ℕ → ℕ → StoreOut
truncate_file B N l image health w t i size =
    elim (ltb size_max size) [
      | true ↦ left (Err refusal.Invalid) w t image
      | false ↦ elim (ltb size (file t i).size) [
        | true ↦ shrinks B N image w t i size
        | false ↦ elim (eqb size (file t i).size) [
          | true ↦ left (Ok tt) w t image
          | false ↦
              written_of t i (puts B N l health t (file t i) (file t i).size (zeros (size - (file t i).size)) w image)
        ]
      ]
    ]
