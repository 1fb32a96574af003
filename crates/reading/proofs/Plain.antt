-- Read and stretch of a file whose list is sound give the bytes of its plain file, for every position and room. Assumes nothing.
use mathlib.Core.Path.{◌≡◌, refl, sym, ap, ◌∙◌}
use mathlib.Core.Bool.{true}
use mathlib.Core.List.{List}
use Prim.Native.Nat.{ℕ, ◌+◌, ◌-◌, ◌*◌, ◌≤◌, ◌<◌, min}
use native.Mathlib.Nat.{min-le_right}
use native.Mathlib.Omega.{arith}
use lib.ListN.{length, take, drop, length-drop}
use lib.Seq.{sets, length-take-le}
use Rattle.std.specs.Prelude.{Ok}
use Rattle.layout.specs.Layout.{index_at, offset_at}
use Rattle.layout.specs.Numbers.{size_max}
use Rattle.layout.specs.inner.Served.{geometry, block_list}
use Rattle.card.specs.Card.{good_card, pointer}
use Rattle.card.specs.inner.Cards.{card_with}
use Rattle.ctz.specs.Lists.{SoundList}
use Rattle.ctz.proofs.Sounds.{at}
use Rattle.plain.specs.Bytes.{bytes}
use Rattle.plain.specs.Reading.{Part, Given, stretch_in}
use Rattle.plain.specs.inner.Forms.{GoodList}
use Rattle.plain.proofs.Files.{bytes_length}
use Rattle.plain.proofs.Reading.{read_sound, stretch_past, stretch_place, stretch_sound}
use Rattle.plain.proofs.Same.{part_bytes}
use Rattle.files.specs.declared.Table.{Table}
use Rattle.std.specs.Prelude.{Ok}
use Rattle.files.specs.Table.{file, find_of}
use Rattle.reading.specs.Calls.{given, read_of, placed_of, stretch_of, stretch_bytes}
use Rattle.reading.specs.inner.Bounds.{file_position}
use Rattle.reading.proofs.Asks.{ask_file, found_size}
use Rattle.reading.proofs.Results.{read_file, place_file}

-- as many bytes as are there from position p on
part_long : (bs : List ℕ) (p m : ℕ) → m ≤ length bs - p → length (take m (drop p bs)) ≡ m
part_long bs p m h = length-take-le m (drop p bs) (omega (arith, length-drop p bs))

-- the bytes of a part by its place and length
part_bytes_lem : (image : List ℕ) (s : Part) → stretch_bytes image (placed_of s) ≡ part_bytes image s
part_bytes_lem image (Given place length) = refl
part_bytes_lem image Part.Damaged = refl
part_bytes_lem image Part.Refused = refl

module _ (B N : ℕ) (image : List ℕ) (t : Table) (number i p : ℕ) (good : good_card (geometry B N) (length image) ≡ true) (here : find_of t number ≡ Ok i)
    (near : p ≤ size_max) (sound : SoundList (card_with B N image) (block_list (file t i).head (file t i).size)) where
  abbrev head : ℕ
  head = (file t i).head

  abbrev size : ℕ
  size = (file t i).size

  fits : GoodList B N image size
  fits = record { good = good; fits = found_size t number i here }

  -- ---- read: min(room, size - position) bytes of the plain file go to the front of the buffer

  pub read_plain : (buffer : List ℕ)
      → read_of (card_with B N image) t (file_position number p) buffer
      ≡ record {
        answer = Ok (min (length buffer) (size - p));
        buffer = sets buffer 0 (take (min (length buffer) (size - p)) (drop p (bytes B image (block_list head size))));
      }
  read_plain buffer =
      let m = min (length buffer) (size - p) in
      let l = min-le_right (length buffer) (size - p) in
      let bs = take m (drop p (bytes B image (block_list head size))) in
      let long : length bs ≡ m = part_long (bytes B image (block_list head size)) p m (omega (arith, bytes_length fits sound)) in
      sym (read_file B N image t number p buffer (sym (ask_file B N (length image) t number p good i here near)))
      ∙ ap (given buffer) (read_sound fits sound p (length buffer))
      ∙ ap (λ (n : ℕ). record { answer = Ok n; buffer = sets buffer 0 bs }) long

  -- ---- stretch

  stretch_is : placed_of (stretch_in (card_with B N image) (block_list head size) p) ≡ stretch_of (card_with B N image) t (file_position number p)
  stretch_is = place_file B N image t number p (sym (ask_file B N (length image) t number p good i here near))

  -- at or past the end the empty part at place 0
  pub stretch_end : size ≤ p → stretch_of (card_with B N image) t (file_position number p) ≡ Ok (record { place = 0; length = 0 })
  stretch_end h = sym stretch_is ∙ ap placed_of (stretch_past image B N head size p h)

  -- below the size from the position's place to the end of its block or of the file
  pub stretch_at : p < size
      → stretch_of (card_with B N image) t (file_position number p)
      ≡ Ok (record {
        place = at (pointer B image) head (index_at B (size - 1)) (index_at B p) * B + offset_at B p;
        length = min (B - offset_at B p) (size - p);
      })
  stretch_at h = sym stretch_is ∙ ap placed_of (stretch_place fits sound p h)

  -- with the bytes of the plain file
  pub stretch_plain : p < size
      → stretch_bytes image (stretch_of (card_with B N image) t (file_position number p)) ≡ take (min (B - offset_at B p) (size - p)) (drop p (bytes B image (block_list head size)))
  stretch_plain h =
      ap (stretch_bytes image) (sym stretch_is) ∙ part_bytes_lem image (stretch_in (card_with B N image) (block_list head size) p) ∙ stretch_sound fits sound p h
