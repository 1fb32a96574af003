-- Read and stretch of a sound list are parts of its plain file, for every position and room. Assumes nothing.
use mathlib.Core.Path.{◌≡◌, refl, sym, ap, ◌∙◌}
use mathlib.Core.Bool.{Bool, true, false}
use mathlib.Core.List.{List}
use Prim.Native.Nat.{ℕ, zero, suc, ◌+◌, ◌-◌, ◌*◌, ◌≤◌, ◌<◌, min}
use native.Mathlib.Nat.{min-le_left, min-le_right, le-min}
use native.Mathlib.Omega.{arith}
use borrow.Author.Tests.{lt-ltb, le-ltb, ltb-true, ltb-false}
use lib.Dec.{ltb}
use lib.ListN.{take, drop}
use Rattle.layout.specs.Layout.{index_at, offset_at}
use Rattle.layout.specs.inner.Served.{block_list}
use Rattle.layout.proofs.Places.{offset_inside}
use Rattle.card.specs.Card.{pointer}
use Rattle.card.specs.inner.Cards.{card_with}
use Rattle.ctz.specs.Lists.{SoundList}
use Rattle.ctz.proofs.Sounds.{at}
use Rattle.plain.specs.Bytes.{span, bytes}
use Rattle.plain.specs.Reading.{Given, stretch_in, Bytes, before, gather, read_in}
use Rattle.plain.specs.inner.Forms.{range, GoodList}
use Rattle.plain.proofs.Spans.{span_add}
use Rattle.plain.proofs.Indexes.{in_block}
use Rattle.plain.proofs.Finding.{walk_sound}
use Rattle.plain.proofs.Files.{bytes_part, run}
use Rattle.plain.proofs.Same.{byte_over, part_bytes}

-- at or past the end a stretch is the empty part at place 0, on any list
pub stretch_past : (image : List ℕ) (B N head size p : ℕ) → size ≤ p → stretch_in (card_with B N image) (block_list head size) p ≡ Given 0 0
unfolding stretch_in
stretch_past image B N head size p h = rw (stretch_in, le-ltb p size h)

module _ {B N : ℕ} {image : List ℕ} {head size : ℕ} (g : GoodList B N image size) (s : SoundList (card_with B N image) (block_list head size)) where
  abbrev blk : ℕ → ℕ
  blk i = at (pointer B image) head (index_at B (size - 1)) i

  abbrev byte : ℕ → ℕ
  byte p = byte_over image B head (index_at B (size - 1)) p

  -- ---- stretch

  -- below the size: from the position's place to the end of its block or of the file
  pub stretch_place : (p : ℕ) → p < size
      → stretch_in (card_with B N image) (block_list head size) p ≡ Given (blk (index_at B p) * B + offset_at B p) (min (B - offset_at B p) (size - p))
  unfolding stretch_in
  stretch_place p h = rw (stretch_in, lt-ltb p size h, walk_sound g s p h)

  -- its bytes are those of the plain file
  pub stretch_sound : (p : ℕ) → p < size
      → part_bytes image (stretch_in (card_with B N image) (block_list head size) p) ≡ take (min (B - offset_at B p) (size - p)) (drop p (bytes B image (block_list head size)))
  stretch_sound p h =
      let m = min (B - offset_at B p) (size - p) in
      let l = min-le_left (B - offset_at B p) (size - p) in
      let r = min-le_right (B - offset_at B p) (size - p) in
      let i = offset_inside B p (in_block g p (omega arith)) in
      ap (part_bytes image) (stretch_place p h) ∙ run g s p m h (omega arith) (omega arith) ∙ sym (bytes_part g s p m (omega arith))

  -- ---- read

  gather_turn : (f p n : ℕ) → 0 < n → p < size
      → gather (suc f) (card_with B N image) (block_list head size) (range p n)
      ≡ before (take (min (B - offset_at B p) n) (drop (blk (index_at B p) * B + offset_at B p) image))
      (gather f (card_with B N image) (block_list head size) (range (p + min (B - offset_at B p) n) (n - min (B - offset_at B p) n)))
  unfolding gather
  gather_turn f p n h l = rw (gather, lt-ltb 0 n h, walk_sound g s p l)

  -- n bytes that the file has, block after block
  pub gather_sound : (f p n : ℕ) → n ≤ f → p + n ≤ size → gather f (card_with B N image) (block_list head size) (range p n) ≡ Bytes (span byte p n)
  unfolding gather span
  gather_sound zero p n h l = let z : 0 ≡ n = omega arith in ap (λ (x : ℕ). Bytes (span byte p x)) z
  gather_sound (suc f) p n h l = go (ltb 0 n) refl (gather_sound f)
    where
      go : (t : Bool) → ltb 0 n ≡ t
          → ((p n : ℕ) → n ≤ f → p + n ≤ size → gather f (card_with B N image) (block_list head size) (range p n) ≡ Bytes (span byte p n))
          → gather (suc f) (card_with B N image) (block_list head size) (range p n) ≡ Bytes (span byte p n)
      go false e ih = let z : 0 ≡ n = omega (arith, ltb-false 0 n e) in rw (gather, e) (ap (λ (x : ℕ). Bytes (span byte p x)) z)
      go true e ih =
          let q : 0 < n = ltb-true 0 n e in
          let m = min (B - offset_at B p) n in
          let a = min-le_left (B - offset_at B p) n in
          let b = min-le_right (B - offset_at B p) n in
          let i = offset_inside B p (in_block g p (omega arith)) in
          let o : 1 ≤ m = le-min (omega arith) (omega arith) in
          let whole : m + (n - m) ≡ n = omega arith in
          gather_turn f p n q (omega arith)
          ∙ ap (λ (part : List ℕ). before part (gather f (card_with B N image) (block_list head size) (range (p + m) (n - m))))
          (run g s p m (omega arith) (omega arith) (omega arith))
          ∙ ap (before (span byte p m)) (ih (p + m) (n - m) (omega arith) (omega arith))
          ∙ ap Bytes (sym (span_add byte p m (n - m)) ∙ ap (span byte p) whole)

  -- read gives min(room, size - position) bytes of the plain file, none at or past the end
  pub read_sound : (p room : ℕ) → read_in (card_with B N image) (block_list head size) (range p room) ≡ Bytes (take (min room (size - p)) (drop p (bytes B image (block_list head size))))
  unfolding read_in gather
  read_sound p room = go (ltb p size) refl
    where
      go : (t : Bool) → ltb p size ≡ t
          → read_in (card_with B N image) (block_list head size) (range p room) ≡ Bytes (take (min room (size - p)) (drop p (bytes B image (block_list head size))))
      go true e =
          let n = min room (size - p) in
          let r = min-le_right room (size - p) in
          let l = ltb-true p size e in
          gather_sound n p n (omega arith) (omega arith) ∙ ap Bytes (sym (bytes_part g s p n (omega arith)))
      go false e =
          let r = min-le_right room (size - p) in
          let l = ltb-false p size e in
          let z : min room (size - p) ≡ 0 = omega arith in
          ap (λ (n : ℕ). gather n (card_with B N image) (block_list head size) (range p n)) z
          ∙ ap (λ (n : ℕ). Bytes (take n (drop p (bytes B image (block_list head size))))) (sym z)
