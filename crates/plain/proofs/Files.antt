-- The plain file of a sound list: its length, and where each of its bytes lies. Assumes nothing.
use mathlib.Core.Path.{◌≡◌, sym, ap, ◌∙◌, subst}
use mathlib.Core.List.{List}
use Prim.Native.Nat.{ℕ, ◌+◌, ◌-◌, ◌*◌, ◌≤◌, ◌<◌}
use native.Mathlib.Nat.{zero-add, add_assoc}
use native.Mathlib.Omega.{arith}
use lib.ListN.{length, get_or, take, drop}
use Rattle.span.proofs.Parts.{get_d_part}
use Rattle.layout.specs.Layout.{index_at, offset_at}
use Rattle.layout.specs.inner.Served.{block_list}
use Rattle.layout.proofs.Places.{index_mono, offset_inside}
use Rattle.card.specs.Card.{pointer, block_of}
use Rattle.card.specs.inner.Cards.{card_with}
use Rattle.card.proofs.Cards.{block_inside}
use Rattle.ctz.specs.Lists.{SoundList}
use Rattle.ctz.specs.Lookup.{found_at, lookup_of}
use Rattle.ctz.proofs.Sounds.{at, over, sound}
use Rattle.plain.specs.Bytes.{span, bytes}
use Rattle.plain.specs.inner.Forms.{GoodList}
use Rattle.plain.proofs.Walks.{at_cut, cut_sound}
use Rattle.plain.proofs.Spans.{length_span, get_d_span, span_same, take_span, part_span, span_part}
use Rattle.plain.proofs.Indexes.{index_le, in_block, within, card_of_lem, run_index, run_offset}
use Rattle.plain.proofs.Finding.{lookup_block, lookup_offset}
use Rattle.plain.proofs.Same.{byte_over}

-- a byte of a block, in the image
pub block_byte : (image : List ℕ) (B k o : ℕ) → o < B → get_or (block_of B image k) o 0 ≡ get_or image (k * B + o) 0
block_byte image B k o h = get_d_part (k * B) B image o 0 h

module _ {B N : ℕ} {image : List ℕ} {head size : ℕ} (g : GoodList B N image size) (s : SoundList (card_with B N image) (block_list head size)) where
  abbrev top : ℕ
  top = index_at B (size - 1)

  abbrev blk : ℕ → ℕ
  blk i = at (pointer B image) head top i

  abbrev byte : ℕ → ℕ
  byte p = byte_over image B head top p

  -- the plain file is as long as the size says
  pub bytes_length : length (bytes B image (block_list head size)) ≡ size
  unfolding bytes
  bytes_length = length_span byte 0 size

  -- byte p is that of the position's block at its offset
  pub bytes_at_lem : (p : ℕ) → p < size → get_or (bytes B image (block_list head size)) p 0 ≡ byte p
  unfolding bytes
  bytes_at_lem p h = get_d_span byte 0 size p h ∙ ap byte (zero-add p)

  -- a part of the plain file is a run of its bytes
  pub bytes_part : (p m : ℕ) → p + m ≤ size → take m (drop p (bytes B image (block_list head size))) ≡ span byte p m
  unfolding bytes
  bytes_part p m h = part_span byte p m size h

  -- byte p, by its place in the image
  pub byte_image : (p : ℕ) → p < size → get_or (bytes B image (block_list head size)) p 0 ≡ get_or image (blk (index_at B p) * B + offset_at B p) 0
  byte_image p h =
      bytes_at_lem p h ∙ block_byte image B (blk (index_at B p)) (offset_at B p) (offset_inside B p (in_block g p (omega arith)))

  -- byte p is what stands at the place that a lookup answers
  pub byte_found : (p k o h : ℕ) → p < size → lookup_of (card_with B N image) (block_list head size) p ≡ found_at k o h
      → get_or (bytes B image (block_list head size)) p 0 ≡ get_or image (k * B + o) 0
  byte_found p k o h l e =
      byte_image p l ∙ ap (λ (x : ℕ). get_or image (x * B + offset_at B p) 0) (lookup_block g s p k o h l e)
      ∙ ap (λ (x : ℕ). get_or image (k * B + x) 0) (lookup_offset g s p k o h l e)

  -- m bytes of one block, from the place of position p on, are the plain file's from p on
  pub run : (p m : ℕ) → p < size → p + m ≤ size → offset_at B p + m ≤ B
      → take m (drop (blk (index_at B p) * B + offset_at B p) image) ≡ span byte p m
  run p m h l r =
      let k = blk (index_at B p) in
      span_part image (k * B + offset_at B p) m
      (omega (arith, block_inside {k = k} (card_of_lem g) ((s.list (omega arith)).below (index_at B p) (index_le B size p h))))
      ∙ span_same (λ (i : ℕ). get_or image i 0) byte (k * B + offset_at B p) p m
      (λ i q.
      let ix = run_index B p i (within g (p + i) (omega arith)) (omega arith) in
      let of = run_offset B p i (within g (p + i) (omega arith)) (omega arith) in
      ap (λ (j : ℕ). get_or image j 0) (add_assoc (k * B) (offset_at B p) i)
      ∙ sym (block_byte image B k (offset_at B p + i) (omega arith))
      ∙ sym (ap (λ (j : ℕ). get_or (block_of B image (blk j)) (offset_at B (p + i)) 0) ix ∙ ap (λ (o : ℕ). get_or (block_of B image k) o 0) of))

  -- ---- shrinking to t bytes
  module _ (t : ℕ) (some : 0 < t) (le : t ≤ size) where
    abbrev cut : ℕ
    cut = index_at B (t - 1)

    -- the list that ends at the block of the last kept byte is sound
    pub shrink_sound : SoundList (card_with B N image) (block_list (blk cut) t)
    shrink_sound = record {
      null = λ e. absurd (omega arith);
      list = λ h. sound (cut_sound (over (s.list (omega arith))) cut (index_le B size (t - 1) (omega arith)));
    }

    -- and its plain file is the front of the old one
    pub shrink_bytes : bytes B image (block_list (blk cut) t) ≡ take t (bytes B image (block_list head size))
    unfolding bytes
    shrink_bytes =
        span_same (byte_over image B (blk cut) cut) byte 0 0 t
        (λ i h.
        ap (λ (k : ℕ). get_or (block_of B image k) (offset_at B (0 + i)) 0)
        (at_cut (pointer B image) head top (index_at B (0 + i)) cut (index_mono B (0 + i) (t - 1) (omega arith))
        (index_le B size (t - 1) (omega arith))))
        ∙ sym (take_span byte 0 t size le)

    -- truncate takes the block of the last kept byte as head: both hold for the block that a lookup answers
    pub shrink_found : (k o h : ℕ) → lookup_of (card_with B N image) (block_list head size) (t - 1) ≡ found_at k o h
        → SoundList (card_with B N image) (block_list k t) × (bytes B image (block_list k t) ≡ take t (bytes B image (block_list head size)))
    shrink_found k o h e =
        subst (λ (b : ℕ). SoundList (card_with B N image) (block_list b t) × (bytes B image (block_list b t) ≡ take t (bytes B image (block_list head size))))
        (lookup_block g s (t - 1) k o h (omega arith) e) (shrink_sound, shrink_bytes)
