-- Only a list's own blocks matter: on another image that holds the same in them the list is sound, with the same blocks, lookups, visit,
-- check, bytes, read and stretch. Assumes nothing.
use mathlib.Core.Path.{◌≡◌, refl, sym, ap, ◌∙◌}
use mathlib.Core.Bool.{Bool, true, false}
use mathlib.Core.List.{List}
use Prim.Native.Nat.{ℕ, ◌+◌, ◌-◌, ◌*◌, ◌<◌, min}
use native.Mathlib.Omega.{arith}
use borrow.Author.Tests.{ltb-true, ltb-false, eqb-true, eqb-false}
use lib.Dec.{ltb, eqb}
use lib.ListN.{length, get_or, take, drop, length-take, length-drop}
use lib.Seq.{ext_get_or}
use Rattle.span.specs.Words.{word_at}
use Rattle.layout.specs.Layout.{index_at, offset_at}
use Rattle.layout.specs.inner.Served.{geometry, block_list}
use Rattle.layout.proofs.Places.{index_mono}
use Rattle.hops.specs.Walk.{hops}
use Rattle.hops.specs.inner.Ways.{way}
use Rattle.card.specs.Card.{good_card, pointer, block_of}
use Rattle.card.specs.inner.Cards.{card_with}
use Rattle.ctz.specs.Lists.{SoundList}
use Rattle.ctz.specs.Lookup.{found_at, lookup_of}
use Rattle.ctz.specs.Visits.{visit_of}
use Rattle.ctz.proofs.Lookups.{lookup_empty, lookup_past}
use Rattle.ctz.proofs.Sounds.{at, over, sound}
use Rattle.audit.specs.Check.{check_of}
use Rattle.plain.specs.Bytes.{bytes}
use Rattle.plain.specs.Reading.{read_in, stretch_in, Bytes}
use Rattle.plain.specs.inner.Forms.{range, GoodList}
use Rattle.plain.proofs.Walks.{Agrees, at_frame, sound_frame}
use Rattle.plain.proofs.Countdowns.{countdown_same}
use Rattle.plain.proofs.Spans.{span_same}
use Rattle.plain.proofs.Finding.{lookup_sound, visit_sound}
use Rattle.plain.proofs.Files.{block_byte}
use Rattle.plain.proofs.Reading.{read_sound, stretch_sound, stretch_past}
use Rattle.plain.proofs.Faults.{check_sound}
use Rattle.plain.proofs.Same.{byte_over, SameBlocks, part_bytes}

-- a block is the same where its bytes are
pub block_same : (image image' : List ℕ) (B k : ℕ) → length image ≡ length image'
    → ((o : ℕ) → o < B → get_or image (k * B + o) 0 ≡ get_or image' (k * B + o) 0) → block_of B image k ≡ block_of B image' k
block_same image image' B k l e =
    ext_get_or 0 (block_of B image k) (block_of B image' k) (simp (length-take, length-drop, l))
    (λ i h.
    let b : i < B = omega (arith, h, length-take B (drop (k * B) image)) in
    block_byte image B k i b ∙ e i b ∙ sym (block_byte image' B k i b))

module _ {image image' : List ℕ} {B head size : ℕ} (a : SameBlocks image image' B head size) where
  abbrev top : ℕ
  top = index_at B (size - 1)

  agrees : 0 < size → Agrees (pointer B image) (pointer B image') head top
  unfolding pointer
  agrees q i x p h l = ap (λ (b : List ℕ). word_at b (x * 4)) (a.block q i h)

  -- the same blocks
  pub frame_at : 0 < size → (i : ℕ) → at (pointer B image') head top i ≡ at (pointer B image) head top i
  frame_at q i = at_frame (pointer B image) (pointer B image') head top (agrees q) i

  -- a sound list
  pub frame_sound : {N : ℕ} → SoundList (card_with B N image) (block_list head size) → SoundList (card_with B N image') (block_list head size)
  frame_sound {N} s = record {
    null = s.null;
    list = λ h. sound (sound_frame (pointer B image) (pointer B image') head top (agrees h) N (over (s.list h)));
  }

  -- a card that is not refused
  pub frame_good : {N : ℕ} → GoodList B N image size → GoodList B N image' size
  frame_good {N} g = record { good = ap (good_card (geometry B N)) (sym a.long) ∙ g.good; fits = g.fits }

  -- the same plain file
  pub frame_bytes : bytes B image' (block_list head size) ≡ bytes B image (block_list head size)
  unfolding bytes
  frame_bytes =
      span_same (byte_over image' B head top) (byte_over image B head top) 0 0 size
      (λ i h.
      ap (λ (k : ℕ). get_or (block_of B image' k) (offset_at B (0 + i)) 0) (frame_at (omega arith) (index_at B (0 + i)))
      ∙ ap (λ (b : List ℕ). get_or b (offset_at B (0 + i)) 0)
      (sym (a.block (omega arith) (index_at B (0 + i)) (index_mono B (0 + i) (size - 1) (omega arith)))))

  module _ {N : ℕ} (g : GoodList B N image size) (s : SoundList (card_with B N image) (block_list head size)) where
    -- the same answer to every lookup, refusals too
    pub frame_lookup : (p : ℕ) → lookup_of (card_with B N image') (block_list head size) p ≡ lookup_of (card_with B N image) (block_list head size) p
    frame_lookup p = go (eqb size 0) refl (ltb p size) refl
      where
        go : (e : Bool) → eqb size 0 ≡ e → (t : Bool) → ltb p size ≡ t → lookup_of (card_with B N image') (block_list head size) p ≡ lookup_of (card_with B N image) (block_list head size) p
        go true e t q =
            let z = eqb-true size 0 e in
            sym (lookup_empty B N image' head size p (frame_good g).good g.fits z) ∙ lookup_empty B N image head size p g.good g.fits z
        go false e false q =
            let z = eqb-false size 0 e in
            let h = ltb-false p size q in
            sym (lookup_past B N image' head size p (frame_good g).good g.fits z h) ∙ lookup_past B N image head size p g.good g.fits z h
        go false e true q =
            let h = ltb-true p size q in
            lookup_sound (frame_good g) (frame_sound s) p h
            ∙ ap (λ (k : ℕ). found_at k (offset_at B p) (hops (way top (index_at B p)))) (frame_at (omega arith) (index_at B p))
            ∙ sym (lookup_sound g s p h)

    -- the same visit
    pub frame_visit : visit_of (card_with B N image') (block_list head size) ≡ visit_of (card_with B N image) (block_list head size)
    unfolding visit_of
    frame_visit = go (eqb size 0) refl
      where
        go : (e : Bool) → eqb size 0 ≡ e → visit_of (card_with B N image') (block_list head size) ≡ visit_of (card_with B N image) (block_list head size)
        go true e = rw (visit_of, e)
        go false e =
            let h : 0 < size = omega (arith, eqb-false size 0 e) in
            visit_sound (frame_good g) (frame_sound s) h
            ∙ ap (λ (l : List ℕ). record { handed = l; clean = true }) (countdown_same _ _ top (λ j l. frame_at h j))
            ∙ sym (visit_sound g s h)

    -- the same answer of the list check
    pub frame_check : check_of (card_with B N image') (block_list head size) ≡ check_of (card_with B N image) (block_list head size)
    frame_check = check_sound head (frame_good g) (frame_sound s) ∙ sym (check_sound head g s)

    -- the same bytes of every read
    pub frame_read : (p room : ℕ) → read_in (card_with B N image') (block_list head size) (range p room) ≡ read_in (card_with B N image) (block_list head size) (range p room)
    frame_read p room =
        read_sound (frame_good g) (frame_sound s) p room
        ∙ ap (λ (l : List ℕ). Bytes (take (min room (size - p)) (drop p l))) frame_bytes ∙ sym (read_sound g s p room)

    -- and of every stretch
    pub frame_stretch : (p : ℕ) → part_bytes image' (stretch_in (card_with B N image') (block_list head size) p) ≡ part_bytes image (stretch_in (card_with B N image) (block_list head size) p)
    frame_stretch p = go (ltb p size) refl
      where
        go : (t : Bool) → ltb p size ≡ t → part_bytes image' (stretch_in (card_with B N image') (block_list head size) p) ≡ part_bytes image (stretch_in (card_with B N image) (block_list head size) p)
        go true e =
            let h = ltb-true p size e in
            stretch_sound (frame_good g) (frame_sound s) p h
            ∙ ap (λ (l : List ℕ). take (min (B - offset_at B p) (size - p)) (drop p l)) frame_bytes ∙ sym (stretch_sound g s p h)
        go false e =
            let h = ltb-false p size e in
            ap (part_bytes image') (stretch_past image' B N head size p h) ∙ sym (ap (part_bytes image) (stretch_past image B N head size p h))
