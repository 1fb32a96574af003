-- What fills a new block: the gap's zeros, the data, and the tail of the old file. Assumes nothing.
use mathlib.Core.Path.{◌≡◌, refl, ap, ◌∙◌}
use mathlib.Core.Logic.{◌≢◌, inl}
use mathlib.Core.Bool.{Bool, true, false}
use mathlib.Core.List.{List}
use Prim.Native.Nat.{ℕ, ◌+◌, ◌-◌, ◌≤◌, ◌<◌, min}
use native.Mathlib.Omega.{arith}
use borrow.Author.Tests.{ltb-true, ltb-false}
use lib.Dec.{ltb}
use lib.ListN.{length, get_or, take, drop, length-replicate, get_or-replicate, length-take, length-drop}
use lib.Seq.{get_or-take, get_or-drop}
use Rattle.card.specs.inner.Cards.{CardFacts}
use Rattle.device.specs.Device.{stored}
use Rattle.device.specs.inner.Bounds.{spot}
use Rattle.trials.specs.Loop.{WriteOut}
use Rattle.grow.specs.inner.Grow.{part}
use Rattle.old_list.specs.Write.{Job, over, zeros, Look, Found}
use Rattle.new_block.specs.inner.Fill.{fronted, tailed}
use Rattle.new_list.specs.inner.Write.{filled_of}
use Rattle.writes.proofs.Cells.{stored_card, stored_other, stored_out, stored_in_lem, part_length, part_at, cell}

below_min : (x a b : ℕ) → x < a → x < b → x < min a b
below_min x a b h g = omega arith

data_within : (d s pos n : ℕ) → pos ≤ s + d → s + d < pos + n → d - (pos - s) < n - (s - pos)
data_within d s pos n g u = omega arith

module _ (B N k off s w pos : ℕ) (src img : List ℕ) (c : CardFacts B N (length img)) (low : k < N) (room : off + w ≤ B) where
  abbrev gap : ℕ
  gap = min (pos - s) w

  abbrev zs : List ℕ
  zs = zeros (min (pos - s) w)

  abbrev vs : List ℕ
  vs = take (w - min (pos - s) w) (drop (s - pos) src)

  abbrev img₁ : List ℕ
  img₁ = stored B img (spot k off) zs

  abbrev img₂ : List ℕ
  img₂ = fronted B k off s w pos src img

  lz : length zs ≡ gap
  lz = length-replicate {A = ℕ} gap 0

  lv : length vs ≡ min (w - gap) (length src - (s - pos))
  lv = length-take (w - gap) (drop (s - pos) src) ∙ ap (min (w - gap)) (length-drop (s - pos) src)

  fit : off + gap + length vs ≤ B
  fit = omega (arith, lv)

  c₁ : CardFacts B N (length img₁)
  c₁ = stored_card B k off zs img N c

  -- it is a card as before
  pub front_card : CardFacts B N (length img₂)
  unfolding fronted
  front_card = stored_card B k (off + gap) vs img₁ N c₁

  -- other blocks stand
  pub front_others : (k' o : ℕ) → k ≢ k' → o < B → cell B img₂ k' o ≡ cell B img k' o
  unfolding fronted
  front_others k' o ne l = stored_other B k (off + gap) vs img₁ fit k' o ne l ∙ stored_other B k off zs img (omega (arith, lz)) k' o ne l

  -- what the block held before offset off stands
  front_before : (o : ℕ) → o < off → cell B img₂ k o ≡ cell B img k o
  unfolding fronted
  front_before o l = stored_out B k (off + gap) vs img₁ o (inl (omega arith)) ∙ stored_out B k off zs img o (inl l)

  -- positions before the write's are zeros
  front_gap : (d : ℕ) → d < w → s + d < pos → cell B img₂ k (off + d) ≡ 0
  unfolding fronted
  front_gap d l g =
      let dg : d < gap = omega arith in
      stored_out B k (off + gap) vs img₁ (off + d) (inl (omega arith))
      ∙ stored_in_lem B k off zs img N c low (omega (arith, lz)) d (omega (arith, lz)) ∙ get_or-replicate {A = ℕ} gap d 0 0 dg

  -- positions of the write are its bytes
  front_data : (d : ℕ) → d < w → pos ≤ s + d → s + d < pos + length src → cell B img₂ k (off + d) ≡ get_or src (s + d - pos) 0
  unfolding fronted
  front_data d l g u =
      let ge : gap ≡ pos - s = omega arith in
      let e : off + gap + (d - gap) ≡ off + d = omega arith in
      let e' : s - pos + (d - gap) ≡ s + d - pos = omega arith in
      let a : d - gap < w - gap = omega arith in
      let b : d - gap < length src - (s - pos) = rw ge (data_within d s pos (length src) g u) in
      let r : cell B img₂ k (off + gap + (d - gap)) ≡ get_or vs (d - gap) 0 =
      stored_in_lem B k (off + gap) vs img₁ N c₁ low fit (d - gap) (rw lv (below_min (d - gap) (w - gap) (length src - (s - pos)) a b)) in
      (rw e at r) ∙ get_or-take (w - gap) (drop (s - pos) src) (d - gap) 0 (omega arith) ∙ get_or-drop (s - pos) src (d - gap) 0 ∙ ap (λ (x : ℕ). get_or src x 0) e'

module _ (B N k off s w ob e : ℕ) (img : List ℕ) (c : CardFacts B N (length img)) (low : k < N) (lob : ob < N) (room : off + w ≤ B) (some : e - s < w) where
  abbrev ts : List ℕ
  ts = part B ob (off + (e - s)) (w - (e - s)) img

  abbrev img₃ : List ℕ
  img₃ = tailed B k off s w ob e img

  lt : length ts ≡ w - (e - s)
  lt = part_length B N ob (off + (e - s)) (w - (e - s)) img c lob (omega arith)

  -- it is a card as before
  tail_card : CardFacts B N (length img₃)
  unfolding tailed
  tail_card = stored_card B k (off + (e - s)) ts img N c

  -- other blocks stand
  tail_others : (k' o : ℕ) → k ≢ k' → o < B → cell B img₃ k' o ≡ cell B img k' o
  unfolding tailed
  tail_others k' o ne l = stored_other B k (off + (e - s)) ts img (omega (arith, lt)) k' o ne l

  -- what stands before the tail stays
  tail_before : (o : ℕ) → o < off + (e - s) → cell B img₃ k o ≡ cell B img k o
  unfolding tailed
  tail_before o l = stored_out B k (off + (e - s)) ts img o (inl l)

  -- positions of the tail are the old block's bytes at the same offsets
  tail_data : (d : ℕ) → d < w → e ≤ s + d → cell B img₃ k (off + d) ≡ cell B img ob (off + d)
  unfolding tailed
  tail_data d l g =
      let q : off + (e - s) + (d - (e - s)) ≡ off + d = omega arith in
      let r : cell B img₃ k (off + (e - s) + (d - (e - s))) ≡ get_or ts (d - (e - s)) 0 =
      stored_in_lem B k (off + (e - s)) ts img N c low (omega (arith, lt)) (d - (e - s)) (omega (arith, lt)) in
      (rw q at r) ∙ part_at B ob (off + (e - s)) (w - (e - s)) img (d - (e - s)) (omega arith) ∙ ap (cell B img ob) q

-- the whole fill of one block
pub record Filled (B N : ℕ) (j : Job) (img img' : List ℕ) (k off s w ob : ℕ) : Type 0 where
  pub card : CardFacts B N (length img')
  pub others : (k' o : ℕ) → k ≢ k' → o < B → cell B img' k' o ≡ cell B img k' o
  pub before : (o : ℕ) → o < off → cell B img' k o ≡ cell B img k o
  pub gap : (d : ℕ) → d < w → s + d < j.pos → cell B img' k (off + d) ≡ 0
  pub data_at : (d : ℕ) → d < w → j.pos ≤ s + d → s + d < over j → cell B img' k (off + d) ≡ get_or j.src (s + d - j.pos) 0
  pub tail : (d : ℕ) → d < w → over j ≤ s + d → cell B img' k (off + d) ≡ cell B img ob (off + d)

-- The definition's fill of a block goes on with an image on which the block is filled, if the tail's old block is found.
pub filling : {W : Type 0} (look : List ℕ → ℕ → Look) (B N : ℕ) (j : Job) (k off s w ob : ℕ) (img : List ℕ) (ks : W) (go : List ℕ → WriteOut W) → CardFacts B N (length img) → k < N → off + w ≤ B
    → (over j - s < w → (ob < N) × (k ≢ ob) × (look (fronted B k off s w j.pos j.src img) (s + (over j - s)) ≡ Found ob))
    → (img' : List ℕ) × Filled B N j img img' k off s w ob × (filled_of look B j k off s w (fronted B k off s w j.pos j.src img) ks go ≡ go img')
unfolding filled_of
filling look B N j k off s w ob img ks go c low room tl = by (ltb (over j - s) w) refl
  where
    by : (t : Bool) → ltb (over j - s) w ≡ t
        → (img' : List ℕ) × Filled B N j img img' k off s w ob × (filled_of look B j k off s w (fronted B k off s w j.pos j.src img) ks go ≡ go img')
    by false e = (
      fronted B k off s w j.pos j.src img,
      record {
        card = front_card B N k off s w j.pos j.src img c low room;
        others = front_others B N k off s w j.pos j.src img c low room;
        before = front_before B N k off s w j.pos j.src img c low room;
        gap = front_gap B N k off s w j.pos j.src img c low room;
        data_at = front_data B N k off s w j.pos j.src img c low room;
        tail = λ d l g. absurd (omega (arith, ltb-false (over j - s) w e));
      },
      rw (filled_of, e),
    )
    by true e =
        let l : over j - s < w = ltb-true (over j - s) w e in
        let t = tl l in
        let img₂ = fronted B k off s w j.pos j.src img in
        let c₂ = front_card B N k off s w j.pos j.src img c low room in
        let en = over j in (
          tailed B k off s w ob en img₂,
          record {
            card = tail_card B N k off s w ob en img₂ c₂ low t.0 room l;
            others = λ k' o ne u. tail_others B N k off s w ob en img₂ c₂ low t.0 room l k' o ne u ∙ front_others B N k off s w j.pos j.src img c low room k' o ne u;
            before = λ o u. tail_before B N k off s w ob en img₂ c₂ low t.0 room l o (omega arith) ∙ front_before B N k off s w j.pos j.src img c low room o u;
            gap = λ d u g. tail_before B N k off s w ob en img₂ c₂ low t.0 room l (off + d) (omega arith) ∙ front_gap B N k off s w j.pos j.src img c low room d u g;
            data_at = λ d u g v. tail_before B N k off s w ob en img₂ c₂ low t.0 room l (off + d) (omega arith) ∙ front_data B N k off s w j.pos j.src img c low room d u g v;
            tail = λ d u g. tail_data B N k off s w ob en img₂ c₂ low t.0 room l d u g ∙ front_others B N k off s w j.pos j.src img c low room ob (off + d) t.1 (omega arith);
          },
          rw (filled_of, e, t.2),
        )
