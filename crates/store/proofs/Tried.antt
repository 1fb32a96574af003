-- One block of the nested write and of the loop: it takes all, or refuses its first program. Assumes nothing.
use mathlib.Core.Path.{◌≡◌, refl, sym, ap, ◌∙◌}
use mathlib.Core.Logic.{◌⊎◌, inl, inr}
use mathlib.Core.Bool.{Bool, true, false}
use mathlib.Core.List.{List, [], ◌++◌, append-nil}
use Prim.Native.Nat.{ℕ, suc, ◌+◌, ◌-◌, ◌^◌, ◌<◌, min}
use native.Mathlib.Omega.{arith}
use borrow.Author.Tests.{ltb-true}
use lib.Dec.{ltb}
use lib.ListN.{length, take, length-append, length-take}
use Rattle.layout.specs.Layout.{offset_at}
use Rattle.layout.specs.inner.Served.{BlockSized}
use Rattle.card.specs.inner.Cards.{CardFacts}
use Rattle.health.specs.Health.{refuses_erase, refuses_program}
use Rattle.device.specs.Device.{stored, wiped}
use Rattle.device.specs.inner.Bounds.{spot}
use Rattle.device.proofs.Frame.{stored_length, wiped_length}
use Rattle.trials.specs.Trial.{Trial, Ending, Whole, Fault, ends, more, whole, taken_by}
use Rattle.trials.specs.Loop.{Block, Flash, Plan, Corrupt, WriteOut, write_out, write_by, Candidate}
use Rattle.trials.proofs.Laws.{at, taken_all, taken_none, taken_empty, whole_law, refused_law, fault_law, try_at}
use Rattle.grow.specs.Growth.{offset, growth}
use Rattle.grow.specs.Extend.{grown_at, GrowOut, grow_out}
use Rattle.grow.specs.inner.Grow.{part, link_of}
use Rattle.grow.proofs.Pointed.{given}
use Rattle.grow.proofs.Growths.{offset_le, link_nested, growth_length, growth_first, growth_ends}
use Rattle.old_list.specs.Write.{Job, Look, Found, Lost, over, new, lead, ahead, width, tail, trial_of, plan_of}
use Rattle.new_block.specs.inner.Fill.{fronted}
use Rattle.new_list.specs.inner.Write.{filled_of, grown_of, write_of}
use Rattle.store.proofs.Parts.{length_ahead, trial_whole, trial_stops, tail_none, tail_lost, tail_found}
use Rattle.store.proofs.Fronts.{front_nested, tail_nested, front_length, first_offset, first_width}

module _ {W : Type 0} (look : List ℕ → ℕ → Look) (tries : W → ℕ) (c : Flash W) (j : Job) (fits : new j < 2 ^ 32) where
  -- the nested write, and the loop
  abbrev pub nested : ℕ → ℕ → ℕ → List ℕ → W → WriteOut W
  nested m h s img w = write_of look tries c.alloc m c.health c.B c.N j w h s img

  abbrev pub plan : Plan
  plan = plan_of look c.B j

  abbrev pub looped : ℕ → ℕ → ℕ → List ℕ → W → WriteOut W
  looped m h s img w = write_by c plan m (at h s img w)

  -- what the nested write does behind a growth
  unfoldable pub after : ℕ → ℕ → ℕ → GrowOut W → WriteOut W
  after m h s o =
      grown_of o (λ k off.
      elim (refuses_program c.health k) [
        | true ↦ nested m h s o.image o.rest
        | false ↦
            filled_of look c.B j k off s (min (new j - s) (c.B - off))
            (fronted c.B k off s (min (new j - s) (c.B - off)) j.pos j.src o.image)
            o.rest
            (λ img'. nested m k (s + min (new j - s) (c.B - off)) img' o.rest)
      ])

  after_good : (m h s k off : ℕ) (i : List ℕ) (w : W) → refuses_program c.health k ≡ false
      → after m h s (grow_out (grown_at k off) i w) ≡ filled_of look c.B j k off s (min (new j - s) (c.B - off))
      (fronted c.B k off s (min (new j - s) (c.B - off)) j.pos j.src i) w (λ img'. nested m k (s + min (new j - s) (c.B - off)) img' w)
  unfolding after grown_of
  after_good m h s k off i w r = rw (after, grown_of, r) refl

  pub after_bad : (m h s k off : ℕ) (i : List ℕ) (w : W) → refuses_program c.health k ≡ true → after m h s (grow_out (grown_at k off) i w) ≡ nested m h s i w
  unfolding after grown_of
  after_bad m h s k off i w r = rw (after, grown_of, r) refl

  stored_card : (k : ℕ) (vs img : List ℕ) → CardFacts c.B c.N (length img) → CardFacts c.B c.N (length (stored c.B (wiped c.B img k) (spot k 0) vs))
  stored_card k vs img d = rw (stored_length c.B k 0 vs (wiped c.B img k), wiped_length c.B k img) d

  -- what follows, where both writes go on alike
  abbrev pub Goes : ℕ → ℕ → W → Type 0
  Goes m m' w = (h s : ℕ) (img : List ℕ) → CardFacts c.B c.N (length img) → nested m h s img w ≡ looped m' h s img w

  module _ (m m' h s : ℕ) (img : List ℕ) (w w' : W) (k : ℕ) (card : CardFacts c.B c.N (length img)) (lt : ltb s (new j) ≡ true)
      (e : c.alloc w img ≡ Block k w') (f : refuses_erase c.health k ≡ false) where
    abbrev pub q : Candidate
    q = try_at c.B c.N k h s

    abbrev pub wimg : List ℕ
    wimg = wiped c.B img k

    abbrev pub t : Trial
    t = trial_of look j q wimg

    small : s < 2 ^ 32
    small = omega (arith, ltb-true s (new j) lt)

    wcard : CardFacts c.B c.N (length wimg)
    wcard = rw (wiped_length c.B k img) card

    -- a good block
    module _ (r : refuses_program c.health k ≡ false) (ih : Goes m m' w') where
      takes : taken_by (refuses_program c.health k) t ≡ t
      takes = rw r (taken_all t)

      filled_law : (g : List ℕ) → growth q wimg ≡ whole g → length g ≡ offset q
          → filled_of look c.B j k (offset q) s (width c.B j s) (stored c.B wimg (spot k 0) (g ++ take (width c.B j s) (ahead j s))) w'
          (λ img'. nested m k (s + width c.B j s) img' w') ≡ looped (suc m') h s img w
      unfolding filled_of
      filled_law g eg lg = by (ltb (lead j s) (width c.B j s)) refl
        where
          -- growth, gap and data, and the image with them
          fs : List ℕ
          fs = g ++ take (width c.B j s) (ahead j s)

          i : List ℕ
          i = stored c.B wimg (spot k 0) fs

          te : t ≡ more fs (tail look j q i)
          te = trial_whole look j q wimg g eg

          found : ltb (lead j s) (width c.B j s) ≡ true → (l : Look) → look i (s + lead j s) ≡ l
              → filled_of look c.B j k (offset q) s (width c.B j s) i w' (λ img'. nested m k (s + width c.B j s) img' w') ≡ looped (suc m') h s img w
          found x Lost y =
              let u : t ≡ record { bytes = fs; ending = Fault } =
              te ∙ ap (more fs) (tail_lost look j q i x y) ∙ ap (λ (b : List ℕ). record { bytes = b; ending = Fault }) (append-nil fs) in
              rw (filled_of, x, y) (sym (fault_law c plan m' h s img w w' lt k e f fs (takes ∙ u)))
          found x (Found b) y =
              let v = part c.B b (offset q + lead j s) (width c.B j s - lead j s) i in
              let u : t ≡ whole (fs ++ v) = te ∙ ap (more fs) (tail_found look j q i b (offset_le c.B c.N k h card.sized s small) x y) in
              let l : length fs ≡ offset q + lead j s =
              length-append g (take (width c.B j s) (ahead j s))
              ∙ front_length (length g) (offset q) (lead j s) (width c.B j s) (ahead j s) lg (length_ahead j s) (ltb-true (lead j s) (width c.B j s) x) in
              rw (filled_of, x, y, tail_nested c.B k (offset q) s (width c.B j s) b j fs wimg l)
              (ih k (s + width c.B j s) (stored c.B wimg (spot k 0) (fs ++ v)) (stored_card k (fs ++ v) img card)
              ∙ sym (whole_law c plan m' h s img w w' lt k e f (fs ++ v) (takes ∙ u)))

          by : (x : Bool) → ltb (lead j s) (width c.B j s) ≡ x
              → filled_of look c.B j k (offset q) s (width c.B j s) i w' (λ img'. nested m k (s + width c.B j s) img' w') ≡ looped (suc m') h s img w
          by false x =
              let u : t ≡ whole fs = te ∙ ap (more fs) (tail_none look j q i x) ∙ ap whole (append-nil fs) in
              rw (filled_of, x)
              (ih k (s + width c.B j s) i (stored_card k fs img card)
              ∙ sym (whole_law c plan m' h s img w w' lt k e f fs (takes ∙ u)))
          by true x = found x (look i (s + lead j s)) refl

      pub link_good : after m h s (link_of c.B c.N k h s wimg w') ≡ looped (suc m') h s img w
      unfolding after grown_of
      link_good = ap (after m h s) (link_nested c.B c.N k h card.sized w' wimg s small) ∙ by (growth_ends q wimg)
        where
          by : ((growth q wimg).ending ≡ Whole) ⊎ ((growth q wimg).ending ≡ Fault) → after m h s (given q (offset q) 0 (growth q wimg) wimg w') ≡ looped (suc m') h s img w
          by (inl x) =
              let g = (growth q wimg).bytes in
              let eg : growth q wimg ≡ whole g = ap (λ (y : Ending). record { bytes = (growth q wimg).bytes; ending = y }) x in
              let lg = growth_length c.B c.N k h card.sized wimg wcard s small x in
              ap (λ (t : Trial). after m h s (given q (offset q) 0 t wimg w')) eg
              ∙ after_good m h s k (offset q) (stored c.B wimg (spot k 0) g) w' r
              ∙ rw (front_nested c.B k (offset q) s (width c.B j s) j g wimg lg) (filled_law g eg lg)
          by (inr x) =
              let g = (growth q wimg).bytes in
              let eg : growth q wimg ≡ record { bytes = g; ending = Fault } = ap (λ (y : Ending). record { bytes = (growth q wimg).bytes; ending = y }) x in
              let u : t ≡ record { bytes = g; ending = Fault } = trial_stops look j q wimg x ∙ eg in
              ap (λ (t : Trial). after m h s (given q (offset q) 0 t wimg w')) eg
              ∙ sym (fault_law c plan m' h s img w w' lt k e f g (takes ∙ u))

    -- ---- a block that refuses its first program

    module _ (bad : refuses_program c.health k ≡ true) where
      -- it has a byte to refuse: erased, it stands as it is
      pub refuses : 0 < length t.bytes → looped (suc m') h s img w ≡ looped m' h s wimg w'
      refuses l = refused_law c plan m' h s img w w' lt k e f (rw bad (taken_none t l))

      -- it has none, and a fault
      pub loses : t ≡ ends Fault → looped (suc m') h s img w ≡ write_out Corrupt wimg w'
      unfolding stored
      loses z = fault_law c plan m' h s img w w' lt k e f [] (rw (bad, z) (taken_empty Fault))

      -- behind a list with a head there is one
      pub trial_some : 0 < length (growth q wimg).bytes → 0 < length t.bytes
      trial_some l = by (growth_ends q wimg)
        where
          by : ((growth q wimg).ending ≡ Whole) ⊎ ((growth q wimg).ending ≡ Fault) → 0 < length t.bytes
          by (inl x) =
              let g = (growth q wimg).bytes in
              let fs = g ++ take (width c.B j s) (ahead j s) in
              let eg : growth q wimg ≡ whole g = ap (λ (y : Ending). record { bytes = (growth q wimg).bytes; ending = y }) x in
              let u = trial_whole look j q wimg g eg in
              rw u (omega (arith, length-append fs (tail look j q (stored c.B wimg (spot k 0) fs)).bytes, length-append g (take (width c.B j s) (ahead j s))))
          by (inr x) = rw (trial_stops look j q wimg x) l

  -- in the first block it is a byte of the gap or of the data
  pub first_some : (h k : ℕ) (img : List ℕ) → BlockSized c.B → 0 < over j → 0 < length (trial_of look j (try_at c.B c.N k h 0) img).bytes
  first_some h k img z o =
      let q₀ = try_at c.B c.N k h 0 in
      let fs = [] ++ take (width c.B j 0) (ahead j 0) in
      let u = trial_whole look j q₀ img [] (growth_first c.B c.N k h z img) in
      let n : length (take (width c.B j 0) (ahead j 0)) ≡ min (width c.B j 0) (lead j 0) =
      length-take (width c.B j 0) (ahead j 0) ∙ ap (min (width c.B j 0)) (length_ahead j 0) in
      let d = first_width c.B (new j) (over j) (offset_at c.B 0) (first_offset c.B) (omega (arith, z.least)) o (omega arith) in
      rw u (omega (arith, n, d, length-append fs (tail look j q₀ (stored c.B img (spot k 0) fs)).bytes))
