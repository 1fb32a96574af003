-- One turn of a write: a growth whose block is filled with its share of the file keeps what stands between growths. Assumes nothing.
use mathlib.Core.Path.{◌≡◌, refl, sym, ap, ◌∙◌, subst}
use mathlib.Core.Logic.{◌≢◌, ◌⊎◌, inl, inr}
use mathlib.Core.Bool.{Bool, true, false}
use mathlib.Core.List.{List}
use Prim.Native.Nat.{ℕ, suc, ◌+◌, ◌-◌, ◌^◌, ◌≤◌, ◌<◌, min, max}
use native.Mathlib.Omega.{arith}
use borrow.Author.Tests.{eqb-true, eqb-false}
use lib.Dec.{eqb}
use lib.ListN.{length, get_or-eq_default}
use Rattle.layout.specs.Layout.{start, index_at, offset_at}
use Rattle.layout.specs.inner.Served.{BlockSized}
use Rattle.layout.proofs.Places.{offset_past, index_mono}
use Rattle.layout.proofs.InBlock.{InBlock}
use Rattle.card.specs.inner.Cards.{CardFacts}
use Rattle.trials.specs.Loop.{Took}
use Rattle.grow.specs.Extend.{GrowOut}
use Rattle.old_list.specs.Write.{Job, new, kept, over, Look, Found}
use Rattle.new_block.specs.inner.Fill.{fronted}
use Rattle.writes.proofs.Cells.{pointer_same, cell, byte_by, bytes_by}
use Rattle.writes.proofs.Index.{offset_is, roomy}
use Rattle.writes.proofs.Holds.{either, byte_at, moves, byte_moves, bytes_length, bytes_at_lem, Holds}
use Rattle.writes.proofs.Grown.{Made, earlier, grown, grown_old, grown_new, put_same, put_other, put}
use Rattle.writes.proofs.Grows.{Growing, Got}
use Rattle.writes.proofs.Fills.{Filled, front_others, front_card}
use Rattle.writes.proofs.Plain.{over_low, over_mid, over_high}
use Rattle.writes.proofs.Widths as widths
use Rattle.writes.proofs.Widths.{share}
use Rattle.writes.proofs.States.{want, Begin, Between, stood, known}
use Rattle.writes.proofs.Allocators.{Stays, Allocator, MustStand}

module _ {W : Type 0} (look : List ℕ → ℕ → Look) (B N : ℕ) (health : List ℕ) (tries : W → ℕ) (alloc : W → List ℕ → Took W)
    (L : ℕ → Type 0) (Ok : W → List ℕ → List ℕ → Type 0)
    (al : Allocator B N tries alloc L Ok)
    (j : Job) (img₀ : List ℕ) (f₀ : ℕ → ℕ) (b : Begin look B N j L img₀ f₀) (w₀ : W) (out img : List ℕ) (f : ℕ → ℕ) (h s : ℕ)
    (st : Between B N j L Ok img₀ f₀ w₀ out img f h s) (o : GrowOut W)
    (g : Growing B N health tries alloc L Ok al out img f s o)
    (k : ℕ) (w : Got B N health tries alloc L Ok al out img f s o g.out' k) (more : s < new j) where
  abbrev i : ℕ
  i = index_at B s

  abbrev off : ℕ
  off = offset_at B s

  abbrev wd : ℕ
  wd = share B (new j) s

  sized : BlockSized B
  sized = st.card.sized

  s32 : s < 2 ^ 32
  s32 = st.holds.short

  is : InBlock B s i
  is = widths.is B sized (new j) s more b.fits

  -- the block has room for its share
  pub room : offset_at B s + share B (new j) s ≤ B
  room = widths.room B sized (new j) s more b.fits

  ends : s + wd ≤ start B (suc i)
  ends = widths.ends B sized (new j) s more b.fits

  within : s + wd ≤ new j
  within = widths.within B sized (new j) s more b.fits

  fits' : s + wd < 2 ^ 32
  fits' = omega (arith, within, b.fits)

  -- the listed blocks stand
  frame : Stays B L img₀ o.image
  frame = stood B N health tries alloc L Ok al j img₀ f₀ w₀ out img f h s st o g

  -- the tail's block, on the image as it stands, is that of the old list
  abbrev front : List ℕ
  front = fronted B k off s wd j.pos j.src o.image

  -- so a lookup of the tail finds it, and it is not the new block
  pub tail_block : over j - s < share B (new j) s
      → (f₀ (index_at B s) < N) × (k ≢ f₀ (index_at B s)) × (look front (s + (over j - s)) ≡ Found (f₀ (index_at B s)))
  tail_block t =
      let e = over j in
      let ol : s + (e - s) < j.old = old_of j.old e s (B - off) t in
      let u : start B i < j.old = omega (arith, is.from) in
      let m : (k' : ℕ) → L k' → k ≢ k' = λ k' v. w.mine k' (inl v) in
      let ix : index_at B (s + (e - s)) ≡ i = widths.index_at_lem B sized (new j) s more b.fits (s + (e - s)) (omega arith) (omega arith) in
      let a : Stays B L img₀ front = λ k' o' v l.
      (front_others B N k off s wd j.pos j.src o.image g.card w.low room k' o' (m k' v) l ∙ frame k' o' v l) in
      let c : CardFacts B N (length front) = front_card B N k off s wd j.pos j.src o.image g.card w.low room in
      (b.holds.low i u, m (f₀ i) (b.clear i u), b.looks front c a (s + (e - s)) ol ∙ ap (λ (z : ℕ). Found (f₀ z)) ix)
    where
      old_of : (ol e s r : ℕ) → e - s < min (max ol e - s) r → s + (e - s) < ol
      old_of ol e s r t = omega arith

  module _ (img' : List ℕ) (fl : Filled B N j o.image img' k off s wd (f₀ i)) where
    -- the block as the growth made it, and filled
    made : Made B w.mid img' f k i s
    made = record {
      others = λ k' o' ne l. fl.others k' o' ne l ∙ w.made.others k' o' ne l;
      heads = λ x l.
          pointer_same B o.image img' k k x (omega (arith, roomy B sized s i s32 is.from))
          (λ o' u v. fl.before o' (omega (arith, offset_past B s))) ∙ w.made.heads x l;
      front = λ p l m.
          fl.before (offset_at B p)
          (omega (arith, is.until, offset_is B sized s i s32 is.from is.until, offset_is B sized p i (omega (arith, s32)) l (omega (arith, is.until))))
          ∙ w.made.front p l m;
    }

    kin : (i' o' : ℕ) → start B i' < s → o' < B → cell B w.mid (f i') o' ≡ cell B img (f i') o'
    kin i' o' u l = w.before (f i') o' (st.clear i' u) l

    hm : Holds B N w.mid f s
    hm = moves B N sized img w.mid f s st.holds kin

    free : (i' : ℕ) → start B i' < s → k ≢ f i'
    free i' u = w.mine (f i') (st.clear i' u)

    -- what stands in the new part is what the plain file has there
    new_byte : (d : ℕ) → d < wd → cell B img' k (off + d) ≡ want B j img₀ f₀ (s + d)
    new_byte d l = go (either (s + d) j.pos) (either (s + d) (over j))
      where
        xs : List ℕ
        xs = bytes_by B img₀ f₀ j.old

        lx : length xs ≡ j.old
        lx = bytes_length B img₀ f₀ j.old

        past_of : (p ol s d : ℕ) → min p ol ≤ s → s + d < p → ol ≤ s + d
        past_of p ol s d a c = omega arith

        below_of : (ol e s d r : ℕ) → d < min (max ol e - s) r → e ≤ s + d → s + d < ol
        below_of ol e s d r a c = omega arith

        go : (s + d < j.pos) ⊎ (j.pos ≤ s + d) → (s + d < over j) ⊎ (over j ≤ s + d) → cell B img' k (off + d) ≡ want B j img₀ f₀ (s + d)
        go (inl a) c =
            fl.gap d l a ∙ sym (over_low xs j.pos j.src (s + d) a
            ∙ get_or-eq_default xs 0 (rw lx (past_of j.pos j.old s d st.from a)))
        go (inr a) (inl c) = fl.data_at d l a c ∙ sym (over_mid xs j.pos j.src (s + d) a c)
        go (inr a) (inr c) =
            let q : s + d < j.old = below_of j.old (over j) s d (B - off) l c in
            let e : offset_at B (s + d) ≡ off + d =
            widths.offset_at_lem B sized (new j) s more b.fits (s + d) (omega arith) (omega arith) ∙ ap (λ (z : ℕ). off + z) (omega arith) in
            let ie : index_at B (s + d) ≡ i = widths.index_at_lem B sized (new j) s more b.fits (s + d) (omega arith) (omega arith) in
            let u : start B i < j.old = omega (arith, is.from) in
            fl.tail d l c ∙ frame (f₀ i) (off + d) (b.clear i u) (omega (arith, room))
            ∙ sym (over_high xs j.pos j.src (s + d) a c ∙ bytes_at_lem B img₀ f₀ j.old (s + d) q ∙ byte_at B img₀ f₀ (s + d) i (off + d) ie e)

    -- After the turn the list is one block longer, and is again the front of the file to be.
    pub turned : Between B N j L Ok img₀ f₀ o.rest g.out' img' (put f (index_at B s) k) k (s + share B (new j) s)
    turned = record {
      card = fl.card;
      ok = al.frame o.rest g.out' o.image img' g.ok fl.card (λ k' o' u l. fl.others k' o' (w.mine k' (inl u)) l);
      holds = grown B N sized w.mid img' f s k i hm refl w.low free made (s + wd) fits' ends;
      top = λ z. ap (put f i k) (widths.last_index B sized (new j) s more b.fits) ∙ put_same f i k;
      clear = λ i' u. clear_at i' u (eqb i' i) refl;
      stays = λ k' o' u l. fl.others k' o' (w.mine k' (inl u)) l ∙ frame k' o' u l;
      reads = λ p l. read_at p l (either p s);
      from = omega (arith, st.from);
      until = within;
      old_ones = λ i' l. put_other f i k i' (λ e. omega (arith, e, index_mono B (kept j) s st.from)) ∙ st.old_ones i' l;
      new_ones = λ i' q l u k' v. new_at i' l u k' v (eqb i' i) refl;
    }
      where
        before : (i' : ℕ) → start B i' < s + wd → i' ≢ i → (i' < i) × (start B i' < s)
        before i' u ne = earlier B N sized w.mid img' f s k i hm refl w.low free made (s + wd) i' ends u ne

        clear_at : (i' : ℕ) → start B i' < s + wd → (t : Bool) → eqb i' i ≡ t → MustStand L g.out' (put f i k i')
        clear_at i' u true e = subst (λ (z : ℕ). MustStand L g.out' z) (sym (ap (put f i k) (eqb-true i' i e) ∙ put_same f i k)) (inr w.fresh)
        clear_at i' u false e =
            subst (λ (z : ℕ). MustStand L g.out' z) (sym (put_other f i k i' (eqb-false i' i e)))
            (known B N health tries alloc L Ok al j img₀ f₀ w₀ out img f h s st o g (st.clear i' (before i' u (eqb-false i' i e)).1))

        read_at : (p : ℕ) → p < s + wd → (p < s) ⊎ (s ≤ p) → byte_by B img' (put f i k) p ≡ want B j img₀ f₀ p
        read_at p l (inl a) =
            grown_old B N sized w.mid img' f s k i hm refl w.low free made p a ∙ byte_moves B N sized img w.mid f s s32 kin p a ∙ st.reads p a
        read_at p l (inr a) =
            let e : s + (p - s) ≡ p = omega arith in
            grown_new B N sized w.mid img' f s k i hm refl w.low free made p a (omega (arith, ends)) (omega (arith, fits'))
            ∙ ap (cell B img' k) (widths.offset_at_lem B sized (new j) s more b.fits p a l) ∙ new_byte (p - s) (omega arith) ∙ ap (want B j img₀ f₀) e

        new_at : (i' : ℕ) → index_at B (kept j) ≤ i' → start B i' < s + wd → (k' : ℕ) → L k' → (t : Bool) → eqb i' i ≡ t → put f i k i' ≢ k'
        new_at i' l u k' v true e q =
            w.mine k' (inl v) (sym (ap (put f i k) (eqb-true i' i e) ∙ put_same f i k) ∙ q)
        new_at i' l u k' v false e q =
            let m = before i' u (eqb-false i' i e) in
            st.new_ones i' (later (index_mono B s (kept j)) (either (kept j) s) l m.0) l m.1 k' v (sym (put_other f i k i' (eqb-false i' i e)) ∙ q)
          where
            later : (s ≤ kept j → i ≤ index_at B (kept j)) → (kept j < s) ⊎ (s ≤ kept j) → index_at B (kept j) ≤ i' → i' < i → kept j < s
            later r (inl a) x y = a
            later r (inr a) x y = absurd (omega (arith, r a))
