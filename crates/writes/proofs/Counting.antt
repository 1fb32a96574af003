-- A write on any list, sound or not, that is not -84: it is -28 exactly if too few good blocks are yet to come. Assumes nothing.
use mathlib.Core.Path.{◌≡◌, refl}
use mathlib.Core.Logic.{◌⊎◌, inl, inr}
use mathlib.Core.Bool.{Bool, true, false}
use mathlib.Core.List.{List}
use Prim.Native.Nat.{ℕ, zero, suc, ◌+◌, ◌-◌, ◌^◌, ◌≤◌, ◌<◌}
use native.Mathlib.Omega.{arith}
use borrow.Author.Tests.{ltb-true, ltb-false, lt-ltb, le-ltb}
use lib.Dec.{ltb}
use lib.ListN.{length}
use Rattle.layout.specs.Layout.{index_at, offset_at}
use Rattle.card.specs.inner.Cards.{CardFacts}
use Rattle.health.specs.Health.{refuses_program}
use Rattle.trials.specs.Loop.{Took, Written, NoRoom, Corrupt, WriteOut}
use Rattle.grow.specs.Extend.{GrowOut}
use Rattle.grow.specs.inner.Grow.{part, grow_of}
use Rattle.old_list.specs.Write.{Job, new, kept, over, looked, wanted, first_head, Look, Found, Lost}
use Rattle.new_block.specs.inner.Fill.{fronted, tailed}
use Rattle.new_list.specs.inner.Write.{filled_of, grown_of, write_of, put_of}
use Rattle.writes.proofs.Fills.{front_card, front_others}
use Rattle.writes.proofs.Widths.{share, room, needs, need}
use Rattle.writes.proofs.Counts.{Only, part_short, store_only, both, Grew, hurt, none, gets, grew}
use Rattle.writes.proofs.Allocators.{Counter}

no_need : (B : ℕ) (j : Job) (s : ℕ) → new j ≤ s → need B j s ≡ 0
unfolding need
no_need B j s h = rw (need, le-ltb s (new j) h)

-- the blocks that are needed while bytes are left to write
pub some_need : (B : ℕ) (j : Job) (s : ℕ) → s < new j → need B j s ≡ index_at B (new j - 1) - index_at B s + 1
unfolding need
some_need B j s h = rw (need, lt-ltb s (new j) h)

-- the tail goes into block k alone
tail_only : (B N k off s n ob e : ℕ) (img : List ℕ) → CardFacts B N (length img) → off + n ≤ B → e - s < n → Only B N k img (tailed B k off s n ob e img)
unfolding tailed
tail_only B N k off s n ob e img c r l =
    store_only B N k (off + (e - s)) (part B ob (off + (e - s)) (n - (e - s)) img) img c (omega (arith, part_short B ob (off + (e - s)) (n - (e - s)) img))

-- a block is filled and the write goes on, or the old block of the tail is not found
fills : {W : Type 0} (look : List ℕ → ℕ → Look) (B N : ℕ) (j : Job) (k off s n : ℕ) (img : List ℕ) (ks : W) (go : List ℕ → WriteOut W) → CardFacts B N (length img) → k < N → off + n ≤ B
    → ((img' : List ℕ) × Only B N k img img' × (filled_of look B j k off s n (fronted B k off s n j.pos j.src img) ks go ≡ go img'))
    ⊎ ((filled_of look B j k off s n (fronted B k off s n j.pos j.src img) ks go).answer ≡ Corrupt)
unfolding filled_of
fills {W} look B N j k off s n img ks go c low r = by (ltb (over j - s) n) refl (look (fronted B k off s n j.pos j.src img) (s + (over j - s))) refl
  where
    fo : Only B N k img (fronted B k off s n j.pos j.src img)
    fo = record { card = front_card B N k off s n j.pos j.src img c low r; others = front_others B N k off s n j.pos j.src img c low r }

    by : (t : Bool) → ltb (over j - s) n ≡ t → (a : Look) → look (fronted B k off s n j.pos j.src img) (s + (over j - s)) ≡ a
        → ((img' : List ℕ) × Only B N k img img' × (filled_of look B j k off s n (fronted B k off s n j.pos j.src img) ks go ≡ go img'))
        ⊎ ((filled_of look B j k off s n (fronted B k off s n j.pos j.src img) ks go).answer ≡ Corrupt)
    by false e a q = inl (fronted B k off s n j.pos j.src img, fo, rw (filled_of, e))
    by true e Lost q = inr (rw (filled_of, e, q))
    by true e (Found ob) q =
        let l : over j - s < n = ltb-true (over j - s) n e in
        inl (
          tailed B k off s n ob (over j) (fronted B k off s n j.pos j.src img),
          both B N k fo (tail_only B N k off s n ob (over j) (fronted B k off s n j.pos j.src img) fo.card r l),
          rw (filled_of, e, q),
        )

module _ {W : Type 0} (look : List ℕ → ℕ → Look) (B N : ℕ) (health : List ℕ) (tries : W → ℕ) (alloc : W → List ℕ → Took W)
    (L : ℕ → Type 0) (Ok : W → List ℕ → Type 0) (goods : W → ℕ) (End : W → List ℕ → Type 0)
    (al : Counter B N health tries alloc L Ok goods End) (j : Job) (fits : new j < 2 ^ 32) where
  -- How a write ends from (w, s) on, on any list: -84; written, and the blocks needed were there; or -28, and they were not.
  pub data Counted (m : ℕ) (w : W) (s : ℕ) (o : WriteOut W) : Type 0 where
    corrupt : o.answer ≡ Corrupt → Counted m w s o
    done : (h n : ℕ) → o.answer ≡ Written h n → need B j s ≤ goods w → Counted m w s o
    full : o.answer ≡ NoRoom → (tries w < m → (goods w < need B j s) × End o.rest o.image) → Counted m w s o

  -- the growth from (w, h, s)
  abbrev next : W → ℕ → ℕ → List ℕ → GrowOut W
  next w h s img = grow_of alloc (suc (tries w)) w health B N h s img

  -- a turn that a blocks were needed for
  turn : (a m : ℕ) (w w₁ : W) (s s₁ : ℕ) (o : WriteOut W) → need B j s ≡ a + need B j s₁ → goods w ≡ a + goods w₁
      → tries w₁ < tries w → Counted m w₁ s₁ o → Counted (suc m) w s o
  turn a m w w₁ s s₁ o n g l (corrupt e) = corrupt e
  turn a m w w₁ s s₁ o n g l (done h z e c) = done h z e (omega arith)
  turn a m w w₁ s s₁ o n g l (full e c) = full e (λ z. let y = c (omega arith) in (omega arith, y.1))

  counting : (m : ℕ) (w : W) (img : List ℕ) (h s : ℕ) → CardFacts B N (length img) → Ok w img → Counted m w s (write_of look tries alloc m health B N j w h s img)
  unfolding write_of grown_of
  counting zero w img h s c ok = full refl (λ z. absurd (omega arith))
  counting (suc m) w img h s c ok = step (ltb s (new j)) refl (counting m)
    where
      step : (x : Bool) → ltb s (new j) ≡ x
          → ((w₁ : W) (img₁ : List ℕ) (h₁ s₁ : ℕ) → CardFacts B N (length img₁) → Ok w₁ img₁ → Counted m w₁ s₁ (write_of look tries alloc m health B N j w₁ h₁ s₁ img₁))
          → Counted (suc m) w s (write_of look tries alloc (suc m) health B N j w h s img)
      step false e ih = rw (write_of, e) (done h s refl (rw (no_need B j s (ltb-false s (new j) e)) (omega arith)))
      step true e ih = grown (grew B N health tries alloc L Ok goods End al h s (omega (arith, ltb-true s (new j) e)) (suc (tries w)) w img c ok)
        where
          grown : Grew B N health tries alloc L Ok goods End al (suc (tries w)) w s (next w h s img)
              → Counted (suc m) w s (write_of look tries alloc (suc m) health B N j w h s img)
          grown (hurt a) = rw (write_of, e, grown_of, a) (corrupt refl)
          grown (none a x) = rw (write_of, e, grown_of, a) (full refl (λ z. let y = x (omega arith) in (omega (arith, some_need B j s (ltb-true s (new j) e)), y.1)))
          grown (gets k g) = health_by (refuses_program health k) refl
            where
              lt : s < new j
              lt = ltb-true s (new j) e

              filled : refuses_program health k ≡ false
                  → ((img' : List ℕ) × Only B N k (next w h s img).image img'
                  × (filled_of look B j k (offset_at B s) s (share B (new j) s) (fronted B k (offset_at B s) s (share B (new j) s) j.pos j.src (next w h s img).image) (next w h s img).rest
                  (λ img'. write_of look tries alloc m health B N j (next w h s img).rest k (s + share B (new j) s) img')
                  ≡ write_of look tries alloc m health B N j (next w h s img).rest k (s + share B (new j) s) img'))
                  ⊎ ((filled_of look B j k (offset_at B s) s (share B (new j) s) (fronted B k (offset_at B s) s (share B (new j) s) j.pos j.src (next w h s img).image) (next w h s img).rest
                  (λ img'. write_of look tries alloc m health B N j (next w h s img).rest k (s + share B (new j) s) img')).answer ≡ Corrupt)
                  → Counted (suc m) w s (write_of look tries alloc (suc m) health B N j w h s img)
              filled q (inr a) = rw (write_of, e, grown_of, g.answer, q) (corrupt a)
              filled q (inl f) =
                  rw (write_of, e, grown_of, g.answer, q, f.2)
                  (turn 1 m w _ s (s + share B (new j) s) _ (omega (arith, needs B c.sized j s lt fits)) (omega (arith, g.good q)) g.fewer
                  (ih _ f.0 k (s + share B (new j) s) f.1.card
                  (al.frame _ _ f.0 g.ok f.1.card (λ k' o' u l. f.1.others k' o' (g.mine k' u) l))))

              health_by : (y : Bool) → refuses_program health k ≡ y → Counted (suc m) w s (write_of look tries alloc (suc m) health B N j w h s img)
              health_by true q =
                  rw (write_of, e, grown_of, g.answer, q)
                  (turn 0 m w _ s s _ (omega arith) (omega (arith, g.spoilt q)) g.fewer (ih _ _ h s g.card g.ok))
              health_by false q =
                  filled q (fills look B N j k (offset_at B s) s (share B (new j) s) (next w h s img).image (next w h s img).rest
                  (λ img'. write_of look tries alloc m health B N j (next w h s img).rest k (s + share B (new j) s) img')
                  g.card g.low (room B c.sized (new j) s lt fits))

  -- THE COUNT. A write of at least one byte, on any list and with any lookup.
  pub counted : (w : W) (img : List ℕ) → CardFacts B N (length img) → Ok w img → Counted (suc (tries w)) w (kept j) (put_of look tries alloc health B N j w img)
  unfolding put_of
  counted w img c ok = go (looked (look img) (wanted B j)) refl
    where
      go : (t : Bool) → looked (look img) (wanted B j) ≡ t → Counted (suc (tries w)) w (kept j) (put_of look tries alloc health B N j w img)
      go false e = rw (put_of, e) (corrupt refl)
      go true e = rw (put_of, e) (counting (suc (tries w)) w img (first_head (look img) (kept j)) (kept j) c ok)
