-- One growth over any allocator: what it leaves, and that on a sound list it is never damaged. Assumes nothing.
use mathlib.Core.Path.{◌≡◌, refl, ◌∙◌}
use mathlib.Core.Logic.{◌≢◌, ◌⊎◌, inl, inr}
use mathlib.Core.Bool.{Bool, true, false}
use mathlib.Core.List.{List, ◌∷◌}
use Prim.Native.Nat.{ℕ, zero, suc, ◌-◌, ◌<◌}
use native.Mathlib.Omega.{arith}
use lib.ListN.{length, replicate, length-replicate}
use Rattle.std.specs.Prelude.{Err}
use Rattle.layout.specs.Layout.{start, index_at, offset_at}
use Rattle.layout.specs.declared.Refusal.TheVariants as refusal
use Rattle.card.specs.inner.Cards.{CardFacts}
use Rattle.health.specs.Health.{refuses_erase}
use Rattle.device.specs.Device.{wiped}
use Rattle.trials.specs.Loop.{Took, Block, None, Bad}
use Rattle.grow.specs.Extend.{grown_at, GrowOut}
use Rattle.grow.specs.inner.Grow.{spoils, grow_of}
use Rattle.writes.proofs.Cells.{stored_card, stored_other, cell}
use Rattle.writes.proofs.Holds.{moves, Holds}
use Rattle.writes.proofs.Grown.{Made}
use Rattle.writes.proofs.Links.{Linked, linked}
use Rattle.writes.proofs.Allocators.{In, Stays, Allotted, Allocator, MustStand}

module _ (B k : ℕ) (img : List ℕ) where
  -- an erase leaves a card
  pub wiped_card : (N : ℕ) → CardFacts B N (length img) → CardFacts B N (length (wiped B img k))
  unfolding wiped
  wiped_card N c = stored_card B k 0 (replicate B 255) img N c

  -- and every other block as it was
  pub wiped_other : (k' o' : ℕ) → k ≢ k' → o' < B → cell B (wiped B img k) k' o' ≡ cell B img k' o'
  unfolding wiped
  wiped_other = stored_other B k 0 (replicate B 255) img (omega (arith, length-replicate {A = ℕ} B 255))

module _ {W : Type 0} (B N : ℕ) (health : List ℕ) (tries : W → ℕ) (alloc : W → List ℕ → Took W)
    (L : ℕ → Type 0) (Ok : W → List ℕ → List ℕ → Type 0)
    (al : Allocator B N tries alloc L Ok) where
  -- a block was grown: k, which was not known; mid is the image after the erases
  pub record Got (out img : List ℕ) (f : ℕ → ℕ) (s : ℕ) (o : GrowOut W) (out' : List ℕ) (k : ℕ) : Type 0 where
    pub answer : o.answer ≡ grown_at k (offset_at B s)
    pub low : k < N
    pub fresh : In k out'
    pub mine : (k' : ℕ) → MustStand L out k' → k ≢ k'
    pub mid : List ℕ
    pub before : Stays B (MustStand L out) img mid
    pub made : Made B mid o.image f k (index_at B s) s

  -- what a growth leaves, made or not; on a sound list it is never damaged
  pub record Growing (out img : List ℕ) (f : ℕ → ℕ) (s : ℕ) (o : GrowOut W) : Type 0 where
    pub out' : List ℕ
    pub card : CardFacts B N (length o.image)
    pub stays : Stays B (MustStand L out) img o.image
    pub ok : Ok o.rest out' o.image
    pub less : (k : ℕ) → In k out → In k out'
    pub end : (o.answer ≡ Err refusal.NoSpace) ⊎ ((k : ℕ) × Got out img f s o out' k)

  module _ (f : ℕ → ℕ) (head s : ℕ) where
    -- a block that was passed
    later : (k : ℕ) (w w' : W) (out img img₁ : List ℕ) (o : GrowOut W) → Allotted N tries L Ok w w' out img k
        → ((k' o' : ℕ) → k ≢ k' → o' < B → cell B img₁ k' o' ≡ cell B img k' o') → Growing (k ∷ out) img₁ f s o → Growing out img f s o
    later k w w' out img img₁ o t e g = record {
      out' = g.out';
      card = g.card;
      stays = λ k' o' u l. g.stays k' o' (known u) l ∙ e k' o' (t.new k' u) l;
      ok = g.ok;
      less = λ k' u. g.less k' (inr u);
      end = go g.end;
    }
      where
        known : {k' : ℕ} → MustStand L out k' → MustStand L (k ∷ out) k'
        known (inl a) = inl a
        known (inr a) = inr (inr a)

        go : (o.answer ≡ Err refusal.NoSpace) ⊎ ((k' : ℕ) × Got (k ∷ out) img₁ f s o g.out' k') → (o.answer ≡ Err refusal.NoSpace) ⊎ ((k' : ℕ) × Got out img f s o g.out' k')
        go (inl a) = inl a
        go (inr q) =
            let v = q.1 in
            inr (
              q.0,
              record {
                answer = v.answer;
                low = v.low;
                fresh = v.fresh;
                mine = λ k' u. v.mine k' (known u);
                mid = v.mid;
                before = λ k' o' u l. v.before k' o' (known u) l ∙ e k' o' (t.new k' u) l;
                made = v.made;
              },
            )

    -- the block that was taken
    taken_one : (k : ℕ) (w w' : W) (out img img₁ : List ℕ) (o : GrowOut W) → Allotted N tries L Ok w w' out img k
        → ((k' o' : ℕ) → k ≢ k' → o' < B → cell B img₁ k' o' ≡ cell B img k' o') → Linked B N w' img₁ f k s o → Growing out img f s o
    taken_one k w w' out img img₁ o t e v = record {
      out' = k ∷ out;
      card = v.card;
      stays = all;
      ok = rw v.rest (al.frame w' (k ∷ out) img o.image t.ok v.card (λ k' o' u l. all k' o' (inl u) l));
      less = λ k' u. inr u;
      end = inr (
        k,
        record {
          answer = v.answer;
          low = t.low;
          fresh = inl refl;
          mine = t.new;
          mid = img₁;
          before = λ k' o' u l. e k' o' (t.new k' u) l;
          made = v.made;
        },
      );
    }
      where
        all : Stays B (MustStand L out) img o.image
        all k' o' u l = v.made.others k' o' (t.new k' u) l ∙ e k' o' (t.new k' u) l

    -- A growth of a sound list takes a block that was not known, or finds none; nothing that was known changes.
    pub growing : (m : ℕ) (w : W) (out img : List ℕ) → CardFacts B N (length img) → Ok w out img → Holds B N img f s → (0 < s → f (index_at B (s - 1)) ≡ head)
        → ((i : ℕ) → start B i < s → MustStand L out (f i)) → Growing out img f s (grow_of alloc m w health B N head s img)
    unfolding grow_of
    growing zero w out img c ok h t cl = record {
      out' = out;
      card = c;
      stays = λ k o u l. refl;
      ok = ok;
      less = λ k u. u;
      end = inl refl;
    }
    growing (suc m) w out img c ok h t cl = by (alloc w img) refl (growing m)
      where
        by : (a : Took W) → alloc w img ≡ a
            → ((w : W) (out img : List ℕ) → CardFacts B N (length img) → Ok w out img → Holds B N img f s → (0 < s → f (index_at B (s - 1)) ≡ head)
            → ((i : ℕ) → start B i < s → MustStand L out (f i)) → Growing out img f s (grow_of alloc m w health B N head s img))
            → Growing out img f s (grow_of alloc (suc m) w health B N head s img)
        by (None w') e ih =
            rw (grow_of, e) (record {
              out' = out;
              card = c;
              stays = λ k o u l. refl;
              ok = al.none w w' out img ok e;
              less = λ k u. u;
              end = inl refl;
            })
        by (Bad w') e ih = absurd (al.never w w' out img ok e)
        by (Block k w') e ih = step (refuses_erase health k) refl (spoils health N k head s) refl
          where
            tk : Allotted N tries L Ok w w' out img k
            tk = al.taken w w' out img k ok e

            ow : (k' o' : ℕ) → k ≢ k' → o' < B → cell B (wiped B img k) k' o' ≡ cell B img k' o'
            ow = wiped_other B k img

            cw : CardFacts B N (length (wiped B img k))
            cw = wiped_card B k img N c

            hw : Holds B N (wiped B img k) f s
            hw = moves B N c.sized img (wiped B img k) f s h (λ i o' u l. ow (f i) o' (tk.new (f i) (cl i u)) l)

            cl' : (i : ℕ) → start B i < s → MustStand L (k ∷ out) (f i)
            cl' i u = known (cl i u)
              where
                known : {k' : ℕ} → MustStand L out k' → MustStand L (k ∷ out) k'
                known (inl a) = inl a
                known (inr a) = inr (inr a)

            step : (x : Bool) → refuses_erase health k ≡ x → (y : Bool) → spoils health N k head s ≡ y
                → Growing out img f s (grow_of alloc (suc m) w health B N head s img)
            step true q y r =
                rw (grow_of, e, q) (later k w w' out img img _ tk (λ k' o' ne l. refl) (ih w' (k ∷ out) img c tk.ok h t cl'))
            step false q true r =
                rw (grow_of, e, q, r)
                (later k w w' out img (wiped B img k) _ tk ow
                (ih w' (k ∷ out) (wiped B img k) cw (al.frame w' (k ∷ out) img (wiped B img k) tk.ok cw (λ k' o' u l. ow k' o' (tk.new k' (inl u)) l)) hw t cl'))
            step false q false r =
                rw (grow_of, e, q, r)
                (taken_one k w w' out img (wiped B img k) _ tk ow
                (linked B N w' f k s tk.low (λ i u. tk.new (f i) (cl i u)) head (wiped B img k) cw hw t s refl))
