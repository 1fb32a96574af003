-- The loop of a write, to its end: all is written, or the blocks ran out; never damaged. Assumes nothing.
use mathlib.Core.Path.{◌≡◌, refl, ap, subst}
use mathlib.Core.Logic.{◌⊎◌, inl, inr}
use mathlib.Core.Bool.{Bool, true, false}
use mathlib.Core.List.{List}
use Prim.Native.Nat.{ℕ, zero, suc, ◌+◌, ◌<◌}
use native.Mathlib.Nat.{le_antisymm}
use borrow.Author.Tests.{ltb-true, ltb-false}
use lib.Dec.{ltb}
use lib.ListN.{length}
use Rattle.std.specs.Prelude.{Err}
use Rattle.layout.specs.Layout.{index_at, offset_at}
use Rattle.layout.specs.declared.Refusal.TheVariants as refusal
use Rattle.card.specs.inner.Cards.{CardFacts}
use Rattle.health.specs.Health.{refuses_program}
use Rattle.trials.specs.Loop.{Took, Written, NoRoom, WriteOut}
use Rattle.grow.specs.Extend.{GrowOut}
use Rattle.grow.specs.inner.Grow.{grow_of}
use Rattle.old_list.specs.Write.{Job, new, Look}
use Rattle.new_list.specs.inner.Write.{grown_of, write_of}
use Rattle.writes.proofs.Grows.{Growing, Got, growing}
use Rattle.writes.proofs.Fills.{filling}
use Rattle.writes.proofs.Widths.{share}
use Rattle.writes.proofs.States.{Begin, Between, stood, passed}
use Rattle.writes.proofs.Turns.{turned, tail_block, room}
use Rattle.writes.proofs.Grown.{put}
use Rattle.writes.proofs.Allocators.{Stays, Allocator}

module _ {W : Type 0} (look : List ℕ → ℕ → Look) (B N : ℕ) (health : List ℕ) (tries : W → ℕ) (alloc : W → List ℕ → Took W)
    (L : ℕ → Type 0) (Ok : W → List ℕ → List ℕ → Type 0)
    (al : Allocator B N tries alloc L Ok) (j : Job) where
  -- the growth from (w, h, s)
  abbrev next : W → ℕ → ℕ → List ℕ → GrowOut W
  next w h s img = grow_of alloc (suc (tries w)) w health B N h s img

  -- How a write ends: all is written, or the blocks ran out.
  pub data Ended (img₀ : List ℕ) (f₀ : ℕ → ℕ) (o : WriteOut W) : Type 0 where
    done : (out : List ℕ) (f : ℕ → ℕ) (h : ℕ) → o.answer ≡ Written h (new j) → Between B N j L Ok img₀ f₀ o.rest out o.image f h (new j) → Ended img₀ f₀ o
    short : (out : List ℕ) → o.answer ≡ NoRoom → CardFacts B N (length o.image) → Ok o.rest out o.image → Stays B L img₀ o.image → Ended img₀ f₀ o

  module _ (img₀ : List ℕ) (f₀ : ℕ → ℕ) (b : Begin look B N j L img₀ f₀) where
    -- from a state between two growths on, the loop ends in one of the two ways
    pub writing : (m : ℕ) (w : W) (out img : List ℕ) (f : ℕ → ℕ) (h s : ℕ) → Between B N j L Ok img₀ f₀ w out img f h s
        → Ended img₀ f₀ (write_of look tries alloc m health B N j w h s img)
    unfolding write_of grown_of
    writing zero w out img f h s st = short out refl st.card st.ok st.stays
    writing (suc m) w out img f h s st = step (ltb s (new j)) refl g.end (writing m)
      where
        g : Growing B N health tries alloc L Ok al out img f s (next w h s img)
        g = growing B N health tries alloc L Ok al f h s (suc (tries w)) w out img st.card st.ok st.holds st.top st.clear

        step : (x : Bool) → ltb s (new j) ≡ x
            → ((next w h s img).answer ≡ Err refusal.NoSpace) ⊎ ((k : ℕ) × Got B N health tries alloc L Ok al out img f s (next w h s img) g.out' k)
            → ((w₁ : W) (out₁ img₁ : List ℕ) (f₁ : ℕ → ℕ) (h₁ s₁ : ℕ) → Between B N j L Ok img₀ f₀ w₁ out₁ img₁ f₁ h₁ s₁
            → Ended img₀ f₀ (write_of look tries alloc m health B N j w₁ h₁ s₁ img₁))
            → Ended img₀ f₀ (write_of look tries alloc (suc m) health B N j w h s img)
        step false e r ih =
            let q : s ≡ new j = le_antisymm st.until (ltb-false s (new j) e) in
            rw (write_of, e)
            (done out f h (ap (Written h) q) (subst (λ (z : ℕ). Between B N j L Ok img₀ f₀ w out img f h z) q st))
        step true e (inl a) ih =
            rw (write_of, e, grown_of, a)
            (short g.out' refl g.card g.ok (stood B N health tries alloc L Ok al j img₀ f₀ w out img f h s st _ g))
        step true e (inr t) ih = health_by (refuses_program health t.0) refl
          where
            v : Got B N health tries alloc L Ok al out img f s (next w h s img) g.out' t.0
            v = t.1

            lt : s < new j
            lt = ltb-true s (new j) e

            health_by : (y : Bool) → refuses_program health t.0 ≡ y → Ended img₀ f₀ (write_of look tries alloc (suc m) health B N j w h s img)
            health_by true q =
                rw (write_of, e, grown_of, v.answer, q)
                (ih _ g.out' _ f h s (passed B N health tries alloc L Ok al j img₀ f₀ w out img f h s st _ g))
            health_by false q =
                let fl = filling look B N j t.0 (offset_at B s) s (share B (new j) s) (f₀ (index_at B s)) (next w h s img).image (next w h s img).rest
                (λ img'. write_of look tries alloc m health B N j (next w h s img).rest t.0 (s + share B (new j) s) img')
                g.card v.low (room look B N health tries alloc L Ok al j img₀ f₀ b w out img f h s st _ g t.0 v lt)
                (tail_block look B N health tries alloc L Ok al j img₀ f₀ b w out img f h s st _ g t.0 v lt) in
                rw (write_of, e, grown_of, v.answer, q, fl.2)
                (ih _ g.out' fl.0 (put f (index_at B s) t.0) t.0 (s + share B (new j) s)
                (turned look B N health tries alloc L Ok al j img₀ f₀ b w out img f h s st _ g t.0 v lt fl.0 fl.1))
