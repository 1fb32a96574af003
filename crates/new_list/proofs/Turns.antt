-- A write's growths turn by turn, over any lookup and allocator. Assumes nothing.
use mathlib.Core.Path.{◌≡◌, refl, ◌∙◌}
use mathlib.Core.Bool.{Bool, true, false}
use mathlib.Core.List.{List}
use Prim.Native.Nat.{ℕ, suc, ◌+◌, ◌-◌, ◌≤◌, ◌<◌}
use borrow.Author.Tests.{lt-ltb, le-ltb}
use lib.Dec.{ltb}
use Rattle.std.specs.Prelude.{Ok, Err}
use Rattle.layout.specs.declared.Refusal.{Refusal}
use Rattle.health.specs.Health.{refuses_program}
use Rattle.trials.specs.Loop.{Took, Written, Corrupt, WriteOut, write_out}
use Rattle.grow.specs.declared.Failed.TheVariants as failed
use Rattle.grow.specs.Extend.{grown_at}
use Rattle.grow.specs.inner.Grow.{grow_of}
use Rattle.old_list.specs.Write.{Job, new, over, Look}
use Rattle.new_block.specs.inner.Fill.{FillOut, share, tail_of, fill_of, fronted}
use Rattle.new_block.proofs.Fills.{fill_refused, fill_goes}
use Rattle.new_list.specs.inner.Write.{filled_of, stopped, grown_of, write_of}

-- what follows the filling of a block: the size so far, another block, or -84
abbrev pub on_fill : {W : Type 0} → FillOut → (ℕ → List ℕ → WriteOut W) → (List ℕ → WriteOut W) → W → WriteOut W
on_fill o goes again w =
    elim o.answer [
      | Ok s ↦ goes s o.image
      | Err f ↦ elim f [ failed.Spoiled ↦ again o.image | failed.Refused r ↦ write_out Corrupt o.image w ]
    ]

module _ {W : Type 0} (look : List ℕ → ℕ → Look) (tries : W → ℕ) (alloc : W → List ℕ → Took W) (m : ℕ) (health : List ℕ) (B N : ℕ) (j : Job)
    (w : W) (h s : ℕ) (img : List ℕ) where
  pub write_done : new j ≤ s → write_of look tries alloc (suc m) health B N j w h s img ≡ write_out (Written h s) img w
  unfolding write_of
  write_done l = rw (write_of, le-ltb s (new j) l)

  module _ (l : s < new j) {w₁ : W} {img₁ : List ℕ} (er : (grow_of alloc (suc (tries w)) w health B N h s img).rest ≡ w₁)
      (ei : (grow_of alloc (suc (tries w)) w health B N h s img).image ≡ img₁) where
    pub write_stopped : (r : Refusal) → (grow_of alloc (suc (tries w)) w health B N h s img).answer ≡ Err r
        → write_of look tries alloc (suc m) health B N j w h s img ≡ write_out (stopped r) img₁ w₁
    unfolding write_of grown_of
    write_stopped r e = rw (write_of, lt-ltb s (new j) l, grown_of, e, er, ei)

    module _ {k off : ℕ} (e : (grow_of alloc (suc (tries w)) w health B N h s img).answer ≡ grown_at k off) where
      spoiled_turn : refuses_program health k ≡ true
          → write_of look tries alloc (suc m) health B N j w h s img ≡ write_of look tries alloc m health B N j w₁ h s img₁
      unfolding write_of grown_of
      spoiled_turn p = rw (write_of, lt-ltb s (new j) l, grown_of, e, p, er, ei)

      filled_turn : refuses_program health k ≡ false
          → write_of look tries alloc (suc m) health B N j w h s img
          ≡ filled_of look B j k off s (share B j off s) (fronted B k off s (share B j off s) j.pos j.src img₁) w₁
          (λ i. write_of look tries alloc m health B N j w₁ k (s + share B j off s) i)
      unfolding write_of grown_of
      filled_turn p = rw (write_of, lt-ltb s (new j) l, grown_of, e, p, er, ei)

      -- the tail, as the filling of the block has it
      tail_turn : (i : List ℕ) → filled_of look B j k off s (share B j off s) i w₁ (λ i. write_of look tries alloc m health B N j w₁ k (s + share B j off s) i)
          ≡ on_fill (tail_of look B k off s (share B j off s) (over j) i) (λ s' i. write_of look tries alloc m health B N j w₁ k s' i) (λ i. write_of look tries alloc m health B N j w₁ h s i) w₁
      unfolding filled_of tail_of
      tail_turn i = go (ltb (over j - s) (share B j off s)) refl (look i (s + (over j - s))) refl
        where
          go : (x : Bool) → ltb (over j - s) (share B j off s) ≡ x → (y : Look) → look i (s + (over j - s)) ≡ y
              → filled_of look B j k off s (share B j off s) i w₁ (λ i. write_of look tries alloc m health B N j w₁ k (s + share B j off s) i)
              ≡ on_fill (tail_of look B k off s (share B j off s) (over j) i) (λ s' i. write_of look tries alloc m health B N j w₁ k s' i) (λ i. write_of look tries alloc m health B N j w₁ h s i) w₁
          go false x y f = rw (filled_of, tail_of, x)
          go true x (Look.Found ob) f = rw (filled_of, tail_of, x, f)
          go true x Look.Lost f = rw (filled_of, tail_of, x, f)

      fills : write_of look tries alloc (suc m) health B N j w h s img
          ≡ on_fill (fill_of look health B j k off s img₁) (λ s' i. write_of look tries alloc m health B N j w₁ k s' i) (λ i. write_of look tries alloc m health B N j w₁ h s i) w₁
      fills = go (refuses_program health k) refl
        where
          go : (x : Bool) → refuses_program health k ≡ x
              → write_of look tries alloc (suc m) health B N j w h s img
              ≡ on_fill (fill_of look health B j k off s img₁) (λ s' i. write_of look tries alloc m health B N j w₁ k s' i) (λ i. write_of look tries alloc m health B N j w₁ h s i) w₁
          go true p = rw (fill_refused look health B j k off s img₁ p) (spoiled_turn p)
          go false p = rw (fill_goes look health B j k off s img₁ p) (filled_turn p ∙ tail_turn _)

      module _ {img₂ : List ℕ} (ef : (fill_of look health B j k off s img₁).image ≡ img₂) where
        pub write_goes : (s' : ℕ) → (fill_of look health B j k off s img₁).answer ≡ Ok s'
            → write_of look tries alloc (suc m) health B N j w h s img ≡ write_of look tries alloc m health B N j w₁ k s' img₂
        write_goes s' f = fills ∙ rw (f, ef)

        pub write_spoiled : (fill_of look health B j k off s img₁).answer ≡ Err failed.Spoiled
            → write_of look tries alloc (suc m) health B N j w h s img ≡ write_of look tries alloc m health B N j w₁ h s img₂
        write_spoiled f = fills ∙ rw (f, ef)

        pub write_lost : (r : Refusal) → (fill_of look health B j k off s img₁).answer ≡ Err (failed.Refused r)
            → write_of look tries alloc (suc m) health B N j w h s img ≡ write_out Corrupt img₂ w₁
        write_lost r f = fills ∙ rw (f, ef)
