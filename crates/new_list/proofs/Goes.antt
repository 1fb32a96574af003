-- The loop of a write: what is left to do equals the whole, and each growth lowers the checkpoint count. Assumes nothing.
use mathlib.Core.Path.{◌≡◌, refl, sym, ap, ◌∙◌}
use mathlib.Core.Logic.{◌⊎◌, inl, inr}
use mathlib.Core.List.{List}
use Prim.Native.Nat.{ℕ, suc, ◌+◌, ◌-◌, max, ◌≤◌, ◌<◌}
use native.Mathlib.Omega.{arith}
use lib.ListN.{length}
use Rattle.std.specs.Prelude.{Ok, Err}
use Rattle.layout.specs.Numbers.{size_max}
use Rattle.layout.specs.declared.Refusal.{Refusal}
use Rattle.layout.specs.declared.Refusal.TheVariants as refusal
use Rattle.layout.specs.inner.Served.{block_list}
use Rattle.files.specs.declared.Entry.{Entry}
use Rattle.files.specs.declared.Table.{Table}
use Rattle.window.specs.declared.Lookahead.{Lookahead}
use Rattle.window.specs.declared.Windowed.{Windowed}
use Rattle.window.specs.inner.Facts.{ValidWindow}
use Rattle.trials.specs.Loop.{Writing, Written, Corrupt, WriteOut, write_out}
use Rattle.grow.specs.declared.Failed.TheVariants as failed
use Rattle.grow.specs.Extend.{Growth, grown_at}
use Rattle.grow.specs.inner.Extend.{extend_in, Extending}
use Rattle.grow.specs.inner.Gives.{GrewGives}
use Rattle.grow.proofs.Growing.{Grows, extend_grows}
use Rattle.old_list.specs.Write.{new, job_of}
use Rattle.old_list.specs.inner.Lookups.{look_in}
use Rattle.new_block.specs.inner.Fill.{Filled, fill_of, FillGives, Filling}
use Rattle.new_block.proofs.Fills.{fill_refusal}
use Rattle.new_list.specs.inner.Put.{on_by, on_from, wrote_of, WroteGives, Putting}
use Rattle.new_list.specs.inner.Write.{stopped}
use Rattle.new_list.proofs.Turns as turns

-- window w, the list (h, s) and image img, in the middle of a write from window w₀, the list (h₀, s₀) and image img₀
pub record Rest (B N l : ℕ) (health : List ℕ) (t : Table) (e : Entry) (pos : ℕ) (src : List ℕ) (w₀ : Lookahead) (h₀ s₀ : ℕ) (img₀ : List ℕ)
    (w : Lookahead) (h s : ℕ) (img : List ℕ) : Type 0 where
  pub long : length img ≡ length img₀
  pub valid : ValidWindow w N l
  pub growths : ℕ
  pub left : w.ckpoint < growths
  pub same : on_from B N l health t e pos src w₀ h₀ s₀ img₀ ≡ on_by growths B N l health t e pos src w h s img

pub wrote : {o : WriteOut Lookahead} (a : Writing) (after : List ℕ) (v : Lookahead) → o ≡ write_out a after v
    → WroteGives o (record { answer = wrote_of a; window = v }) after
wrote a after v e = rw e (record { answer = refl; window = refl; image = refl })

module _ {B N l : ℕ} {health : List ℕ} {t : Table} {e : Entry} {pos : ℕ} {src : List ℕ} {w₀ : Lookahead} {img₀ : List ℕ}
    (x : Putting B N l img₀ health t w₀ e pos src) where
  pub rest_start : (h s : ℕ) → Rest B N l health t e pos src w₀ h s img₀ w₀ h s img₀
  rest_start h s = record { long = refl; valid = x.ready.window; growths = suc w₀.ckpoint; left = omega arith; same = refl }

  new_fits : new (job_of e pos src) ≤ size_max
  new_fits = omega (arith, x.most, x.fits)

  -- the new size, as the code has it
  pub loop_new : {y s : ℕ} → y ≡ max e.size (pos + length src) → s < y → s < new (job_of e pos src)
  loop_new f d = omega arith

  pub loop_end : {y s : ℕ} → y ≡ max e.size (pos + length src) → y ≤ s → new (job_of e pos src) ≤ s
  loop_end f d = omega arith

  module _ {h₀ s₀ : ℕ} {w : Lookahead} {h s : ℕ} {img : List ℕ} (r : Rest B N l health t e pos src w₀ h₀ s₀ img₀ w h s img) where
    begun : on_from B N l health t e pos src w₀ h₀ s₀ img₀ ≡ on_by (suc (r.growths - 1)) B N l health t e pos src w h s img
    begun = r.same ∙ ap (λ (m : ℕ). on_by m B N l health t e pos src w h s img) (omega (arith, r.left))

    -- all is written
    pub ends_done : new (job_of e pos src) ≤ s
        → WroteGives (on_from B N l health t e pos src w₀ h₀ s₀ img₀) (record { answer = Ok (block_list h s); window = w }) img
    unfolding on_by
    ends_done d = wrote (Written h s) img w (begun ∙ turns.write_done _ _ _ (r.growths - 1) _ _ _ _ w h s img d)

    module _ (d : s < new (job_of e pos src)) where
      -- a growth may be asked
      pub rest_extends : Extending B N l img health t w s
      rest_extends =
          record {
            ready = record { card = rw r.long x.ready.card; sizes = x.ready.sizes; window = r.valid; table = x.ready.table };
            known = x.known;
            fits = omega (arith, new_fits);
          }

      -- the growth answered
      module _ {g : Windowed Growth} {img₁ : List ℕ} (p : GrewGives (extend_in B N l health t w h s img) g img₁) where
        grows : Grows B N l w.ckpoint (extend_in B N l health t w h s img)
        grows = extend_grows h rest_extends

        -- without a block: -28 or -84
        pub ends_stopped : (q : Refusal) → g.answer ≡ Err q
            → WroteGives (on_from B N l health t e pos src w₀ h₀ s₀ img₀) (record { answer = Err q; window = g.window }) img₁
        unfolding on_by extend_in
        ends_stopped q a = go (grows.refused q (sym p.answer ∙ a))
          where
            by : WroteGives (on_from B N l health t e pos src w₀ h₀ s₀ img₀) (record { answer = wrote_of (stopped q); window = g.window }) img₁
            by =
                wrote (stopped q) img₁ g.window
                (begun ∙ turns.write_stopped _ _ _ (r.growths - 1) _ _ _ _ w h s img d (sym p.window) (sym p.image) q (sym p.answer ∙ a))

            go : (q ≡ refusal.NoSpace) ⊎ (q ≡ refusal.Damaged)
                → WroteGives (on_from B N l health t e pos src w₀ h₀ s₀ img₀) (record { answer = Err q; window = g.window }) img₁
            go (inl n) = rw n (rw n at by)
            go (inr n) = rw n (rw n at by)

        -- the same, of a refusal that is named
        pub ends_named : (q r : Refusal) → g.answer ≡ Err q → q ≡ r
            → WroteGives (on_from B N l health t e pos src w₀ h₀ s₀ img₀) (record { answer = Err r; window = g.window }) img₁
        ends_named q r a n = rw n at (ends_stopped q a)

        valid_on : ValidWindow g.window N l
        valid_on = rw p.window grows.valid

        -- with a block
        module _ {k off : ℕ} (a : g.answer ≡ grown_at k off) where
          pub falls : g.window.ckpoint < w.ckpoint
          falls = rw p.window (grows.falls k off (sym p.answer ∙ a))

          pub rest_fills : length img₁ ≡ length img → Filling B N e pos src k off s img₁ health
          rest_fills n =
              record {
                card = rw (n ∙ r.long) x.ready.card;
                known = x.known;
                most = x.most;
                fits = x.fits;
                block = grows.below k off (sym p.answer ∙ a);
                room = grows.room k off (sym p.answer ∙ a);
                left = d;
                clean = rw p.image (grows.clean k off (sym p.answer ∙ a));
              }

          -- the filling answered
          module _ {f : Filled} {img₂ : List ℕ} (y : FillGives (fill_of (look_in B N e) health B (job_of e pos src) k off s img₁) f img₂) where
            pub ends_lost : (q : Refusal) → f ≡ Err (failed.Refused q)
                → WroteGives (on_from B N l health t e pos src w₀ h₀ s₀ img₀) (record { answer = Err q; window = g.window }) img₂
            unfolding on_by extend_in
            ends_lost q c =
                rw (← fill_refusal _ _ _ _ _ _ _ _ q (sym y.answer ∙ c))
                (wrote Corrupt img₂ g.window
                (begun
                ∙ turns.write_lost _ _ _ (r.growths - 1) _ _ _ _ w h s img d (sym p.window) (sym p.image) (sym p.answer ∙ a) (sym y.image) q (sym y.answer ∙ c)))

            module _ (n : length img₁ ≡ length img) (n₂ : length img₂ ≡ length img₁) where
              pub goes_on : (s' : ℕ) → f ≡ Ok s' → Rest B N l health t e pos src w₀ h₀ s₀ img₀ g.window k s' img₂
              unfolding on_by extend_in
              goes_on s' c =
                  record {
                    long = n₂ ∙ n ∙ r.long;
                    valid = valid_on;
                    growths = r.growths - 1;
                    left = omega (arith, falls, r.left);
                    same = begun
                        ∙ turns.write_goes _ _ _ (r.growths - 1) _ _ _ _ w h s img d (sym p.window) (sym p.image) (sym p.answer ∙ a) (sym y.image) s' (sym y.answer ∙ c);
                  }

              pub moves_on : f ≡ Err failed.Spoiled → Rest B N l health t e pos src w₀ h₀ s₀ img₀ g.window h s img₂
              unfolding on_by extend_in
              moves_on c =
                  record {
                    long = n₂ ∙ n ∙ r.long;
                    valid = valid_on;
                    growths = r.growths - 1;
                    left = omega (arith, falls, r.left);
                    same = begun
                        ∙ turns.write_spoiled _ _ _ (r.growths - 1) _ _ _ _ w h s img d (sym p.window) (sym p.image) (sym p.answer ∙ a) (sym y.image) (sym y.answer ∙ c);
                  }
