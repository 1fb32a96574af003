-- The loop of a growth: what is left to do equals the whole, and the checkpoint count bounds the tries.
use mathlib.Core.Path.{◌≡◌, refl, sym, ap, ◌∙◌}
use mathlib.Core.Logic.{inl, inr}
use mathlib.Core.List.{List}
use Prim.Native.Nat.{ℕ, suc, ◌-◌, ◌<◌}
use native.Mathlib.Omega.{arith}
use lib.ListN.{length}
use Rattle.layout.specs.declared.Refusal.TheVariants as refusal
use Rattle.card.specs.inner.Cards.{CardFacts, card_with}
use Rattle.files.specs.declared.Table.{Table}
use Rattle.layout.specs.declared.Refusal.{Refusal}
use Rattle.std.specs.Prelude.{Ok, Err, Option, Some}
use Rattle.window.specs.declared.Windowed.{Windowed}
use Rattle.window.specs.declared.Lookahead.{Lookahead}
use Rattle.window.specs.Allocate.{take_of, alloc_of, Allocated}
use Rattle.window.specs.inner.Facts.{ValidWindow, scope}
use Rattle.alloc.specs.Visits.{seen_in}
use Rattle.alloc.specs.inner.Facts.{Looking}
use Rattle.alloc.proofs.Turning.{allocating, answers_block}
use Rattle.grow.specs.declared.Failed.TheVariants as failed
use Rattle.grow.specs.Extend.{Growth, GrowOut, grow_out}
use Rattle.grow.specs.inner.Attempt.{Tried, tried_of, try_of, LinkGives, Linking}
use Rattle.grow.specs.inner.Grow.{grow_of}
use Rattle.grow.specs.inner.Extend.{window_alloc, extend_in, Extending}
use Rattle.grow.specs.inner.Gives.{GrewGives}
use Rattle.grow.proofs.Turns.{grow_none, grow_bad}
use Rattle.grow.proofs.Tries.{grow_done, grow_moves}
use Rattle.grow.proofs.Takes.{Outcome, allocated, took_block, took_none, took_bad}

-- window w and image img, in the middle of a growth from window w₀ and image img₀
pub record Rest (B N l : ℕ) (health : List ℕ) (t : Table) (w₀ : Lookahead) (head s : ℕ) (img₀ : List ℕ) (w : Lookahead) (img : List ℕ) : Type 0 where
  pub long : length img ≡ length img₀
  pub valid : ValidWindow w N l
  pub tries : ℕ
  pub left : w.ckpoint < tries
  pub same : extend_in B N l health t w₀ head s img₀ ≡ grow_of (window_alloc B N l t) tries w health B N head s img

pub grew : {o : GrowOut Lookahead} (a : Growth) (after : List ℕ) (v : Lookahead) → o ≡ grow_out a after v
    → GrewGives o (record { answer = a; window = v }) after
grew a after v e = rw e (record { answer = refl; window = refl; image = refl })

-- two outcomes that a definition allows are one
told : {o : GrowOut Lookahead} {r : Windowed Growth} {after : List ℕ} → GrewGives o r after → r ≡ record { answer = o.answer; window = o.rest }
told {o} {r} g =
    ap (λ (x : Growth). record { answer = x; window = r.window }) g.answer
    ∙ ap (λ (x : Lookahead). record { answer = o.answer; window = x }) g.window

pub one_growth : {o : GrowOut Lookahead} {r r' : Windowed Growth} {after after' : List ℕ} → GrewGives o r after → GrewGives o r' after' → (r ≡ r') × (after ≡ after')
one_growth g h = (told g ∙ sym (told h), g.image ∙ sym h.image)

module _ {B N l : ℕ} {health : List ℕ} {t : Table} {w₀ : Lookahead} {s : ℕ} {img₀ : List ℕ} (x : Extending B N l img₀ health t w₀ s) where
  pub rest_start : (head : ℕ) → Rest B N l health t w₀ head s img₀ w₀ img₀
  unfolding extend_in
  rest_start head =
      record { long = refl; valid = x.ready.window; tries = suc w₀.ckpoint; left = omega arith; same = refl }

  -- the window holds a block: the allocation answers it
  pub held : {r : Windowed (Option ℕ)} → r ≡ take_of N w₀ → {k : ℕ} → r.answer ≡ Some k
      → record { answer = Ok k; window = r.window } ≡ alloc_of (scope N l) (seen_in (card_with B N img₀) t) w₀
  held p e = answers_block N l (seen_in (card_with B N img₀) t) w₀ (allocating N l (seen_in (card_with B N img₀) t) w₀ x.ready.window) p e

  module _ {head : ℕ} {w : Lookahead} {img : List ℕ} (r : Rest B N l health t w₀ head s img₀ w img) where
    -- an allocation may be asked, on a card
    pub rest_card : CardFacts B N (length img)
    rest_card = rw r.long x.ready.card

    pub rest_looking : Looking N l t w
    rest_looking = record { sizes = x.ready.sizes; window = r.valid; table = x.ready.table }

    tries_some : r.tries ≡ suc (r.tries - 1)
    tries_some = omega (arith, r.left)

    begun : extend_in B N l health t w₀ head s img₀ ≡ grow_of (window_alloc B N l t) (suc (r.tries - 1)) w health B N head s img
    begun = r.same ∙ ap (λ (m : ℕ). grow_of (window_alloc B N l t) m w health B N head s img) tries_some

    -- the allocation answered
    module _ {a : Allocated} (p : a ≡ alloc_of (scope N l) (seen_in (card_with B N img) t) w) where
      pub outcome : Outcome N l w.ckpoint a
      outcome = rw p (allocated N l (seen_in (card_with B N img) t) w r.valid)

      pub ends_refused : {x : Refusal} → a.answer ≡ Err x
          → GrewGives (extend_in B N l health t w₀ head s img₀) (record { answer = Err x; window = a.window }) img
      ends_refused {x} e =
          elim (outcome.refused x e) [
            | inl n ↦ rw n (grew (Err refusal.NoSpace) img a.window
                (begun ∙ grow_none (window_alloc B N l t) (r.tries - 1) w a.window health B N head s img (took_none B N l t w img p (e ∙ ap Err n))))
            | inr d ↦ rw d (grew (Err refusal.Damaged) img a.window
                (begun ∙ grow_bad (window_alloc B N l t) (r.tries - 1) w a.window health B N head s img (took_bad B N l t w img p (e ∙ ap Err d))))
          ]

      -- with a block
      module _ {k : ℕ} (e : a.answer ≡ Ok k) where
        pub falls : a.window.ckpoint < w.ckpoint
        falls = outcome.falls k e

        pub block_linking : Linking B N k img health
        block_linking = record { card = rest_card; known = x.known; block = outcome.below k e }

        module _ {q : Tried} {img' : List ℕ} (g : LinkGives (try_of health B N k head s img) q img') where
          pub ends_done : (f : Growth) → q ≡ tried_of f
              → GrewGives (extend_in B N l health t w₀ head s img₀) (record { answer = f; window = a.window }) img'
          ends_done f d =
              grew f img' a.window
              (begun ∙ grow_done (window_alloc B N l t) (r.tries - 1) w a.window health B N head s img k (took_block B N l t w img p e) g f d)

          pub moves_on : q ≡ Err failed.Spoiled → length img' ≡ length img → Rest B N l health t w₀ head s img₀ a.window img'
          moves_on d n =
              record {
                long = n ∙ r.long;
                valid = outcome.valid;
                tries = r.tries - 1;
                left = omega (arith, falls, r.left);
                same = begun ∙ grow_moves (window_alloc B N l t) (r.tries - 1) w a.window health B N head s img k (took_block B N l t w img p e) g d;
              }
