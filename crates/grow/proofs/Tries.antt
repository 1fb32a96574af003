-- A try with one block, and what it makes of the growth: it ends there, or moves on.
use mathlib.Core.Path.{◌≡◌, refl, sym, ap, ◌∙◌}
use mathlib.Core.Bool.{Bool, true, false}
use mathlib.Core.List.{List}
use Prim.Native.Nat.{ℕ, suc}
use native.Mathlib.Omega.{arith}
use borrow.Author.Tests.{ne_eqb}
use lib.ListN.{get_or}
use Rattle.std.specs.Prelude.{Ok, Err}
use Rattle.health.specs.Health.{refuses_erase}
use Rattle.device.specs.Device.{wiped}
use Rattle.device.specs.inner.Steps.{Answer, done, refused, erase_of, StepGives}
use Rattle.device.proofs.Steps.{told_done, told_refused}
use Rattle.window.proofs.Cases.{no_both}
use Rattle.trials.specs.Loop.{Took, Block}
use Rattle.grow.specs.declared.Failed.TheVariants as failed
use Rattle.grow.specs.Extend.{Growth, grow_out}
use Rattle.grow.specs.inner.Attempt.{Tried, tried_of, LinkOut, LinkGives, attempt_of, try_of}
use Rattle.grow.specs.inner.Grow.{link_of, spoils, grow_of}
use Rattle.grow.proofs.Links.{link_rest}
use Rattle.grow.proofs.Spoils.{spoils_stored}
use Rattle.grow.proofs.Turns.{grow_kept, grow_spoiled, grow_linked}

module _ (health : List ℕ) (B N k head s : ℕ) (img : List ℕ) where
  -- r is the device's answer to the erase, img' the image that it left
  module _ {r : Answer} {img' : List ℕ} (g : StepGives (erase_of health B k img) r img') where
    pub try_kept : r ≡ refused → try_of health B N k head s img ≡ record { answer = Err failed.Spoiled; image = img' }
    unfolding try_of
    try_kept e =
        let t = told_refused (refuses_erase health k) img (wiped B img k) (sym g.answer ∙ e) in
        rw (try_of, t.0, g.image, t.1)

    pub try_wiped : r ≡ done → try_of health B N k head s img ≡ attempt_of health B N k head s img'
    unfolding try_of
    try_wiped e =
        let t = told_done (refuses_erase health k) img (wiped B img k) (sym g.answer ∙ e) in
        rw (try_of, t.0, g.image, t.1)

  -- the two ways of a try, with what each says of the growth
  pub data TryView (o : LinkOut) : Type 0 where
    kept : refuses_erase health k ≡ true → o ≡ record { answer = Err failed.Spoiled; image = img } → TryView o
    spoiled : refuses_erase health k ≡ false → spoils health N k head s ≡ true
        → o ≡ record { answer = Err failed.Spoiled; image = wiped B img k } → TryView o
    linked : refuses_erase health k ≡ false → spoils health N k head s ≡ false
        → o ≡ record { answer = tried_of (link_of B N k head s (wiped B img k) (tt {0})).answer; image = (link_of B N k head s (wiped B img k) (tt {0})).image }
        → TryView o

  pub try_view : TryView (try_of health B N k head s img)
  unfolding try_of attempt_of
  try_view = go (refuses_erase health k) refl (spoils health N k head s) refl
    where
      go : (x : Bool) → refuses_erase health k ≡ x → (y : Bool) → spoils health N k head s ≡ y → TryView (try_of health B N k head s img)
      go true e y f = kept e (rw (try_of, e))
      go false e true f = spoiled e f (rw (try_of, e, attempt_of, f))
      go false e false f = linked e f (rw (try_of, e, attempt_of, f))

not_spoiled : (a : Growth) → tried_of a ≡ Err failed.Spoiled → ⊥
not_spoiled (Ok g) e = let z : ◌≡◌ {A = ℕ} 0 1 = cc in omega arith
not_spoiled (Err r) e = let z : ◌≡◌ {A = ℕ} 0 1 = cc in omega arith

-- two growths that a try answers alike are one
same_growth : (a b : Growth) → tried_of a ≡ tried_of b → a ≡ b
same_growth (Ok g) (Ok h) e = let i : g ≡ h = cc in ap Ok i
same_growth (Ok g) (Err q) e = let z : ◌≡◌ {A = ℕ} 0 1 = cc in absurd (omega arith)
same_growth (Err r) (Ok h) e = let z : ◌≡◌ {A = ℕ} 0 1 = cc in absurd (omega arith)
same_growth (Err r) (Err q) e = let i : r ≡ q = cc in ap Err i

spoiled_done : {o : LinkOut} {img : List ℕ} (a : Growth) → o ≡ record { answer = Err failed.Spoiled; image = img } → o.answer ≡ tried_of a → ⊥
spoiled_done a e d = not_spoiled a (sym d ∙ ap (λ (x : LinkOut). x.answer) e)

done_spoiled : {o : LinkOut} {img : List ℕ} (a : Growth) → o ≡ record { answer = tried_of a; image = img } → o.answer ≡ Err failed.Spoiled → ⊥
done_spoiled a e d = not_spoiled a (sym (ap (λ (x : LinkOut). x.answer) e) ∙ d)

-- a good block refuses nothing
pub good_takes : (health : List ℕ) (B N k head s : ℕ) (img : List ℕ) {r : Tried} {img' : List ℕ} → get_or health k 0 ≡ 0
    → LinkGives (try_of health B N k head s img) r img' → r ≡ Err failed.Spoiled → ⊥
good_takes health B N k head s img z g d = go (try_view health B N k head s img) (sym g.answer ∙ d)
  where
    go : TryView health B N k head s img (try_of health B N k head s img) → (try_of health B N k head s img).answer ≡ Err failed.Spoiled → ⊥
    go (kept f q) d = no_both _ f (ne_eqb (get_or health k 0) 1 (λ o. omega (arith, z, o)))
    go (spoiled f p q) d = no_both _ p (spoils_stored health N k head s (ne_eqb (get_or health k 0) 2 (λ o. omega (arith, z, o))))
    go (linked f p q) d = done_spoiled _ q d

module _ {W : Type 0} (alloc : W → List ℕ → Took W) (m : ℕ) (w w' : W) (health : List ℕ) (B N head s : ℕ) (img : List ℕ)
    (k : ℕ) (e : alloc w img ≡ Block k w') {r : Tried} {img' : List ℕ} (g : LinkGives (try_of health B N k head s img) r img') where
  -- the growth ends with the try's answer
  pub grow_done : (a : Growth) → r ≡ tried_of a → grow_of alloc (suc m) w health B N head s img ≡ grow_out a img' w'
  grow_done a d = go (try_view health B N k head s img) (sym g.answer ∙ d)
    where
      go : TryView health B N k head s img (try_of health B N k head s img) → (try_of health B N k head s img).answer ≡ tried_of a
          → grow_of alloc (suc m) w health B N head s img ≡ grow_out a img' w'
      go (kept f q) d = absurd (spoiled_done a q d)
      go (spoiled f p q) d = absurd (spoiled_done a q d)
      go (linked f p q) d =
          let y : (link_of B N k head s (wiped B img k) (tt {0})).answer ≡ a = same_growth _ a (sym (ap (λ (x : LinkOut). x.answer) q) ∙ d) in
          let z : img' ≡ (link_of B N k head s (wiped B img k) (tt {0})).image = g.image ∙ ap (λ (x : LinkOut). x.image) q in
          grow_linked alloc m w w' health B N head s img k e f p ∙ rw (z, ← y) (link_rest B N k head s (wiped B img k) w' (tt {0}))

  -- the block refused: another try
  pub grow_moves : r ≡ Err failed.Spoiled → grow_of alloc (suc m) w health B N head s img ≡ grow_of alloc m w' health B N head s img'
  grow_moves d = go (try_view health B N k head s img) (sym g.answer ∙ d)
    where
      go : TryView health B N k head s img (try_of health B N k head s img) → (try_of health B N k head s img).answer ≡ Err failed.Spoiled
          → grow_of alloc (suc m) w health B N head s img ≡ grow_of alloc m w' health B N head s img'
      go (kept f q) d =
          let z : img' ≡ img = g.image ∙ ap (λ (x : LinkOut). x.image) q in
          rw z (grow_kept alloc m w w' health B N head s img k e f)
      go (spoiled f p q) d =
          let z : img' ≡ wiped B img k = g.image ∙ ap (λ (x : LinkOut). x.image) q in
          rw z (grow_spoiled alloc m w w' health B N head s img k e f p)
      go (linked f p q) d = absurd (done_spoiled _ q d)
