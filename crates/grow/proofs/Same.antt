-- The nested growth is the loop whose plan is the growth alone; so for every input `extend_of` is what the inner functions do. Assumes nothing.
use mathlib.Core.Path.{◌≡◌, refl, sym, ap, ◌∙◌}
use mathlib.Core.Logic.{◌⊎◌, inl, inr}
use mathlib.Core.Bool.{Bool, true, false}
use mathlib.Core.List.{List}
use Prim.Native.Nat.{ℕ, zero, suc, ◌^◌, ◌<◌}
use native.Mathlib.Omega.{arith}
use borrow.Author.Tests.{ltb-true, ltb-false, lt-ltb, le-ltb}
use lib.Dec.{ltb}
use lib.ListN.{length}
use Rattle.layout.specs.declared.Refusal.TheVariants as refusal
use Rattle.layout.specs.Layout.{offset_at}
use Rattle.layout.specs.declared.Refusal.TheVariants as refusal
use Rattle.card.specs.inner.Cards.{CardFacts, card_with}
use Rattle.health.specs.Health.{refuses_erase, refuses_program}
use Rattle.device.specs.Device.{stored, wiped}
use Rattle.device.specs.inner.Bounds.{spot}
use Rattle.device.proofs.Frame.{wiped_length}
use Rattle.files.specs.declared.Table.{Table}
use Rattle.std.specs.Prelude.{Ok, Err}
use Rattle.window.specs.declared.Lookahead.{Lookahead}
use Rattle.window.specs.Allocate.{alloc_of, Answer}
use Rattle.window.specs.inner.Facts.{ValidWindow, scope}
use Rattle.alloc.specs.Visits.{seen_in}
use Rattle.trials.specs.Trial.{Trial, Ending, Whole, Fault, ends, whole, taken_by}
use Rattle.trials.specs.Loop.{Took, Block, None, Bad, Flash, WriteOut, write_by, Candidate}
use Rattle.trials.proofs.Laws.{at, taken_all, taken_none, taken_empty, done_law, none_law, bad_law, passed_law, whole_law, refused_law, fault_law, try_at}
use Rattle.trials.proofs.Falls.{Falls}
use Rattle.grow.specs.Setting.{tested_of}
use Rattle.grow.specs.Growth.{growth}
use Rattle.grow.specs.Extend.{took_of, GrowOut, grow_out, growing, grew_by, extend_of}
use Rattle.grow.specs.inner.Setting.{setting, state}
use Rattle.grow.specs.inner.Grow.{spoils, grow_of}
use Rattle.grow.specs.inner.Extend.{window_alloc, extend_in, extend_tested, Extending}
use Rattle.grow.proofs.Spoils.{spoils_stored, spoils_empty, spoils_damaged, spoils_refused}
use Rattle.grow.proofs.Turns.{grow_none, grow_bad, grow_kept, grow_spoiled, grow_linked}
use Rattle.grow.proofs.Takes.{allocated}
use Rattle.grow.proofs.Tests.{extending}
use Rattle.grow.proofs.Pointed.{given}
use Rattle.grow.proofs.Growths.{link_nested, growth_ends, growth_some, growth_lost, growth_first}

-- ---- the window comes to an end

block_of : {k : ℕ} {w : Lookahead} (a : Answer) (v : Lookahead) → took_of a v ≡ Block k w → (a ≡ Ok k) × (v ≡ w)
block_of (Ok k) v e = (cc, cc)
block_of (Err refusal.NoSpace) v e = absurd (let z : ◌≡◌ {A = ℕ} 0 1 = cc in omega arith)
block_of (Err r) v e = absurd (let z : ◌≡◌ {A = ℕ} 0 1 = cc in omega arith)

pub window_falls : (B N l : ℕ) (t : Table) → Falls (window_alloc B N l t) (λ (w : Lookahead). ValidWindow w N l) (λ (w : Lookahead). w.ckpoint)
unfolding window_alloc
window_falls B N l t =
    record {
      next = λ w w' img k g e.
          let b = block_of (alloc_of (scope N l) (seen_in (card_with B N img) t) w).answer (alloc_of (scope N l) (seen_in (card_with B N img) t) w).window e in
          rw (← b.1) (allocated N l (seen_in (card_with B N img) t) w g).valid;
      less = λ w w' img k g e.
          let b = block_of (alloc_of (scope N l) (seen_in (card_with B N img) t) w).answer (alloc_of (scope N l) (seen_in (card_with B N img) t) w).window e in
          rw (← b.1) ((allocated N l (seen_in (card_with B N img) t) w g).falls k b.0);
    }

-- ---- one growth

module _ {W : Type 0} {Ok : W → Type 0} {tries : W → ℕ} (c : Flash W) (falls : Falls c.alloc Ok tries) (h s : ℕ) (fits : s < 2 ^ 32) where
  abbrev nested : ℕ → List ℕ → W → GrowOut W
  nested n img w = grow_of c.alloc n w c.health c.B c.N h s img

  abbrev looped : ℕ → List ℕ → W → GrowOut W
  looped m img w = grew_by (offset_at c.B s) (write_by c (growing s) m (at h s img w))

  abbrev grown : WriteOut W → GrowOut W
  grown o = grew_by (offset_at c.B s) o

  lt : ltb s (suc s) ≡ true
  lt = lt-ltb s (suc s) (omega arith)

  -- block k is erased, and no byte of the growth is refused
  module _ (n m : ℕ) (img : List ℕ) (w w' : W) (k : ℕ) (card : CardFacts c.B c.N (length img)) (e : c.alloc w img ≡ Block k w')
      (f : refuses_erase c.health k ≡ false) where
    abbrev q : Candidate
    q = try_at c.B c.N k h s

    abbrev wimg : List ℕ
    wimg = wiped c.B img k

    taken : spoils c.health c.N k h s ≡ false → taken_by (refuses_program c.health k) (growth q wimg) ≡ growth q wimg
        → nested (suc n) img w ≡ looped (suc (suc m)) img w
    taken sp ac =
        grow_linked c.alloc n w w' c.health c.B c.N h s img k e f sp
        ∙ link_nested c.B c.N k h card.sized w' wimg s fits
        ∙ by (growth_ends q wimg)
      where
        by : ((growth q wimg).ending ≡ Whole) ⊎ ((growth q wimg).ending ≡ Fault) → given q (offset_at c.B s) 0 (growth q wimg) wimg w' ≡ looped (suc (suc m)) img w
        by (inl x) =
            let g = (growth q wimg).bytes in
            let eg : growth q wimg ≡ whole g = ap (λ (y : Ending). record { bytes = (growth q wimg).bytes; ending = y }) x in
            ap (λ (t : Trial). given q (offset_at c.B s) 0 t wimg w') eg
            ∙ sym (ap grown
            (whole_law c (growing s) (suc m) h s img w w' lt k e f g (ac ∙ eg)
            ∙ done_law c (growing s) m k (suc s) (stored c.B wimg (spot k 0) g) w' w' (le-ltb (suc s) (suc s) (omega arith))))
        by (inr x) =
            let g = (growth q wimg).bytes in
            let eg : growth q wimg ≡ record { bytes = g; ending = Fault } = ap (λ (y : Ending). record { bytes = (growth q wimg).bytes; ending = y }) x in
            ap (λ (t : Trial). given q (offset_at c.B s) 0 t wimg w') eg
            ∙ sym (ap grown (fault_law c (growing s) (suc m) h s img w w' lt k e f g (ac ∙ eg)))

    -- whatever its health
    erased : nested n wimg w' ≡ looped (suc m) wimg w' → nested (suc n) img w ≡ looped (suc (suc m)) img w
    erased again = by (refuses_program c.health k) refl
      where
        -- it refuses its first program
        spoiled : (r : ℕ) → s ≡ r → refuses_program c.health k ≡ true → nested (suc n) img w ≡ looped (suc (suc m)) img w
        spoiled zero z x = taken (spoils_empty c.health c.N k h s z) (rw (x, z, growth_first c.B c.N k h card.sized wimg) (taken_empty Whole))
        spoiled (suc r) z x = head_by (ltb h c.N) refl
          where
            head_by : (y : Bool) → ltb h c.N ≡ y → nested (suc n) img w ≡ looped (suc (suc m)) img w
            head_by true y =
                let sp = spoils_refused c.health c.N k h s x (omega arith) (ltb-true h c.N y) in
                let l : 0 < length (growth q wimg).bytes =
                rw z (growth_some c.B c.N k h card.sized wimg (rw (wiped_length c.B k img) card) r (omega arith) y) in
                grow_spoiled c.alloc n w w' c.health c.B c.N h s img k e f sp
                ∙ again
                ∙ sym (ap grown (refused_law c (growing s) (suc m) h s img w w' lt k e f (rw x (taken_none (growth q wimg) l))))
            head_by false y =
                let g : growth q wimg ≡ ends Fault = rw z (growth_lost c.B c.N k h card.sized r wimg (omega arith) y) in
                taken (spoils_damaged c.health c.N k h s (ltb-false h c.N y)) (rw (x, g) (taken_empty Fault))

        by : (x : Bool) → refuses_program c.health k ≡ x → nested (suc n) img w ≡ looped (suc (suc m)) img w
        by true x = spoiled s refl x
        by false x = taken (spoils_stored c.health c.N k h s x) (rw x (taken_all (growth q wimg)))

  -- the loops; n and m bound the tries
  pub grow_same : (n m : ℕ) (img : List ℕ) (w : W) → CardFacts c.B c.N (length img) → Ok w → tries w < n → tries w < m → nested n img w ≡ looped m img w
  grow_same zero m img w d o a b = absurd (omega arith)
  grow_same (suc n) zero img w d o a b = absurd (omega arith)
  grow_same (suc n) (suc m) img w d o a b = by (c.alloc w img) refl (grow_same n m)
    where
      Again : Type 0
      Again = (img : List ℕ) (w : W) → CardFacts c.B c.N (length img) → Ok w → tries w < n → tries w < m → nested n img w ≡ looped m img w

      by : (x : Took W) → c.alloc w img ≡ x → Again → nested (suc n) img w ≡ looped (suc m) img w
      by (None w') e ih = grow_none c.alloc n w w' c.health c.B c.N h s img e ∙ sym (ap grown (none_law c (growing s) m h s img w w' lt e))
      by (Bad w') e ih = grow_bad c.alloc n w w' c.health c.B c.N h s img e ∙ sym (ap grown (bad_law c (growing s) m h s img w w' lt e))
      by (Block k w') e ih = go (refuses_erase c.health k) refl m refl
        where
          less : tries w' < tries w
          less = falls.less w w' img k o e

          go : (y : Bool) → refuses_erase c.health k ≡ y → (m' : ℕ) → m ≡ m' → nested (suc n) img w ≡ looped (suc m) img w
          go true f m' z =
              grow_kept c.alloc n w w' c.health c.B c.N h s img k e f
              ∙ ih img w' d (falls.next w w' img k o e) (omega (arith, less)) (omega (arith, less))
              ∙ sym (ap grown (passed_law c (growing s) m h s img w w' lt k e f))
          go false f zero z = absurd (omega (arith, less))
          go false f (suc m') z =
              let again = ih (wiped c.B img k) w' (rw (wiped_length c.B k img) d) (falls.next w w' img k o e) (omega (arith, less)) (omega (arith, less)) in
              rw z (erased n m' img w w' k d e f (rw (← z) again))

-- ---- for every input

module _ (B N l : ℕ) (health : List ℕ) (t : Table) (w : Lookahead) (head s : ℕ) (img : List ℕ) where
  abbrev whole_extend : GrowOut Lookahead
  whole_extend =
      extend_of (setting B N l health) (state w t img) (record { head = head; size = s })

  -- behind the tests
  pub extend_same : extend_tested B N l (length img) health t w s ≡ true → whole_extend ≡ extend_in B N l health t w head s img
  unfolding extend_of extend_in extend_tested tested_of window_alloc
  extend_same e =
      let x : Extending B N l img health t w s = extending e in
      let c : Flash Lookahead = record { B = B; N = N; health = health; alloc = window_alloc B N l t } in
      rw (extend_of, e)
      (sym (grow_same c (window_falls B N l t) head s (omega (arith, x.fits)) (suc w.ckpoint) (suc w.ckpoint) img w x.ready.card x.ready.window
      (omega arith) (omega arith)))

  pub extend_refused : extend_tested B N l (length img) health t w s ≡ false → whole_extend ≡ grow_out (Err refusal.Invalid) img w
  unfolding extend_of extend_tested tested_of
  extend_refused e = rw (extend_of, e)
