-- The nested write is the one loop: answer, image and allocator, for any lookup and any allocator that comes to an end. Assumes nothing.
use mathlib.Core.Path.{◌≡◌, refl, sym, ap, ◌∙◌}
use mathlib.Core.Bool.{Bool, true, false}
use mathlib.Core.List.{List}
use Prim.Native.Nat.{ℕ, zero, suc, ◌^◌, ◌≤◌, ◌<◌}
use native.Mathlib.Omega.{arith}
use borrow.Author.Tests.{ltb-true, ltb-false}
use lib.Dec.{ltb}
use lib.ListN.{length}
use Rattle.std.specs.Prelude.{Err}
use Rattle.layout.specs.declared.Refusal.TheVariants as refusal
use Rattle.card.specs.inner.Cards.{CardFacts}
use Rattle.health.specs.Health.{refuses_erase, refuses_program}
use Rattle.device.specs.Device.{wiped}
use Rattle.device.proofs.Frame.{wiped_length}
use Rattle.trials.specs.Trial.{Trial, Fault, ends}
use Rattle.trials.specs.Loop.{Took, Block, None, Bad, Flash}
use Rattle.trials.proofs.Laws.{done_law, none_law, bad_law, passed_law, try_at}
use Rattle.trials.proofs.Falls.{Falls}
use Rattle.grow.specs.Growth.{growth}
use Rattle.grow.specs.Extend.{grown_at, grow_out}
use Rattle.grow.specs.inner.Grow.{link_of, spoils, grow_of}
use Rattle.grow.proofs.Spoils.{spoils_stored, spoils_empty, spoils_damaged, spoils_refused}
use Rattle.grow.proofs.Turns.{grow_none, grow_bad, grow_kept, grow_spoiled, grow_linked}
use Rattle.grow.proofs.Links.{link_empty, link_damaged}
use Rattle.grow.proofs.Growths.{growth_some, growth_lost}
use Rattle.old_list.specs.Write.{Job, Look, over, new, trial_of}
use Rattle.new_list.specs.inner.Write.{grown_of, write_of}
use Rattle.store.proofs.Parts.{trial_stops}
use Rattle.store.proofs.Tried.{nested, plan, looped, after, after_bad, Goes, link_good, refuses, loses, trial_some, first_some}

module _ {W : Type 0} (look : List ℕ → ℕ → Look) (tries : W → ℕ) (c : Flash W) (j : Job) (fits : new j < 2 ^ 32) where
  -- ---- one block that is erased, whatever its health

  module _ (some : 0 < over j) (m m' n h s : ℕ) (img : List ℕ) (w w' : W) (k : ℕ) (card : CardFacts c.B c.N (length img)) (lt : ltb s (new j) ≡ true)
      (e : c.alloc w img ≡ Block k w') (f : refuses_erase c.health k ≡ false) (ih : Goes look tries c j fits m m' w')
      (here : after look tries c j fits m h s (grow_of c.alloc n w' c.health c.B c.N h s (wiped c.B img k)) ≡ looped look tries c j fits m' h s (wiped c.B img k) w') where
    abbrev Goal : Type 0
    Goal = after look tries c j fits m h s (grow_of c.alloc (suc n) w c.health c.B c.N h s img) ≡ looped look tries c j fits (suc m') h s img w

    links_on : spoils c.health c.N k h s ≡ false
        → grow_of c.alloc (suc n) w c.health c.B c.N h s img ≡ link_of c.B c.N k h s (wiped c.B img k) w'
    links_on sp = grow_linked c.alloc n w w' c.health c.B c.N h s img k e f sp

    wiped_card : CardFacts c.B c.N (length (wiped c.B img k))
    wiped_card = rw (wiped_length c.B k img) card

    spoiled : (r : ℕ) → s ≡ r → refuses_program c.health k ≡ true → Goal
    unfolding after grown_of
    spoiled zero z x =
        let d : link_of c.B c.N k h s (wiped c.B img k) w' ≡ grow_out (grown_at k 0) (wiped c.B img k) w' =
        rw z (link_empty c.B c.N k h (wiped c.B img k) w') in
        let l : 0 < length (trial_of look j (try_at c.B c.N k h s) (wiped c.B img k)).bytes = rw z (first_some look tries c j fits h k (wiped c.B img k) card.sized some) in
        ap (after look tries c j fits m h s) (links_on (spoils_empty c.health c.N k h s z) ∙ d)
        ∙ after_bad look tries c j fits m h s k 0 (wiped c.B img k) w' x
        ∙ ih h s (wiped c.B img k) wiped_card
        ∙ sym (refuses look tries c j fits m m' h s img w w' k card lt e f x l)
    spoiled (suc r) z x = head_by (ltb h c.N) refl
      where
        small : suc r < 2 ^ 32
        small = omega (arith, ltb-true s (new j) lt)

        head_by : (y : Bool) → ltb h c.N ≡ y → Goal
        head_by true y =
            let l : 0 < length (growth (try_at c.B c.N k h s) (wiped c.B img k)).bytes =
            rw z (growth_some c.B c.N k h card.sized (wiped c.B img k) wiped_card r small y) in
            ap (after look tries c j fits m h s)
            (grow_spoiled c.alloc n w w' c.health c.B c.N h s img k e f (spoils_refused c.health c.N k h s x (omega arith) (ltb-true h c.N y)))
            ∙ here
            ∙ sym (refuses look tries c j fits m m' h s img w w' k card lt e f x (trial_some look tries c j fits m m' h s img w w' k card lt e f x l))
        head_by false y =
            let g : growth (try_at c.B c.N k h s) (wiped c.B img k) ≡ ends Fault =
            rw z (growth_lost c.B c.N k h card.sized r (wiped c.B img k) small y) in
            let d : link_of c.B c.N k h s (wiped c.B img k) w' ≡ grow_out (Err refusal.Damaged) (wiped c.B img k) w' =
            rw z (link_damaged c.B c.N k h (wiped c.B img k) w' r (ltb-false h c.N y)) in
            ap (after look tries c j fits m h s) (links_on (spoils_damaged c.health c.N k h s (ltb-false h c.N y)) ∙ d)
            ∙ sym (loses look tries c j fits m m' h s img w w' k card lt e f x
            (trial_stops look j (try_at c.B c.N k h s) (wiped c.B img k) (ap (λ (u : Trial). u.ending) g) ∙ g))

    erased : Goal
    erased = by (refuses_program c.health k) refl
      where
        by : (x : Bool) → refuses_program c.health k ≡ x → Goal
        by true x = spoiled s refl x
        by false x =
            ap (after look tries c j fits m h s) (links_on (spoils_stored c.health c.N k h s x)) ∙ link_good look tries c j fits m m' h s img w w' k card lt e f x ih

  -- ---- the loops

  module _ {Ok : W → Type 0} (falls : Falls c.alloc Ok tries) (some : 0 < over j) where
    -- all that both writes are asked with, with m and m' turns to go
    abbrev Agree : ℕ → Type 0
    Agree m = (m' h s : ℕ) (img : List ℕ) (w : W) → CardFacts c.B c.N (length img) → Ok w → tries w < m → tries w < m' → nested look tries c j fits m h s img w ≡ looped look tries c j fits m' h s img w

    -- a growth that has n tries, and what follows it
    grown_same : (m : ℕ) → Agree m → (n m' h s : ℕ) (img : List ℕ) (w : W) → CardFacts c.B c.N (length img) → Ok w → ltb s (new j) ≡ true
        → tries w < n → tries w ≤ m → tries w < m'
        → after look tries c j fits m h s (grow_of c.alloc n w c.health c.B c.N h s img) ≡ looped look tries c j fits m' h s img w
    unfolding after grown_of
    grown_same m ag zero m' h s img w d o lt a b g = absurd (omega arith)
    grown_same m ag (suc n) zero h s img w d o lt a b g = absurd (omega arith)
    grown_same m ag (suc n) (suc m') h s img w d o lt a b g = by (c.alloc w img) refl (grown_same m ag n)
      where
        by : (x : Took W) → c.alloc w img ≡ x
            → ((m' h s : ℕ) (img : List ℕ) (w : W) → CardFacts c.B c.N (length img) → Ok w → ltb s (new j) ≡ true → tries w < n → tries w ≤ m → tries w < m'
            → after look tries c j fits m h s (grow_of c.alloc n w c.health c.B c.N h s img) ≡ looped look tries c j fits m' h s img w)
            → after look tries c j fits m h s (grow_of c.alloc (suc n) w c.health c.B c.N h s img) ≡ looped look tries c j fits (suc m') h s img w
        by (None w') e ih =
            ap (after look tries c j fits m h s) (grow_none c.alloc n w w' c.health c.B c.N h s img e) ∙ sym (none_law c (plan look tries c j fits) m' h s img w w' lt e)
        by (Bad w') e ih =
            ap (after look tries c j fits m h s) (grow_bad c.alloc n w w' c.health c.B c.N h s img e) ∙ sym (bad_law c (plan look tries c j fits) m' h s img w w' lt e)
        by (Block k w') e ih = go (refuses_erase c.health k) refl
          where
            less : tries w' < tries w
            less = falls.less w w' img k o e

            ok : Ok w'
            ok = falls.next w w' img k o e

            go : (y : Bool) → refuses_erase c.health k ≡ y
                → after look tries c j fits m h s (grow_of c.alloc (suc n) w c.health c.B c.N h s img) ≡ looped look tries c j fits (suc m') h s img w
            go true f =
                ap (after look tries c j fits m h s) (grow_kept c.alloc n w w' c.health c.B c.N h s img k e f)
                ∙ ih m' h s img w' d ok lt (omega (arith, less)) (omega (arith, less)) (omega (arith, less))
                ∙ sym (passed_law c (plan look tries c j fits) m' h s img w w' lt k e f)
            go false f =
                erased some m m' n h s img w w' k d lt e f
                (λ h₁ s₁ img₁ d₁. ag m' h₁ s₁ img₁ w' d₁ ok (omega (arith, less)) (omega (arith, less)))
                (ih m' h s (wiped c.B img k) w' (rw (wiped_length c.B k img) d) ok lt (omega (arith, less)) (omega (arith, less)) (omega (arith, less)))

    -- the nested write is the loop
    pub write_same : (m : ℕ) → Agree m
    unfolding write_of after
    write_same zero m' h s img w d o a b = absurd (omega arith)
    write_same (suc m) zero h s img w d o a b = absurd (omega arith)
    write_same (suc m) (suc m') h s img w d o a b = by (ltb s (new j)) refl (write_same m)
      where
        by : (x : Bool) → ltb s (new j) ≡ x → Agree m → nested look tries c j fits (suc m) h s img w ≡ looped look tries c j fits (suc m') h s img w
        by false e ih = rw (write_of, e) (sym (done_law c (plan look tries c j fits) m' h s img w w e))
        by true e ih = rw (write_of, e) (grown_same m ih (suc (tries w)) (suc m') h s img w d o e (omega arith) (omega arith) (omega arith))
