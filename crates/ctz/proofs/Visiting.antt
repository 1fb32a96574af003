-- A visit_held by its steps: a loop that calls `visit_step` hands over exactly what `visit_of` lists. Assumes nothing.
use mathlib.Core.Path.{◌≡◌, refl, sym, ap, subst, ◌∙◌}
use mathlib.Core.Bool.{Bool, true, false}
use mathlib.Core.List.{List, [], ◌∷◌}
use Prim.Native.Nat.{ℕ, zero, suc, ◌-◌, ◌%◌, ◌≤◌, ◌<◌}
use native.Mathlib.Omega.{arith}
use borrow.Author.Tests.{ltb-true, eqb-true, eqb-false, eq-eqb, ne_eqb}
use lib.Dec.{ltb, eqb}
use Rattle.std.specs.Prelude.{Option, None, Some, Result, Ok, Err}
use Rattle.layout.specs.declared.Refusal.{Refusal}
use Rattle.layout.specs.declared.Refusal.TheVariants.{Invalid, Damaged}
use Rattle.layout.specs.Geometry.{card_fits}
use Rattle.layout.specs.Layout.{index_at}
use Rattle.layout.specs.inner.Served.{geometry, block_list}
use Rattle.card.specs.Card.{pointer}
use Rattle.card.specs.inner.Cards.{card_with}
use Rattle.ctz.specs.declared.visit.Visit.{Visit}
use Rattle.ctz.specs.declared.visit.Step.{Step}
use Rattle.ctz.specs.Visits.{handing, step_of, on_below, Visited, hand, visit, visit_of, begin_of}
use Rattle.ctz.specs.inner.Forms.{pointers_with}
use Rattle.ctz.specs.inner.Held.{next_block, hold_by, next_held, next_visit, visit_held, visit_at, hand_on}
use Rattle.ctz.proofs.Steps.{begin_empty, begin_at}

-- a step goes on where the fields say
below_next : (ptr : ℕ → ℕ → ℕ) (w : Visit) → on_below ptr w.after w (eqb (w.index % 2) 1) ≡ next_visit ptr w
below_next ptr w = go w.after (eqb (w.index % 2) 1)
  where
    go : (held : Option ℕ) (odd : Bool)
        → on_below ptr held w odd
        ≡ record { index = w.index - 1; block = next_block ptr w.block held; after = hold_by ptr w.block held odd }
    go (Some k) odd = refl
    go None true = refl
    go None false = refl

-- what is still to be handed over where the visit stands at v
abbrev pub visit_from : (ℕ → ℕ → ℕ) → ℕ → Visit → Visited
visit_from ptr N v = visit_held ptr N v.index v.block v.after

-- The visit in 01's words is the one that holds the second number: an even index reads two, and the index below it hands on what is held.
module _ (ptr : ℕ → ℕ → ℕ) (N : ℕ) where
  handed_on : (i k : ℕ) (held : Option ℕ)
      → visit_held ptr N (suc i) k held
      ≡ hand (pointers_with N ptr) k (visit_held ptr N i (next_block ptr k held) (next_held ptr (suc i) k held))
  unfolding visit_held hand
  handed_on i k held = refl

  pub visit_held_lem : (i k : ℕ) → visit_held ptr N i k None ≡ visit (pointers_with N ptr) i k
  unfolding visit visit_held hand
  visit_held_lem zero k = refl
  visit_held_lem (suc zero) k = handed_on zero k None ∙ ap (hand (pointers_with N ptr) k) (visit_held_lem zero (ptr k 0))
  visit_held_lem (suc (suc j)) k =
      handed_on (suc j) k None ∙ go (eqb (j % 2) 1) (ap (λ (n : ℕ). eqb n 1) two) (visit_held_lem (suc j)) (visit_held_lem j)
    where
      two : suc (suc j) % 2 ≡ j % 2
      two = omega arith

      go : (odd : Bool) → eqb (suc (suc j) % 2) 1 ≡ odd
          → ((m : ℕ) → visit_held ptr N (suc j) m None ≡ visit (pointers_with N ptr) (suc j) m)
          → ((m : ℕ) → visit_held ptr N j m None ≡ visit (pointers_with N ptr) j m)
          → hand (pointers_with N ptr) k (visit_held ptr N (suc j) (ptr k 0) (next_held ptr (suc (suc j)) k None))
          ≡ elim odd [
            | true ↦ hand (pointers_with N ptr) k (visit (pointers_with N ptr) (suc j) (ptr k 0))
            | false ↦ hand (pointers_with N ptr) k (hand (pointers_with N ptr) (ptr k 0) (visit (pointers_with N ptr) j (ptr k 1)))
          ]
      go true e one zero' = rw e (ap (hand (pointers_with N ptr) k) (one (ptr k 0)))
      go false e one zero' =
          rw e
          (ap (hand (pointers_with N ptr) k)
          (handed_on j (ptr k 0) (Some (ptr k 1)) ∙ ap (hand (pointers_with N ptr) (ptr k 0)) (zero' (ptr k 1))))

-- a list that is not empty is visited from its last index
pub visit_begins : (B N : ℕ) (image : List ℕ) (head size : ℕ) → 0 < size
    → visit_of (card_with B N image) (block_list head size) ≡ visit_from (pointer B image) N (visit_at head (index_at B (size - 1)))
unfolding visit_of
visit_begins B N image head size h =
    let z : size ≡ 0 → ⊥ = λ e. omega arith in
    rw (visit_of, ne_eqb size 0 z) (sym (visit_held_lem (pointer B image) N (index_at B (size - 1)) head))

pub visit_empty : (B N : ℕ) (image : List ℕ) (head size : ℕ) → size ≡ 0 → visit_of (card_with B N image) (block_list head size) ≡ record { handed = []; clean = true }
unfolding visit_of
visit_empty B N image head size h = rw (visit_of, eq-eqb size 0 h)

-- The ways that a visit begins, each with the whole of it.
pub data Beginning (B N : ℕ) (image : List ℕ) (head size : ℕ) : Result (Option Visit) Refusal → Visited → Type 0 where
  refused : {r : Visited} → Beginning B N image head size (Err Invalid) r
  empty : Beginning B N image head size (Ok None) (record { handed = []; clean = true })
  at : Beginning B N image head size (Ok (Some (visit_at head (index_at B (size - 1)))))
      (visit_from (pointer B image) N (visit_at head (index_at B (size - 1))))

module _ (B N : ℕ) (image : List ℕ) (head size : ℕ) where
  pub beginning : Beginning B N image head size (begin_of (geometry B N) (block_list head size)) (visit_of (card_with B N image) (block_list head size))
  unfolding begin_of visit_of
  beginning = go (card_fits (geometry B N)) (ltb 2147483647 size) (eqb size 0)
    where
      go : (f l z : Bool)
          → Beginning B N image head size
          (elim f [
            | false ↦ Err Invalid
            | true ↦ elim l [
              | true ↦ Err Invalid
              | false ↦ elim z [ true ↦ Ok None | false ↦ Ok (Some (visit_at head (index_at B (size - 1)))) ]
            ]
          ])
          (elim z [
            | true ↦ record { handed = []; clean = true }
            | false ↦ visit (pointers_with N (pointer B image)) (index_at B (size - 1)) head
          ])
      go false l z = refused
      go true true z = refused
      go true false true = empty
      go true false false =
          subst (λ (r : Visited). Beginning B N image head size (Ok (Some (visit_at head (index_at B (size - 1))))) r)
          (visit_held_lem (pointer B image) N (index_at B (size - 1)) head) at

  pub begun_at : {v : Visit} → begin_of (geometry B N) (block_list head size) ≡ Ok (Some v) → visit_of (card_with B N image) (block_list head size) ≡ visit_from (pointer B image) N v
  begun_at {v} e = go beginning e
    where
      go : {s : Result (Option Visit) Refusal} {r : Visited} → Beginning B N image head size s r → s ≡ Ok (Some v) → r ≡ visit_from (pointer B image) N v
      go refused q = let z : ◌≡◌ {A = ℕ} 0 1 = cc in absurd (omega arith)
      go empty q = let z : ◌≡◌ {A = ℕ} 0 1 = cc in absurd (omega arith)
      go at q =
          let same : visit_at head (index_at B (size - 1)) ≡ v = cc in
          ap (λ (u : Visit). visit_from (pointer B image) N u) same

  pub begun_empty : begin_of (geometry B N) (block_list head size) ≡ Ok None → visit_of (card_with B N image) (block_list head size) ≡ record { handed = []; clean = true }
  begun_empty e = go beginning e
    where
      go : {s : Result (Option Visit) Refusal} {r : Visited} → Beginning B N image head size s r → s ≡ Ok None → r ≡ record { handed = []; clean = true }
      go refused q = let z : ◌≡◌ {A = ℕ} 0 1 = cc in absurd (omega arith)
      go empty q = refl
      go at q = let z : ◌≡◌ {A = ℕ} 0 1 = cc in absurd (omega arith)

  -- behind the tests nothing is refused
  pub begun_answers : {r : Refusal} → card_fits (geometry B N) ≡ true → size ≤ 2147483647 → begin_of (geometry B N) (block_list head size) ≡ Err r → ⊥
  begun_answers {r} f h e = go (eqb size 0) refl
    where
      go : (z : Bool) → eqb size 0 ≡ z → ⊥
      go true q =
          let b = begin_empty B N head size f h (eqb-true size 0 q) ∙ e in
          let z : ◌≡◌ {A = ℕ} 0 1 = cc in omega arith
      go false q =
          let b = begin_at B N head size f _ h (eqb-false size 0 q) refl ∙ e in
          let z : ◌≡◌ {A = ℕ} 0 1 = cc in omega arith

-- The ways that a step goes, each with the number that it hands over and the rest of the visit.
pub data Turn (ptr : ℕ → ℕ → ℕ) (N : ℕ) (v : Visit) : Result Step Refusal → Visited → Type 0 where
  damaged : Turn ptr N v (Err Damaged) (record { handed = []; clean = false })
  last : v.block < N → Turn ptr N v (handing v.block None) (record { handed = v.block ∷ []; clean = true })
  more : v.block < N → v.index ≡ suc (v.index - 1)
      → Turn ptr N v (handing v.block (Some (next_visit ptr v))) (hand_on v.block (visit_from ptr N (next_visit ptr v)))

module _ (ptr : ℕ → ℕ → ℕ) (N : ℕ) where
  turn_at : (i k : ℕ) (held : Option ℕ)
      → let v : Visit = record { index = i; block = k; after = held } in
      Turn ptr N v (step_of (pointers_with N ptr) v) (visit_held ptr N i k held)
  unfolding step_of visit_held
  turn_at zero k held = go (ltb k N) refl
    where
      go : (t : Bool) → ltb k N ≡ t
          → let v : Visit = record { index = 0; block = k; after = held } in
          Turn ptr N v (elim t [ false ↦ Err Damaged | true ↦ handing k None ])
          (elim t [ false ↦ record { handed = []; clean = false } | true ↦ record { handed = k ∷ []; clean = true } ])
      go false e = damaged
      go true e = last (ltb-true k N e)
  turn_at (suc i) k held = go (ltb k N) (eqb (suc i) 0) refl (ne_eqb (suc i) 0 (λ e. omega arith)) _ (below_next ptr v)
    where
      v : Visit
      v = record { index = suc i; block = k; after = held }

      back : suc i - 1 ≡ i
      back = omega arith

      go : (t z : Bool) → ltb k N ≡ t → z ≡ false → (u : Visit) → u ≡ next_visit ptr v
          → Turn ptr N v (elim t [ false ↦ Err Damaged | true ↦ elim z [ true ↦ handing k None | false ↦ handing k (Some u) ] ])
          (elim t [
            | false ↦ record { handed = []; clean = false }
            | true ↦ hand_on k (visit_held ptr N i (next_visit ptr v).block (next_visit ptr v).after)
          ])
      go false z e f u q = damaged
      go true true e f u q = let z : ◌≡◌ {A = ℕ} 0 1 = cc in absurd (omega arith)
      go true false e f u q =
          subst
          (λ (w : Visit).
          Turn ptr N v (handing k (Some w)) (hand_on k (visit_held ptr N i (next_visit ptr v).block (next_visit ptr v).after))) (sym q)
          (subst
          (λ (n : ℕ).
          Turn ptr N v (handing k (Some (next_visit ptr v))) (hand_on k (visit_held ptr N n (next_visit ptr v).block (next_visit ptr v).after)))
          back (more (ltb-true k N e) (omega arith)))

  pub turn : (v : Visit) → Turn ptr N v (step_of (pointers_with N ptr) v) (visit_from ptr N v)
  turn v = turn_at v.index v.block v.after

-- so, by a step's answer: what is left of the visit
module _ (ptr : ℕ → ℕ → ℕ) (N : ℕ) (v : Visit) where
  pub visit_damaged : {f : Refusal} → step_of (pointers_with N ptr) v ≡ Err f → visit_from ptr N v ≡ record { handed = []; clean = false }
  visit_damaged {f} e = go (turn ptr N v) e
    where
      go : {s : Result Step Refusal} {r : Visited} → Turn ptr N v s r → s ≡ Err f → r ≡ record { handed = []; clean = false }
      go damaged q = refl
      go (last h) q = let z : ◌≡◌ {A = ℕ} 0 1 = cc in absurd (omega arith)
      go (more h i) q = let z : ◌≡◌ {A = ℕ} 0 1 = cc in absurd (omega arith)

  -- the number that a step hands over is below N
  pub step_below : {s : Step} → step_of (pointers_with N ptr) v ≡ Ok s → s.block < N
  step_below {s} e = go (turn ptr N v) e
    where
      go : {a : Result Step Refusal} {r : Visited} → Turn ptr N v a r → a ≡ Ok s → s.block < N
      go damaged q = let z : ◌≡◌ {A = ℕ} 0 1 = cc in absurd (omega arith)
      go (last h) q = let same : v.block ≡ s.block = cc in omega arith
      go (more h i) q = let same : v.block ≡ s.block = cc in omega arith

  pub visit_last : {s : Step} → step_of (pointers_with N ptr) v ≡ Ok s → s.next ≡ None
      → (s.block < N) × (visit_from ptr N v ≡ record { handed = s.block ∷ []; clean = true })
  visit_last {s} e n = (step_below e, go (turn ptr N v) e)
    where
      go : {a : Result Step Refusal} {r : Visited} → Turn ptr N v a r → a ≡ Ok s → r ≡ record { handed = s.block ∷ []; clean = true }
      go damaged q = let z : ◌≡◌ {A = ℕ} 0 1 = cc in absurd (omega arith)
      go (last h) q = let same : v.block ≡ s.block = cc in ap (λ (k : ℕ). record { handed = k ∷ []; clean = true }) same
      go (more h i) q = let z : ◌≡◌ {A = ℕ} 0 1 = cc in absurd (omega arith)

  -- the number is below N, the index falls by one, and the visit goes on behind it
  pub record Onward (k : ℕ) (w : Visit) : Type 0 where
    pub below : k < N
    pub falls : v.index ≡ suc w.index
    pub rest : visit_from ptr N v ≡ hand_on k (visit_from ptr N w)

  pub visit_more : {s : Step} {w : Visit} → step_of (pointers_with N ptr) v ≡ Ok s → s.next ≡ Some w → Onward s.block w
  visit_more {s} {w} e n =
      let t = go (turn ptr N v) e in
      record { below = step_below e; falls = t.0; rest = t.1 }
    where
      go : {a : Result Step Refusal} {r : Visited} → Turn ptr N v a r → a ≡ Ok s
          → (v.index ≡ suc w.index) × (r ≡ hand_on s.block (visit_from ptr N w))
      go damaged q = let z : ◌≡◌ {A = ℕ} 0 1 = cc in absurd (omega arith)
      go (last h) q = let z : ◌≡◌ {A = ℕ} 0 1 = cc in absurd (omega arith)
      go (more h i) q =
          let same : v.block ≡ s.block = cc in
          let next : next_visit ptr v ≡ w = cc in (
            i ∙ ap (λ (u : Visit). suc u.index) next,
            ap (λ (k : ℕ). hand_on k (visit_from ptr N (next_visit ptr v))) same ∙ ap (λ (u : Visit). hand_on s.block (visit_from ptr N u)) next,
          )

  -- a step is refused only where a number is not below N
  pub step_answers : {f : Refusal} → step_of (pointers_with N ptr) v ≡ Err f → f ≡ Damaged
  step_answers {f} e = go (turn ptr N v) e
    where
      go : {s : Result Step Refusal} {r : Visited} → Turn ptr N v s r → s ≡ Err f → f ≡ Damaged
      go damaged q = cc
      go (last h) q = let z : ◌≡◌ {A = ℕ} 0 1 = cc in absurd (omega arith)
      go (more h i) q = let z : ◌≡◌ {A = ℕ} 0 1 = cc in absurd (omega arith)
