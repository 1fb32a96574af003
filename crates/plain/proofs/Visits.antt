-- The visit of a sound list hands over each of its blocks once, last index first. Over stored pointers alone. Assumes nothing.
use mathlib.Core.Path.{◌≡◌, refl, sym, ap, ◌∙◌}
use mathlib.Core.Bool.{Bool, true, false}
use mathlib.Core.List.{List}
use Prim.Native.Nat.{ℕ, zero, suc, ◌%◌, ◌≤◌, ◌<◌}
use native.Mathlib.Omega.{arith}
use borrow.Author.Tests.{lt-ltb, eqb-false}
use lib.Count.{count_trailing_zeros}
use lib.Dec.{eqb}
use Rattle.std.specs.Prelude.{Option, None, Some}
use Rattle.hops.specs.Walk.{ctz}
use Rattle.ctz.specs.Visits.{Visited}
use Rattle.ctz.specs.inner.Held.{visit_held, next_block, hold_by, next_held, hand_on}
use Rattle.ctz.proofs.Sounds.{SoundOver, at}
use Rattle.plain.proofs.Walks.{at_top, at_next}
use Rattle.plain.proofs.Same.{countdown}

-- an even number has a trailing zero
ctz_even : (n : ℕ) → n % 2 ≡ 0 → 1 ≤ ctz n
unfolding count_trailing_zeros
ctz_even n e = rw e (omega arith)

-- one turn of the visit
visit_turn : (ptr : ℕ → ℕ → ℕ) (N i k : ℕ) → k < N → (held : Option ℕ)
    → visit_held ptr N (suc i) k held ≡ hand_on k (visit_held ptr N i (next_block ptr k held) (next_held ptr (suc i) k held))
unfolding visit_held
visit_turn ptr N i k h held = rw (visit_held, lt-ltb k N h)

abbrev whole : List ℕ → Visited
whole l = record { handed = l; clean = true }

module _ {ptr : ℕ → ℕ → ℕ} {N head top : ℕ} (s : SoundOver ptr N head top) where
  abbrev blk : ℕ → ℕ
  blk i = at ptr head top i

  -- what is held is the number of the index below
  abbrev Held : ℕ → Option ℕ → Type 0
  Held i held = (after : ℕ) → held ≡ Some after → (j : ℕ) → i ≡ suc j → after ≡ blk j

  free : (i : ℕ) → Held i None
  free i after e = absurd (let q : ◌≡◌ {A = ℕ} 0 1 = cc in omega arith)

  -- behind index i + 1: the block of index i, and if a number is held then the one below it
  next_block_lem : (i : ℕ) → suc i ≤ top → (held : Option ℕ) → Held (suc i) held → next_block ptr (blk (suc i)) held ≡ blk i
  next_block_lem i h (Some after) e = e after refl i refl
  next_block_lem i h None e = at_next ptr head top i h

  next_held_lem : (i : ℕ) → suc i ≤ top → (held : Option ℕ) → Held i (next_held ptr (suc i) (blk (suc i)) held)
  next_held_lem i h (Some after) = free i
  next_held_lem i h None = go (eqb (suc i % 2) 1) refl
    where
      go : (t : Bool) → eqb (suc i % 2) 1 ≡ t → Held i (hold_by ptr (blk (suc i)) None t)
      go true o = free i
      go false o =
          let odd = eqb-false (suc i % 2) 1 o in
          λ after z j q.
          let same : ptr (blk (suc i)) 1 ≡ after = cc in
          sym same ∙ s.agree (suc i) 1 (omega arith) h (omega arith) (ctz_even (suc i) (omega arith)) ∙ ap blk (omega arith)

  visit_from_lem : (i : ℕ) → i ≤ top → (held : Option ℕ) → Held i held → visit_held ptr N i (blk i) held ≡ whole (countdown blk i)
  unfolding visit_held countdown
  visit_from_lem zero h held e = rw (visit_held, lt-ltb (blk 0) N (s.below 0 h))
  visit_from_lem (suc i) h held e =
      let later = next_held ptr (suc i) (blk (suc i)) held in
      visit_turn ptr N i (blk (suc i)) (s.below (suc i) h) held
      ∙ ap (λ (k : ℕ). hand_on (blk (suc i)) (visit_held ptr N i k later)) (next_block_lem i h held e)
      ∙ ap (hand_on (blk (suc i))) (visit_from_lem i (omega arith) later (next_held_lem i h held))

  -- the visit hands over exactly at top, .., at 0, and meets no -84
  pub visited : visit_held ptr N top head None ≡ whole (countdown blk top)
  visited = ap (λ (k : ℕ). visit_held ptr N top k None) (sym (at_top ptr head top)) ∙ visit_from_lem top (omega arith) None (free top)
