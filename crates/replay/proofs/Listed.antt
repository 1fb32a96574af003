-- What the records on block lists ask, from the words and parts that were read. Assumes nothing.
use mathlib.Core.Path.{◌≡◌, refl, ◌∙◌}
use mathlib.Core.Bool.{false}
use mathlib.Core.List.{List}
use Prim.Native.Nat.{ℕ, zero, suc, ◌+◌, ◌-◌, ◌≤◌, ◌<◌}
use native.Mathlib.Numerals.{add-one}
use native.Mathlib.Omega.{arith}
use borrow.Author.Tests.{eq-eqb, ne_eqb}
use lib.IntN.{ℤ}
use lib.Signed.{mag}
use mir.Syntax.{w32}
use mir.Val.{to_z, of_z}
use Rattle.layout.specs.declared.Geometry.{Geometry}
use Rattle.std.specs.Prelude.{None, Some, Result, Ok, Err}
use Rattle.layout.specs.declared.Refusal.{Refusal}
use Rattle.layout.specs.declared.Refusal.TheVariants.{Missing, TableFull, Exists, Invalid, TooLarge, NoSpace, Damaged}
use Rattle.layout.specs.Refusals.{refusal_code}
use Rattle.card.specs.inner.Cards.{card_with}
use Rattle.ctz.specs.declared.Found.{Found}
use Rattle.ctz.specs.declared.visit.Visit.{Visit}
use Rattle.ctz.specs.declared.visit.Step.{Step}
use Rattle.ctz.specs.Visits.{traverse_of}
use Rattle.records.specs.Records.{word_of, geometry_of, image_of}
use Rattle.records.specs.Agreement.{bare_of, told_of}
use Rattle.records.proofs.Bare.{bare_is}
use Rattle.replay.specs.Lists.{step_on, visited_of}

-- a refusal's number without its sign
pub refusal_is : (f : Refusal) (z : ℤ) (code : ℕ) → z ≡ refusal_code f → code ≡ bare_of (to_z w32 (of_z w32 z)) → code ≡ bare_of (refusal_code f)
refusal_is f z code e q = bare_is (refusal_code f) code (small f) (q ∙ rw e refl)
  where
    small : (f : Refusal) → mag (refusal_code f) < 2147483648
    small Missing = omega arith
    small TableFull = omega arith
    small Exists = omega arith
    small Invalid = omega arith
    small TooLarge = omega arith
    small NoSpace = omega arith
    small Damaged = omega arith

pub step_is : (list : List ℕ) (card : ℕ) (g : Geometry) (image : List ℕ) (v : Visit) (s : Result Step Refusal) → g ≡ geometry_of list card → image ≡ image_of list card
    → s ≡ traverse_of (card_with g.block_size g.block_count image) v → s ≡ step_on list card v
step_is list card g image v s x y e = e ∙ rw (x, y)

-- what is left of a visit behind i blocks, by its next step
module _ (list : List ℕ) (at card blocks i : ℕ) (v : Visit) (s : Result Step Refusal) (h : i < 64) (e : s ≡ step_on list card v) where
  one_more : 64 - i ≡ suc (64 - (i + 1))
  one_more = omega arith

  pub step_refused : (f : Refusal) (code : ℕ) → code ≡ bare_of (refusal_code f) → s ≡ Err f → visited_of (64 - i) list at card blocks i v ≡ told_of list at code i 0 0
  unfolding visited_of
  step_refused f code q p = rw (q, one_more, visited_of, ← e, p)

  module _ (t : Step) (w : ℕ) (a : w ≡ word_of list blocks i) (p : s ≡ Ok t) where
    pub step_other : (t.block ≡ w → ⊥) → visited_of (64 - i) list at card blocks i v ≡ false
    unfolding visited_of
    step_other d = rw (one_more, visited_of, ← e, p, ← a, ne_eqb t.block w d)

    module _ (d : t.block ≡ w) where
      pub step_last : t.next ≡ None → visited_of (64 - i) list at card blocks i v ≡ told_of list at 0 (i + 1) 0 0
      unfolding visited_of
      step_last n = rw (one_more, visited_of, ← e, p, ← a, eq-eqb t.block w d, n, add-one i)

      pub step_more : (next : Visit) → t.next ≡ Some next
          → visited_of (64 - i) list at card blocks i v ≡ visited_of (64 - (i + 1)) list at card blocks (i + 1) next
      unfolding visited_of
      step_more next n = rw (one_more, visited_of, ← e, p, ← a, eq-eqb t.block w d, n, add-one i)

pub none_left : (list : List ℕ) (at card blocks i : ℕ) (v : Visit) → 64 ≤ i → visited_of (64 - i) list at card blocks i v ≡ false
unfolding visited_of
none_left list at card blocks i v h = let z : 64 - i ≡ zero = omega arith in rw z
