-- A list of blocks as an allocator: the write's theorem with nothing abstract left. Assumes nothing.
use mathlib.Core.Path.{◌≡◌, ap, subst}
use mathlib.Core.Logic.{◌≢◌, ◌⊎◌, inl, inr}
use mathlib.Core.List.{List, [], ◌∷◌}
use Prim.Native.Nat.{ℕ, ◌^◌, ◌<◌}
use native.Mathlib.Omega.{arith}
use lib.ListN.{length}
use Rattle.layout.specs.Layout.{start, index_at}
use Rattle.layout.specs.inner.Served.{block_list}
use Rattle.card.specs.inner.Cards.{CardFacts, card_with}
use Rattle.ctz.specs.Lists.{SoundList, block_at}
use Rattle.trials.specs.Loop.{Took, Block, None, Bad}
use Rattle.old_list.specs.Write.{Job, new, Look, Found}
use Rattle.new_list.specs.inner.Write.{put_of}
use Rattle.writes.proofs.Holds.{used}
use Rattle.writes.proofs.Stands.{others_stand}
use Rattle.writes.proofs.Writes.{Outcome, write_plain}
use Rattle.writes.proofs.Allocators.{In, Stays, Allotted, Allocator, MustStand}

-- The simplest allocator: a list of the blocks that it is yet to hand out, below N and all different.

-- block k is not among them
abbrev pub Out : ℕ → List ℕ → Type 0
Out k [] = Unit {0}
Out k (x ∷ xs) = (x ≢ k) × Out k xs

abbrev pub Supply : ℕ → List ℕ → Type 0
Supply N [] = Unit {0}
Supply N (k ∷ ks) = (k < N) × Out k ks × Supply N ks

-- the first of them, until none is left
abbrev pub hand_out : List ℕ → List ℕ → Took (List ℕ)
hand_out [] img = None []
hand_out (k ∷ ks) img = Block k ks

-- the lookup, by pointer 0
abbrev pub look_at : ℕ → ℕ → ℕ → List ℕ → ℕ → Look
look_at B head old img p = Found (block_at B img (block_list head old) (index_at B p))

-- all but the blocks ks count as listed
abbrev pub Rest : List ℕ → ℕ → Type 0
Rest ks k = Out k ks

-- the list ks is what is left of ks₀, and holds none of those that were handed out
pub record InOrder (N : ℕ) (ks₀ ks out img : List ℕ) : Type 0 where
  pub supply : Supply N ks
  pub listed : (k : ℕ) → Out k ks₀ → Out k ks
  pub before : (k : ℕ) → In k out → Out k ks

module _ (B N : ℕ) (health ks₀ : List ℕ) where
  -- a list of blocks keeps the laws of an allocator
  pub listed : Allocator B N length hand_out (Rest ks₀) (InOrder N ks₀)
  listed = record { taken = taken; none = none; never = never; frame = λ w out img img' o c s. record { supply = o.supply; listed = o.listed; before = o.before } }
    where
      taken : (w w' out img : List ℕ) (k : ℕ) → InOrder N ks₀ w out img → hand_out w img ≡ Block k w'
          → Allotted N length (Rest ks₀) (InOrder N ks₀) w w' out img k
      taken [] w' out img k o e = let z : ◌≡◌ {A = ℕ} 0 1 = cc in absurd (omega arith)
      taken (x ∷ xs) w' out img k o e =
          let ek : x ≡ k = cc in
          let ew : xs ≡ w' = cc in
          rw (← ek, ← ew) (record {
            low = o.supply.0;
            new = new_one;
            ok = record { supply = o.supply.2; listed = λ k' u. (o.listed k' u).1; before = before };
            fewer = omega arith;
          })
        where
          new_one : (k' : ℕ) → MustStand (Rest ks₀) out k' → x ≢ k'
          new_one k' (inl a) = (o.listed k' a).0
          new_one k' (inr a) = (o.before k' a).0

          before : (k' : ℕ) → (x ≡ k') ⊎ In k' out → Out k' xs
          before k' (inl a) = subst (λ (z : ℕ). Out z xs) a o.supply.1
          before k' (inr a) = (o.before k' a).1

      none : (w w' out img : List ℕ) → InOrder N ks₀ w out img → hand_out w img ≡ None w' → InOrder N ks₀ w' out img
      none [] w' out img o e = let q : [] ≡ w' = cc in rw (← q) o
      none (x ∷ xs) w' out img o e = let z : ◌≡◌ {A = ℕ} 0 1 = cc in absurd (omega arith)

      never : (w w' out img : List ℕ) → InOrder N ks₀ w out img → hand_out w img ≡ Bad w' → ⊥
      never [] w' out img o e = let z : ◌≡◌ {A = ℕ} 0 1 = cc in omega arith
      never (x ∷ xs) w' out img o e = let z : ◌≡◌ {A = ℕ} 0 1 = cc in omega arith

  -- A write from the blocks ks₀ on is written, or refused for want of blocks.
  pub write_listed : (j : Job) (img : List ℕ) → CardFacts B N (length img) → Supply N ks₀ → SoundList (card_with B N img) (block_list j.head j.old)
      → ((i : ℕ) → start B i < j.old → Out (block_at B img (block_list j.head j.old) i) ks₀) → 0 < length j.src → new j < 2 ^ 32
      → Outcome B N j (Rest ks₀) (InOrder N ks₀) img
      (put_of (look_at B j.head j.old) length hand_out health B N j ks₀ img)
  write_listed j img c su so cl sm ft =
      write_plain (look_at B j.head j.old) B N health length hand_out (Rest ks₀) (InOrder N ks₀) listed j ks₀ img
      (record { card = c; ok = record { supply = su; listed = λ k u. u; before = λ k u. absurd u }; list = so; clear = cl; looks = looks; some = sm; fits = ft })
    where
      short : j.old < 2 ^ 32
      short = omega arith

      looks : (img' : List ℕ) → CardFacts B N (length img') → Stays B (Rest ks₀) img img' → (p : ℕ) → p < j.old
          → look_at B j.head j.old img' p ≡ Found (block_at B img (block_list j.head j.old) (index_at B p))
      looks img' c' st p l =
          ap Found ((others_stand B N (Rest ks₀) img img' c.sized st j.head j.old short so cl).blocks (index_at B p) (used B N c.sized p j.old l short))
