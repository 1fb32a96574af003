-- The lookups before a write: on a sound list all succeed. Assumes nothing.
use mathlib.Core.Path.{◌≡◌, refl}
use mathlib.Core.Bool.{Bool, true, false}
use mathlib.Core.List.{List, [], ◌∷◌, ◌++◌}
use Prim.Native.Nat.{ℕ, zero, suc, ◌+◌, ◌-◌, ◌^◌, ◌<◌}
use native.Mathlib.Omega.{arith}
use borrow.Author.Tests.{ltb-true}
use lib.Dec.{ltb}
use lib.ListN.{length}
use Rattle.layout.specs.Layout.{start, index_at}
use Rattle.layout.specs.inner.Served.{BlockSized}
use Rattle.layout.proofs.Laws.{start_mono}
use Rattle.layout.proofs.Places.{index_mono}
use Rattle.layout.proofs.InBlock.{InBlock}
use Rattle.old_list.specs.Write.{Job, new, kept, over, Look, Found, starts, when, wanted, looked}
use Rattle.writes.proofs.Index.{in_block, start_lt}

-- every position of a list is below a bound
abbrev Under : ℕ → List ℕ → Type 0
Under n [] = Unit {0}
Under n (p ∷ ps) = (p < n) × Under n ps

under_append : (n : ℕ) (ps qs : List ℕ) → Under n ps → Under n qs → Under n (ps ++ qs)
under_append n [] qs a b = b
under_append n (p ∷ ps) qs a b = (a.0, under_append n ps qs a.1 b)

under_when : (n : ℕ) (t : Bool) (ps : List ℕ) → (t ≡ true → Under n ps) → Under n (when t ps)
under_when n true ps h = h refl
under_when n false ps h = tt

under_starts : (B n i m : ℕ) → ((k : ℕ) → k < i + m → start B k < n) → Under n (starts B i m)
unfolding starts
under_starts B n i zero h = tt
under_starts B n i (suc m) h = (h i (omega arith), under_starts B n (suc i) m (λ k l. h k (omega arith)))

all_looked : (look : List ℕ → ℕ → Look) (img : List ℕ) (n : ℕ) → ((p : ℕ) → p < n → (k : ℕ) × (look img p ≡ Found k)) → (ps : List ℕ) → Under n ps → looked (look img) ps ≡ true
unfolding looked
all_looked look img n h [] u = refl
all_looked look img n h (p ∷ ps) u = rw (looked, (h p u.0).1) (all_looked look img n h ps u.1)

-- Where every position of the old file is found, so are all that a write looks up.
pub wanted_looked : (look : List ℕ → ℕ → Look) (img : List ℕ) (B : ℕ) (j : Job) → ((p : ℕ) → p < j.old → (k : ℕ) × (look img p ≡ Found k))
    → BlockSized B → new j < 2 ^ 32 → 0 < length j.src → looked (look img) (wanted B j) ≡ true
unfolding wanted
wanted_looked look img B j h sized fits some =
    all_looked look img j.old h (wanted B j)
    (under_append j.old (when (ltb 0 (index_at B (kept j))) (start B (index_at B (kept j) - 1) ∷ []))
    (when (ltb (start B (index_at B (kept j))) (kept j)) (start B (index_at B (kept j)) ∷ [])
    ++ when (ltb (over j) j.old) (starts B (index_at B (over j)) (index_at B (j.old - 1) - index_at B (over j) + 1)))
    (under_when j.old (ltb 0 (index_at B (kept j))) _ (λ e. (last (ltb-true 0 (index_at B (kept j)) e), tt)))
    (under_append j.old (when (ltb (start B (index_at B (kept j))) (kept j)) (start B (index_at B (kept j)) ∷ []))
    (when (ltb (over j) j.old) (starts B (index_at B (over j)) (index_at B (j.old - 1) - index_at B (over j) + 1)))
    (under_when j.old (ltb (start B (index_at B (kept j))) (kept j)) _ (λ e. (omega (arith, ltb-true (start B (index_at B (kept j))) (kept j) e), tt)))
    (under_when j.old (ltb (over j) j.old) _ (λ e. under_starts B j.old (index_at B (over j)) _ (λ k l. tail (ltb-true (over j) j.old e) k l)))))
  where
    q32 : kept j < 2 ^ 32
    q32 = omega (arith, fits)

    ib : InBlock B (kept j) (index_at B (kept j))
    ib = in_block B sized (kept j) q32

    last : 0 < index_at B (kept j) → start B (index_at B (kept j) - 1) < j.old
    last p = omega (arith, ib.from, start_lt B sized (kept j) (index_at B (kept j) - 1) (index_at B (kept j)) q32 ib.from (omega arith))

    tail : over j < j.old → (k : ℕ) → k < index_at B (over j) + (index_at B (j.old - 1) - index_at B (over j) + 1) → start B k < j.old
    tail o k l =
        let t = in_block B sized (j.old - 1) (omega (arith, fits)) in
        omega (arith, t.from, start_mono B k (index_at B (j.old - 1)) (omega (arith, l, index_mono B (over j) (j.old - 1) (omega arith))))
