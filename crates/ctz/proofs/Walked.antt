-- One turn of a lookup's walk by its three cases, the walk as a view, and what a hop rests on. Assumes nothing.
use mathlib.Core.Path.{◌≡◌, refl, ap}
use mathlib.Core.Bool.{Bool, true, false}
use Prim.Native.Nat.{ℕ, zero, suc, ◌+◌, ◌-◌, ◌^◌, ◌≤◌, ◌<◌}
use native.Mathlib.Nat.{min-le_left, min-le_right}
use native.Mathlib.Omega.{arith}
use borrow.Author.Tests.{lt-ltb, le-ltb, ltb-true, ltb-false}
use lib.Dec.{ltb}
use lib.Pow.{pow_pos}
use Rattle.std.specs.Prelude.{Result, Err}
use Rattle.layout.specs.declared.Refusal.{Refusal}
use Rattle.layout.specs.declared.Refusal.TheVariants.{Damaged}
use Rattle.hops.specs.Walk.{ctz, log2, jump}
use Rattle.hops.specs.inner.Ways.{way}
use Rattle.hops.proofs.Greedy.{pick_best}
use Rattle.ctz.specs.declared.Found.{Found}
use Rattle.ctz.specs.Lookup.{found_at, walk}
use Rattle.ctz.specs.inner.Forms.{pointers_with, target, stand}

module _ (f : ℕ) (ptr : ℕ → ℕ → ℕ) (N off tgt cur k hops : ℕ) where
  pub walk_damaged : N ≤ k → walk (suc f) (pointers_with N ptr) (target tgt off) (stand cur k hops) ≡ Err Damaged
  unfolding walk
  walk_damaged h = rw (walk, le-ltb k N h)

  pub walk_at : k < N → cur ≤ tgt → walk (suc f) (pointers_with N ptr) (target tgt off) (stand cur k hops) ≡ found_at k off hops
  unfolding walk
  walk_at h e = rw (walk, lt-ltb k N h, le-ltb tgt cur e)

  pub walk_hop : k < N → tgt < cur
      → walk (suc f) (pointers_with N ptr) (target tgt off) (stand cur k hops) ≡ walk f (pointers_with N ptr) (target tgt off) (stand (cur - 2 ^ jump (way cur tgt)) (ptr k (jump (way cur tgt))) (suc hops))
  unfolding walk
  walk_hop h e = rw (walk, lt-ltb k N h, lt-ltb tgt cur e)

-- two answers that are one have the same parts
pub found_parts : {k o h k' o' h' : ℕ} → found_at k o h ≡ found_at k' o' h' → (k ≡ k') × (o ≡ o') × (h ≡ h')
found_parts {k} {o} {h} {k'} {o'} {h'} e =
    let q : ◌≡◌ {A = Found} (record { block = k; offset = o; hops = h }) (record { block = k'; offset = o'; hops = h' }) = cc in
    (ap (λ (f : Found). f.block) q, ap (λ (f : Found). f.offset) q, ap (λ (f : Found). f.hops) q)

-- The ways that the walk goes, with its answer.
pub data Trail (ptr : ℕ → ℕ → ℕ) (N off tgt : ℕ) : ℕ → ℕ → ℕ → Result Found Refusal → Type 0 where
  lost : {cur k n : ℕ} → Trail ptr N off tgt cur k n (Err Damaged)
  here : {cur k n : ℕ} → k < N → cur ≤ tgt → Trail ptr N off tgt cur k n (found_at k off n)
  onward : {cur k n : ℕ} {r : Result Found Refusal} → k < N → tgt < cur
      → Trail ptr N off tgt (cur - 2 ^ jump (way cur tgt)) (ptr k (jump (way cur tgt))) (suc n) r → Trail ptr N off tgt cur k n r

pub trail : (ptr : ℕ → ℕ → ℕ) (N off tgt f cur k n : ℕ) → Trail ptr N off tgt cur k n (walk f (pointers_with N ptr) (target tgt off) (stand cur k n))
unfolding walk
trail ptr N off tgt zero cur k n = lost
trail ptr N off tgt (suc f) cur k n =
    go (ltb k N) (ltb tgt cur) refl refl (trail ptr N off tgt f (cur - 2 ^ jump (way cur tgt)) (ptr k (jump (way cur tgt))) (suc n))
  where
    go : {r : Result Found Refusal} (s t : Bool) → ltb k N ≡ s → ltb tgt cur ≡ t
        → Trail ptr N off tgt (cur - 2 ^ jump (way cur tgt)) (ptr k (jump (way cur tgt))) (suc n) r
        → Trail ptr N off tgt cur k n (elim s [ false ↦ Err Damaged | true ↦ elim t [ false ↦ found_at k off n | true ↦ r ] ])
    go false t a b rest = lost
    go true true a b rest = onward (ltb-true k N a) (ltb-true tgt cur b) rest
    go true false a b rest = here (ltb-true k N a) (ltb-false tgt cur b)

-- what the code's hop rests on: the pointer that it takes is stored, its power is a u32, and the jump does not lead past the target
pub pick_stored : (cur tgt : ℕ) → jump (way cur tgt) ≤ ctz cur
pick_stored cur tgt = min-le_right (log2 (cur - tgt)) (ctz cur)

pub pick_width : (cur tgt : ℕ) → jump (way cur tgt) ≤ 31
pick_width cur tgt = omega (arith, min-le_left (log2 (cur - tgt)) (ctz cur))

pub jump_down : (cur tgt x p : ℕ) → x ≡ jump (way cur tgt) → p ≡ 2 ^ x → tgt < cur → cur < 2 ^ 32 → (0 < p) × (tgt + p ≤ cur)
jump_down cur tgt x p ex ep l h = rw (ep, ex) (pow_pos (jump (way cur tgt)), (pick_best cur tgt h l).reach)
