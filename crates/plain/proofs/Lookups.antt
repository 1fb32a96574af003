-- On a sound list the lookup's walk ends at the block of the target's index, in as many hops as the walk over indexes takes; and that is
-- the length of the least chain of stored pointers. Over stored pointers alone. Assumes nothing.
use mathlib.Core.Path.{◌≡◌, refl, sym, ap, ◌∙◌, subst}
use mathlib.Core.Bool.{Bool, true, false}
use Prim.Native.Nat.{ℕ, zero, suc, ◌+◌, ◌-◌, ◌^◌, ◌≤◌, ◌<◌}
use native.Mathlib.Nat.{min-le_right}
use native.Mathlib.Omega.{arith}
use borrow.Author.Tests.{lt-ltb, le-ltb, ltb-true, ltb-false}
use lib.Dec.{ltb}
use lib.Pow.{pow_pos}
use Rattle.hops.specs.Walk as hopping
use Rattle.hops.specs.Walk.{jump, Route, route_length}
use Rattle.hops.specs.inner.Ways.{way}
use Rattle.hops.proofs.Greedy.{Best, pick_best}
use Rattle.hops.proofs.Exact.{hops_here, hops_step, attained}
use Rattle.hops.proofs.Route.{least_route, follow}
use Rattle.ctz.specs.Lookup.{found_at, walk}
use Rattle.ctz.specs.inner.Forms.{pointers_with, target, stand}
use Rattle.ctz.proofs.Sounds.{SoundOver, at}
use Rattle.plain.proofs.Walks.{at_top, agree_all}

module _ (f : ℕ) (ptr : ℕ → ℕ → ℕ) (N off tgt cur k n : ℕ) (h : k < N) where
  -- at the target
  walk_end : cur ≤ tgt → walk (suc f) (pointers_with N ptr) (target tgt off) (stand cur k n) ≡ found_at k off n
  unfolding walk
  walk_end l = rw (walk, lt-ltb k N h, le-ltb tgt cur l)

  -- one hop
  walk_hop : tgt < cur
      → walk (suc f) (pointers_with N ptr) (target tgt off) (stand cur k n) ≡ walk f (pointers_with N ptr) (target tgt off) (stand (cur - 2 ^ jump (way cur tgt)) (ptr k (jump (way cur tgt))) (suc n))
  unfolding walk
  walk_hop l = rw (walk, lt-ltb k N h, lt-ltb tgt cur l)

module _ {ptr : ℕ → ℕ → ℕ} {N head top : ℕ} (s : SoundOver ptr N head top) (small : top < 2 ^ 32) where
  abbrev blk : ℕ → ℕ
  blk i = at ptr head top i

  -- from any index on the way
  walk_found : (f off tgt cur n : ℕ) → tgt ≤ cur → cur ≤ top → cur - tgt < f
      → walk f (pointers_with N ptr) (target tgt off) (stand cur (blk cur) n) ≡ found_at (blk tgt) off (n + hopping.hops (way cur tgt))
  walk_found zero off tgt cur n t c g = absurd (omega arith)
  walk_found (suc f) off tgt cur n t c g = go (ltb tgt cur) refl (walk_found f off tgt)
    where
      go : (b : Bool) → ltb tgt cur ≡ b
          → ((cur n : ℕ) → tgt ≤ cur → cur ≤ top → cur - tgt < f
          → walk f (pointers_with N ptr) (target tgt off) (stand cur (blk cur) n) ≡ found_at (blk tgt) off (n + hopping.hops (way cur tgt)))
          → walk (suc f) (pointers_with N ptr) (target tgt off) (stand cur (blk cur) n) ≡ found_at (blk tgt) off (n + hopping.hops (way cur tgt))
      go true e ih =
          let l : tgt < cur = ltb-true tgt cur e in
          let b : Best tgt cur (jump (way cur tgt)) = pick_best cur tgt (omega arith) l in
          let p = pow_pos (jump (way cur tgt)) in
          let r = b.reach in
          let q : suc n + hopping.hops (way (cur - 2 ^ jump (way cur tgt)) tgt) ≡ n + hopping.hops (way cur tgt) =
          omega (arith, hops_step cur tgt (omega arith) l) in
          walk_hop f ptr N off tgt cur (blk cur) n (s.below cur c) l
          ∙ ap (λ (k : ℕ). walk f (pointers_with N ptr) (target tgt off) (stand (cur - 2 ^ jump (way cur tgt)) k (suc n)))
          (agree_all s cur (jump (way cur tgt)) c (omega arith) (min-le_right (hopping.log2 (cur - tgt)) (hopping.ctz cur)))
          ∙ ih (cur - 2 ^ jump (way cur tgt)) (suc n) (omega arith) (omega arith) (omega arith)
          ∙ ap (found_at (blk tgt) off) q
      go false e ih =
          let l = ltb-false tgt cur e in
          let c≡ : cur ≡ tgt = omega arith in
          let q : n ≡ n + hopping.hops (way cur tgt) = omega (arith, hops_here cur (omega arith), ap (λ (i : ℕ). hopping.hops (way cur i)) c≡) in
          walk_end f ptr N off tgt cur (blk cur) n (s.below cur c) l ∙ ap (λ (i : ℕ). found_at (blk i) off n) c≡ ∙ ap (found_at (blk tgt) off) q

  -- the walk from the head ends at the target's block
  pub walk_finds : (off tgt : ℕ) → tgt ≤ top → walk (suc top) (pointers_with N ptr) (target tgt off) (stand top head 0) ≡ found_at (blk tgt) off (hopping.hops (way top tgt))
  walk_finds off tgt t =
      let q : 0 + hopping.hops (way top tgt) ≡ hopping.hops (way top tgt) = omega arith in
      ap (λ (k : ℕ). walk (suc top) (pointers_with N ptr) (target tgt off) (stand top k 0)) (sym (at_top ptr head top))
      ∙ walk_found (suc top) off tgt top 0 t (omega arith) (omega arith) ∙ ap (found_at (blk tgt) off) q

  -- no chain of stored pointers from the head to that block is shorter
  pub least_stored : (tgt : ℕ) (r : Route ptr tgt (blk tgt) top head) → hopping.hops (way top tgt) ≤ route_length r
  least_stored tgt r = least_route small r

  -- and one is as long
  pub some_stored : (tgt : ℕ) → tgt ≤ top → (r : Route ptr tgt (blk tgt) top head) × (route_length r ≡ hopping.hops (way top tgt))
  some_stored tgt t =
      let c = attained top tgt small t in
      let q = follow ptr blk top (agree_all s) c.0 (omega arith) in
      subst (λ (k : ℕ). (r : Route ptr tgt (blk tgt) top k) × (route_length r ≡ hopping.hops (way top tgt))) (at_top ptr head top) (q.0, q.1 ∙ c.1)
