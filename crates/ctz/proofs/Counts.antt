-- The hops of an answer are the length of the defined walk, whatever the blocks hold. Assumes nothing.
use mathlib.Core.Path.{◌≡◌, ap}
use mathlib.Core.List.{List}
use Prim.Native.Nat.{ℕ, ◌+◌, ◌-◌, ◌^◌, ◌≤◌, ◌<◌}
use native.Mathlib.Omega.{arith}
use Rattle.std.specs.Prelude.{Result}
use Rattle.layout.specs.declared.Refusal.{Refusal}
use Rattle.layout.specs.Layout.{index_at}
use Rattle.layout.specs.inner.Served.{block_list}
use Rattle.layout.proofs.Places.{index_mono}
use Rattle.layout.proofs.Served.{served, index_below}
use Rattle.hops.specs.Walk.{hops}
use Rattle.hops.specs.inner.Ways.{way}
use Rattle.hops.proofs.Exact.{hops_here, hops_step}
use Rattle.hops.proofs.Greedy.{pick_best}
use Rattle.card.specs.inner.Cards.{CardFacts, card_with}
use Rattle.ctz.specs.declared.Found.{Found}
use Rattle.ctz.specs.Lookup.{found_at, walk_to}
use Rattle.ctz.specs.inner.Bounds.{LookupAsked}
use Rattle.ctz.proofs.Walked.{found_parts, Trail, lost, here, onward}
use Rattle.ctz.proofs.Lookups.{found_trail}

counts : {ptr : ℕ → ℕ → ℕ} {N off tgt cur k n k' off' h : ℕ} {r : Result Found Refusal} → Trail ptr N off tgt cur k n r
    → tgt ≤ cur → cur < 2 ^ 32 → r ≡ found_at k' off' h → h ≡ n + hops (way cur tgt)
counts lost l c e = let z : ◌≡◌ {A = ℕ} 0 1 = cc in absurd (omega arith)
counts {tgt = tgt} {cur = cur} {n = n} {h = h} (here b g) l c e =
    let same = found_parts e in
    let there : tgt ≡ cur = omega arith in
    omega (arith, same.2, hops_here cur c, ap (λ (t : ℕ). hops (way cur t)) there)
counts {tgt = tgt} {cur = cur} (onward b g rest) l c e =
    let reach = (pick_best cur tgt c g).reach in
    omega (arith, counts rest (omega arith) (omega arith) e, hops_step cur tgt c g)

pub found_counts : {B N size p len : ℕ} (image : List ℕ) (head : ℕ) → CardFacts B N len → LookupAsked size p → {k off h : ℕ}
    → walk_to (card_with B N image) (block_list head size) p ≡ found_at k off h → h ≡ hops (way (index_at B (size - 1)) (index_at B p))
found_counts {B} {N} {size} {p} image head c s e =
    let below = index_below (served {p = size - 1} c.sized (omega (arith, s.most))) in
    omega (arith, counts (found_trail image head c s) (index_mono B p (size - 1) (omega (arith, s.below))) (omega arith) e)
