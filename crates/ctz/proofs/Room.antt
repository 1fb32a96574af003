-- Each pointer that a walk reads lies in its block, and the block in the image. Assumes nothing.
use mathlib.Core.Path.{◌≡◌}
use mathlib.Core.Bool.{true, ◌&&◌, and-eq-true_iff}
use Prim.Native.Nat.{ℕ, ◌-◌, ◌*◌, ◌≤◌, ◌<◌}
use native.Mathlib.Omega.{arith}
use borrow.Author.Tests.{leb-true}
use lib.Dec.{leb, lit≤}
use Rattle.layout.specs.Geometry.{size_fits, count_fits, card_fits}
use Rattle.layout.specs.Layout.{pointers, index_at}
use Rattle.layout.specs.inner.Served.{BlockSized, Served, geometry}
use Rattle.layout.proofs.Laws.{Scale, pointers_pos, pointers_fit}
use Rattle.layout.proofs.Served.{index_below, served, wide}
use Rattle.hops.specs.Walk.{ctz}
use Rattle.card.specs.inner.Cards.{CardFacts, PointerAsked}
use Rattle.card.proofs.Cards.{block_inside}
use Rattle.ctz.specs.inner.Bounds.{Walks}

-- the pointers of every index up to that of an answered position fit
pub room_to : {B p : ℕ} → Served B p → (i : ℕ) → i ≤ index_at B p → 4 * pointers i ≤ B
room_to {B} s i h =
    let least = s.sized.least in
    let scale : Scale B 26 = record { short = lit≤ tt; eight = omega arith; roomy = omega arith } in
    omega (arith, pointers_fit scale i (omega (arith, index_below s)))

-- so a list of at most the largest size can be walked
pub walks : {B N len size : ℕ} → CardFacts B N len → size ≤ 2147483647 → Walks B (index_at B (size - 1))
walks c h = record { room = room_to (served c.sized (omega arith)) }

-- pointer x of index i, in block k
pub asked : {B N top len i k x : ℕ} → CardFacts B N len → Walks B top → 0 < i → i ≤ top → x ≤ ctz i → k < N → PointerAsked B k x len
asked {i = i} c w p l h b =
    record { stored = omega (arith, w.room i l, pointers_pos i (λ e. omega arith)); inside = block_inside c b }

-- the first two pointers, which every block has room for
pub first_asked : {B N len k : ℕ} → CardFacts B N len → k < N → PointerAsked B k 0 len
first_asked c b = record { stored = omega (arith, wide c.sized); inside = block_inside c b }

pub second_asked : {B N len k : ℕ} → CardFacts B N len → k < N → PointerAsked B k 1 len
second_asked c b = record { stored = omega (arith, wide c.sized); inside = block_inside c b }

-- a geometry's block size is answered
pub fits_sized : (B N : ℕ) → card_fits (geometry B N) ≡ true → BlockSized B
fits_sized B N e =
    let sides = ((and-eq-true_iff (size_fits B && count_fits N) _).0 e).0 in
    let size = ((and-eq-true_iff (size_fits B) _).0 sides).0 in
    record { least = leb-true 128 B ((and-eq-true_iff (leb 128 B) _).0 size).0 }
