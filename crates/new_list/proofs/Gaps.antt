-- A write of zeros at the old size is a write of no bytes behind a gap up to the new size: what a growing truncate's loop runs. Assumes nothing.
use mathlib.Core.Path.{◌≡◌, refl, sym, ap, ◌∙◌}
use mathlib.Core.Bool.{Bool, true, false}
use mathlib.Core.List.{List, [], ◌∷◌}
use Prim.Native.Nat.{ℕ, zero, suc, ◌+◌, ◌-◌, ◌≤◌, ◌<◌, min}
use native.Mathlib.Nat.{add-zero}
use native.Mathlib.Omega.{arith}
use borrow.Author.Tests.{le-ltb, ltb-true}
use lib.Dec.{ltb}
use lib.ListN.{take, drop, length-replicate}
use Rattle.health.specs.Health.{refuses_program}
use Rattle.device.specs.Device.{stored}
use Rattle.trials.specs.Loop.{Took, WriteOut}
use Rattle.std.specs.Prelude.{Ok, Err}
use Rattle.grow.specs.Extend.{Growth, GrowOut}
use Rattle.grow.specs.inner.Grow.{grow_of}
use Rattle.old_list.specs.Write.{Job, Look, zeros, new, kept, over, wanted, looked, first_head}
use Rattle.new_block.specs.inner.Fill.{fronted}
use Rattle.new_list.specs.inner.Write.{filled_of, grown_of, write_of, put_of}

-- n zeros at the old size
abbrev pub zeroing : ℕ → ℕ → ℕ → Job
zeroing head old n = record { head = head; old = old; pos = old; src = zeros n }

-- no bytes at the new size
abbrev pub gapping : ℕ → ℕ → ℕ → Job
gapping head old size = record { head = head; old = old; pos = size; src = [] }

take_zeros : (w n : ℕ) → w ≤ n → take w (zeros n) ≡ zeros w
take_zeros zero n h = refl
take_zeros (suc w) zero h = absurd (omega arith)
take_zeros (suc w) (suc n) h = ap (λ (xs : List ℕ). 0 ∷ xs) (take_zeros w n (omega arith))

-- a run of zeros is zeros
run_of_zeros : (a w n : ℕ) → a + w ≤ n → take w (drop a (zeros n)) ≡ zeros w
run_of_zeros zero w n h = take_zeros w n (omega arith)
run_of_zeros (suc a) w zero h = absurd (omega arith)
run_of_zeros (suc a) w (suc n) h = run_of_zeros a w n (omega arith)

none : (old s w : ℕ) → old ≤ s → min (old - s) w ≡ 0
none old s w h = omega arith

all : (size s w : ℕ) → s + w ≤ size → min (size - s) w ≡ w
all size s w h = omega arith

rest : (s w old n size : ℕ) → old + n ≡ size → old ≤ s → s + w ≤ size → s - old + w ≤ n
rest s w old n size e h r = omega arith

within : (s size r : ℕ) → s < size → s + min (size - s) r ≤ size
within s size r h = omega arith

share : (new over s r : ℕ) → new ≡ over → min (new - s) r ≤ over - s
share new over s r e = omega arith

-- the front of a block is the same
front_same : (B k off s w old n size : ℕ) (img : List ℕ) → old + n ≡ size → old ≤ s → s + w ≤ size
    → fronted B k off s w old (zeros n) img ≡ fronted B k off s w size [] img
unfolding fronted stored
front_same B k off s w old n size img e h r =
    let g : min (old - s) w ≡ 0 = none old s w h in
    let g' : min (size - s) w ≡ w = all size s w r in
    let z : w - w ≡ 0 = omega arith in
    let z' : w - 0 ≡ w = omega arith in
    rw (fronted, g, g', z, z', add-zero off, run_of_zeros (s - old) w n (rest s w old n size e h r)) refl

-- where no tail is due, what follows the front of a block follows at once
no_tail : {W : Type 0} (look : List ℕ → ℕ → Look) (B : ℕ) (j : Job) (k off s n : ℕ) (img : List ℕ) (w : W) (go : List ℕ → WriteOut W)
    → n ≤ over j - s → filled_of look B j k off s n img w go ≡ go img
unfolding filled_of
no_tail look B j k off s n img w go h = rw (filled_of, le-ltb (over j - s) n h)

grown_same : {W : Type 0} (o : GrowOut W) (go go' : ℕ → ℕ → WriteOut W) → ((k off : ℕ) → go k off ≡ go' k off) → grown_of o go ≡ grown_of o go'
unfolding grown_of
grown_same o go go' h = by o.answer refl
  where
    by : (a : Growth) → o.answer ≡ a → grown_of o go ≡ grown_of o go'
    by (Ok g) e = rw (grown_of, e) (h g.block g.offset)
    by (Err r) e = rw (grown_of, e)

either_same : {A : Type 0} (t : Bool) (a a' b b' : A) → a ≡ a' → b ≡ b' → ◌≡◌ {A = A} (elim t [ true ↦ a | false ↦ b ]) (elim t [ true ↦ a' | false ↦ b' ])
either_same true a a' b b' p q = p
either_same false a a' b b' p q = q

module _ {W : Type 0} (look : List ℕ → ℕ → Look) (tries : W → ℕ) (alloc : W → List ℕ → Took W) (health : List ℕ) (B N : ℕ)
    (head old n size : ℕ) (grows : old + n ≡ size) where
  -- both jobs end at the new size
  zeroed : new (zeroing head old n) ≡ size
  zeroed = omega (arith, length-replicate {A = ℕ} n 0)

  gapped : new (gapping head old size) ≡ size
  gapped = omega arith

  -- a block is filled alike, and what follows is the same if the loops are
  filled : (m : ℕ) (w : W) (k off s : ℕ) (img : List ℕ) → old ≤ s → s < size
      → ((s₁ : ℕ) (img₁ : List ℕ) → old ≤ s₁
      → write_of look tries alloc m health B N (zeroing head old n) w k s₁ img₁ ≡ write_of look tries alloc m health B N (gapping head old size) w k s₁ img₁)
      → filled_of look B (zeroing head old n) k off s (min (new (zeroing head old n) - s) (B - off))
      (fronted B k off s (min (new (zeroing head old n) - s) (B - off)) old (zeros n) img) w
      (λ img'. write_of look tries alloc m health B N (zeroing head old n) w k (s + min (new (zeroing head old n) - s) (B - off)) img')
      ≡ filled_of look B (gapping head old size) k off s (min (new (gapping head old size) - s) (B - off))
      (fronted B k off s (min (new (gapping head old size) - s) (B - off)) size [] img) w
      (λ img'. write_of look tries alloc m health B N (gapping head old size) w k (s + min (new (gapping head old size) - s) (B - off)) img')
  filled m w k off s img l u ih =
      no_tail look B (zeroing head old n) k off s _ _ w _ (share (new (zeroing head old n)) (over (zeroing head old n)) s (B - off) (omega arith))
      ∙ ih _ _ (omega arith)
      ∙ rw (zeroed, gapped)
      (ap (λ (i : List ℕ). write_of look tries alloc m health B N (gapping head old size) w k (s + min (size - s) (B - off)) i)
      (front_same B k off s (min (size - s) (B - off)) old n size img grows l (within s size (B - off) u)))
      ∙ sym (no_tail look B (gapping head old size) k off s _ _ w _ (share (new (gapping head old size)) (over (gapping head old size)) s (B - off) (omega arith)))

  -- the loops of both leave the same, from each list that holds the old file on
  pub zeros_as_gap : (m : ℕ) (w : W) (h s : ℕ) (img : List ℕ) → old ≤ s
      → write_of look tries alloc m health B N (zeroing head old n) w h s img ≡ write_of look tries alloc m health B N (gapping head old size) w h s img
  unfolding write_of
  zeros_as_gap zero w h s img l = refl
  zeros_as_gap (suc m) w h s img l = by (ltb s size) refl (zeros_as_gap m)
    where
      by : (t : Bool) → ltb s size ≡ t
          → ((w : W) (h s : ℕ) (img : List ℕ) → old ≤ s
          → write_of look tries alloc m health B N (zeroing head old n) w h s img ≡ write_of look tries alloc m health B N (gapping head old size) w h s img)
          → write_of look tries alloc (suc m) health B N (zeroing head old n) w h s img ≡ write_of look tries alloc (suc m) health B N (gapping head old size) w h s img
      by false e ih = rw (write_of, zeroed, gapped, e)
      by true e ih =
          rw (write_of, zeroed, gapped, e)
          (grown_same (grow_of alloc (suc (tries w)) w health B N h s img) _ _
          (λ k off. either_same (refuses_program health k) _ _ _ _ (ih _ h s _ l) (filled m _ k off s _ l (ltb-true s size e) (ih _ k))))

  -- they look at the same positions before they allocate
  pub wanted_as_gap : wanted B (zeroing head old n) ≡ wanted B (gapping head old size)
  unfolding wanted
  wanted_as_gap =
      let q : kept (zeroing head old n) ≡ kept (gapping head old size) = omega arith in
      let e : over (zeroing head old n) ≡ over (gapping head old size) = omega (arith, length-replicate {A = ℕ} n 0) in
      rw (wanted, q, e) refl

  -- so the whole writes leave the same
  pub put_as_gap : (w : W) (img : List ℕ)
      → put_of look tries alloc health B N (zeroing head old n) w img ≡ put_of look tries alloc health B N (gapping head old size) w img
  unfolding put_of
  put_as_gap w img =
      let q : kept (zeroing head old n) ≡ kept (gapping head old size) = omega arith in
      rw (put_of, wanted_as_gap)
      (either_same (looked (look img) (wanted B (gapping head old size))) _ _ _ _
      (zeros_as_gap (suc (tries w)) w (first_head (look img) (kept (zeroing head old n))) (kept (zeroing head old n)) img (omega arith)
      ∙ ap (λ (x : ℕ). write_of look tries alloc (suc (tries w)) health B N (gapping head old size) w (first_head (look img) x) x img) q)
      refl)
