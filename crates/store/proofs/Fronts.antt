-- What the nested write stores into a block, as one list: gap and data, then the tail. Assumes nothing.
use mathlib.Core.Path.{◌≡◌, refl, sym, ap, ◌∙◌}
use mathlib.Core.List.{List, ◌∷◌, ◌++◌}
use Prim.Native.Nat.{ℕ, zero, suc, ◌+◌, ◌-◌, ◌≤◌, ◌<◌, min}
use native.Mathlib.Omega.{arith}
use lib.ListN.{length, take, drop, replicate, length-take, length-replicate}
use Rattle.layout.specs.Layout.{pointers, start, index_at, offset_at}
use Rattle.device.specs.Device.{stored}
use Rattle.device.specs.inner.Bounds.{spot}
use Rattle.device.proofs.Frame.{stored_append}
use Rattle.grow.specs.inner.Grow.{part}
use Rattle.old_list.specs.Write.{zeros, Job, over, lead, ahead}
use Rattle.new_block.specs.inner.Fill.{fronted, tailed}

zeros_front : (m n z : ℕ) (ys : List ℕ) → z ≡ min m n → take n (replicate m 0 ++ ys) ≡ replicate z 0 ++ take (n - z) ys
zeros_front zero n zero ys e = let d : n - 0 ≡ n = omega arith in rw d
zeros_front zero n (suc z) ys e = absurd (omega arith)
zeros_front (suc m) zero zero ys e = refl
zeros_front (suc m) zero (suc z) ys e = absurd (omega arith)
zeros_front (suc m) (suc n) zero ys e = absurd (omega arith)
zeros_front (suc m) (suc n) (suc z) ys e =
    let d : suc n - suc z ≡ n - z = omega arith in
    rw d (ap (λ (l : List ℕ). 0 ∷ l) (zeros_front m n z ys (omega arith)))

-- the nested gap and data, behind a growth of off bytes
pub front_nested : (B k off s n : ℕ) (j : Job) (g img : List ℕ) → length g ≡ off
    → fronted B k off s n j.pos j.src (stored B img (spot k 0) g) ≡ stored B img (spot k 0) (g ++ take n (ahead j s))
unfolding fronted ahead
front_nested B k off s n j g img e =
    let z = zeros (min (j.pos - s) n) in
    let d = take (n - min (j.pos - s) n) (drop (s - j.pos) j.src) in
    let l : length z ≡ min (j.pos - s) n = length-replicate (min (j.pos - s) n) 0 in
    let o : 0 + length g ≡ off = omega arith in
    ap (λ (x : ℕ). stored B (stored B (stored B img (spot k 0) g) (spot k off) z) (spot k (off + x)) d) (sym l)
    ∙ stored_append B k off z d (stored B img (spot k 0) g)
    ∙ ap (λ (x : ℕ). stored B (stored B img (spot k 0) g) (spot k x) (z ++ d)) (sym o)
    ∙ stored_append B k 0 g (z ++ d) img
    ∙ ap (λ (v : List ℕ). stored B img (spot k 0) (g ++ v)) (sym (zeros_front (j.pos - s) n (min (j.pos - s) n) (drop (s - j.pos) j.src) refl))

-- the nested tail
pub tail_nested : (B k off s n b : ℕ) (j : Job) (f img : List ℕ) → length f ≡ off + lead j s
    → tailed B k off s n b (over j) (stored B img (spot k 0) f) ≡ stored B img (spot k 0) (f ++ part B b (off + lead j s) (n - lead j s) (stored B img (spot k 0) f))
unfolding tailed
tail_nested B k off s n b j f img e =
    let o : off + lead j s ≡ 0 + length f = omega arith in
    let v = part B b (off + lead j s) (n - lead j s) (stored B img (spot k 0) f) in
    ap (λ (x : ℕ). stored B (stored B img (spot k 0) f) (spot k x) v) o ∙ stored_append B k 0 f v img

-- where tail follows, all that is ahead stands before it
pub front_length : (g off a n : ℕ) (vs : List ℕ) → g ≡ off → length vs ≡ a → a < n → g + length (take n vs) ≡ off + a
front_length g off a n vs e l h = simp length-take (omega arith)

pub first_offset : (B : ℕ) → offset_at B 0 ≡ 0
unfolding offset_at index_at pointers start
first_offset B = refl

pub first_width : (b n o f : ℕ) → f ≡ 0 → 0 < b → 0 < o → o ≤ n → 0 < min (min (n - 0) (b - f)) (o - 0)
first_width b n o f e h l g = omega arith
