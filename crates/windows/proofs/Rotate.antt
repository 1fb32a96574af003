-- Counting around the circle is counting from 0. Assumes nothing.
use mathlib.Core.Path.{◌≡◌, refl, ap, ap₂, ◌∙◌, sym}
use mathlib.Core.Bool.{Bool, true, false}
use mathlib.Core.List.{List}
use Prim.Native.Nat.{ℕ, zero, suc, ◌+◌, ◌-◌, ◌%◌, ◌≤◌, ◌<◌}
use native.Mathlib.Nat.{mod-eq_of_lt, add-mod_left}
use native.Mathlib.Omega.{arith}
use Rattle.windows.specs.Space.{tally, good_unused}
use Rattle.windows.proofs.Asking.{bit, good_in, spare, unused_from, unless_used}

-- how many numbers from a on, k of them, have p
unfoldable pub tally_from : (ℕ → Bool) → ℕ → ℕ → ℕ
tally_from p a zero = 0
tally_from p a (suc k) = bit (p a) + tally_from p (suc a) k

tally_split : (p : ℕ → Bool) (j k a : ℕ) → tally_from p a (j + k) ≡ tally_from p a j + tally_from p (a + j) k
unfolding tally_from
tally_split p zero k a =
    let e : a + 0 ≡ a = omega arith in
    let f : 0 + k ≡ k = omega arith in
    rw (e, f) (omega arith)
tally_split p (suc j) k a =
    let e : suc j + k ≡ suc (j + k) = omega arith in
    let f : a + suc j ≡ suc a + j = omega arith in
    rw (e, f) (omega (arith, tally_split p j k (suc a)))

one_more : (t : Bool) (x : ℕ) → (elim t [ true ↦ suc x | false ↦ x ]) ≡ x + bit t
one_more true x = omega arith
one_more false x = omega arith

-- those from 0 on
tally_from_lem : (p : ℕ → Bool) (n : ℕ) → tally p n ≡ tally_from p 0 n
unfolding tally tally_from
tally_from_lem p zero = refl
tally_from_lem p (suc n) =
    let e : n + 1 ≡ suc n = omega arith in
    one_more (p n) (tally p n) ∙ ap (λ (x : ℕ). x + bit (p n)) (tally_from_lem p n) ∙ (rw e at (sym (split_last n)))
  where
    split_last : (n : ℕ) → tally_from p 0 (n + 1) ≡ tally_from p 0 n + bit (p n)
    split_last n = let e : 0 + n ≡ n = omega arith in tally_split p n 1 0 ∙ (rw e (omega arith))

from_same : (p q : ℕ → Bool) (k a b : ℕ) → ((i : ℕ) → i < k → p (a + i) ≡ q (b + i)) → tally_from p a k ≡ tally_from q b k
unfolding tally_from
from_same p q zero a b h = refl
from_same p q (suc k) a b h =
    let e : a + 0 ≡ a = omega arith in
    let f : b + 0 ≡ b = omega arith in
    ap₂ (λ (t : Bool) (x : ℕ). bit t + x) (rw (e, f) at (h 0 (omega arith))) (from_same p q k (suc a) (suc b) (λ i l.
    let ei : a + suc i ≡ suc a + i = omega arith in
    let fi : b + suc i ≡ suc b + i = omega arith in
    rw (ei, fi) at (h (suc i) (omega arith))))

pub tally_same : (p q : ℕ → Bool) (n : ℕ) → ((i : ℕ) → i < n → p i ≡ q i) → tally p n ≡ tally q n
tally_same p q n h = tally_from_lem p n ∙ from_same p q n 0 0 (λ i l. let e : 0 + i ≡ i = omega arith in rw e (h i l)) ∙ sym (tally_from_lem q n)

-- around the circle of n from base
pub rotate : (p : ℕ → Bool) (base n : ℕ) → base < n → tally_from (λ k. p ((base + k) % n)) 0 n ≡ tally_from p 0 n
rotate p base n h =
    let q : ℕ → Bool = λ k. p ((base + k) % n) in
    let e : n - base + base ≡ n = omega arith in
    let f : base + (n - base) ≡ n = omega arith in
    let one : tally_from q 0 (n - base) ≡ tally_from p base (n - base) =
    from_same q p (n - base) 0 base (λ i l. ap p (first i l)) in
    let two : tally_from q (0 + (n - base)) base ≡ tally_from p 0 base =
    from_same q p base (0 + (n - base)) 0 (λ i l. ap p (second i l)) in
    let all : tally_from q 0 n ≡ tally_from q 0 (n - base) + tally_from q (0 + (n - base)) base = ap (λ (x : ℕ). tally_from q 0 x) (sym e) ∙ tally_split q (n - base) base 0 in
    let flat : tally_from p 0 n ≡ tally_from p 0 base + tally_from p (0 + base) (n - base) = ap (λ (x : ℕ). tally_from p 0 x) (sym f) ∙ tally_split p base (n - base) 0 in
    let zb : tally_from p (0 + base) (n - base) ≡ tally_from p base (n - base) = ap (λ (x : ℕ). tally_from p x (n - base)) (omega arith) in
    omega arith
  where
    first : (i : ℕ) → i < n - base → (base + (0 + i)) % n ≡ base + i
    first i l = let e : base + (0 + i) ≡ base + i = omega arith in rw e (mod-eq_of_lt (omega arith))

    second : (i : ℕ) → i < base → (base + (0 + (n - base) + i)) % n ≡ 0 + i
    second i l =
        let e : base + (0 + (n - base) + i) ≡ n + i = omega arith in
        let f : 0 + i ≡ i = omega arith in
        rw (e, f) (add-mod_left n i ∙ mod-eq_of_lt (omega arith))

unless_good : (good : ℕ → Bool) (t : Bool) (b : ℕ) (bs : List ℕ) → good_in good (unless_used t b bs) ≡ bit (elim t [ true ↦ false | false ↦ good b ]) + good_in good bs
unfolding good_in
unless_good good true b bs = omega arith
unless_good good false b bs = refl

from_tally : (good : ℕ → Bool) (base n : ℕ) (used : ℕ → Bool) (c : ℕ) → c ≤ n
    → good_in good (unused_from base n used c) ≡ tally_from (λ k. spare good used ((base + k) % n)) (n - c) c
unfolding unused_from tally_from good_in
from_tally good base n used zero h = refl
from_tally good base n used (suc c) h =
    let e : suc (n - suc c) ≡ n - c = omega arith in
    unless_good good (used ((base + (n - suc c)) % n)) ((base + (n - suc c)) % n) (unused_from base n used c)
    ∙ ap (λ (x : ℕ). bit (spare good used ((base + (n - suc c)) % n)) + x)
    (from_tally good base n used c (omega arith) ∙ ap (λ (x : ℕ). tally_from (λ k. spare good used ((base + k) % n)) x c) (sym e))

-- THEOREM. Of the whole circle, whatever its base, as many are good as the card has good blocks that are not used.
pub whole_circle : (good : ℕ → Bool) (base n : ℕ) (used : ℕ → Bool) → base < n → good_in good (unused_from base n used n) ≡ good_unused good n used
whole_circle good base n used h =
    let e : n - n ≡ 0 = omega arith in
    from_tally good base n used n (omega arith)
    ∙ ap (λ (x : ℕ). tally_from (λ k. spare good used ((base + k) % n)) x n) e
    ∙ rotate (λ b. spare good used b) base n h ∙ sym (tally_from_lem (λ b. spare good used b) n)
