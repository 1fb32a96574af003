-- The blocks that are not used, in circular order: each once, and no other. Assumes nothing.
use mathlib.Core.Path.{◌≡◌, refl, ap, ◌∙◌, sym}
use mathlib.Core.Bool.{Bool, true, false}
use Prim.Native.Nat.{ℕ, zero, suc, ◌+◌, ◌-◌, ◌%◌, ◌≤◌, ◌<◌}
use native.Mathlib.Nat.{mod-lt}
use native.Mathlib.Omega.{arith}
use Rattle.span.specs.Members.{has}
use Rattle.window.proofs.Cases.{eqb_cases}
use Rattle.windows.proofs.Views.{Different}
use Rattle.windows.proofs.Asking.{unused_from, unless_used}
use Rattle.windows.proofs.Circle.{block_offset, same_place, offset_from}
use Rattle.windows.proofs.Has.{else_false, has_cases, has_head, has_none, has_tail}

-- where a block of the rest lies
pub rest_place : (base n : ℕ) (used : ℕ → Bool) (c b : ℕ) → c ≤ n → has (unused_from base n used c) b ≡ true
    → (k : ℕ) × (n - c ≤ k) × (k < n) × (b ≡ (base + k) % n) × (used b ≡ false)
unfolding unused_from
rest_place base n used zero b h e = absurd (has_none b e)
rest_place base n used (suc c) b h e = go (used ((base + (n - suc c)) % n)) refl e (rest_place base n used c b (omega arith))
  where
    x : ℕ
    x = (base + (n - suc c)) % n

    Place : ℕ → Type 0
    Place lo = (k : ℕ) × (lo ≤ k) × (k < n) × (b ≡ (base + k) % n) × (used b ≡ false)

    wider : Place (n - c) → Place (n - suc c)
    wider r = (r.0, omega arith, r.2, r.3, r.4)

    go : (t : Bool) → used x ≡ t → has (unless_used t x (unused_from base n used c)) b ≡ true → (has (unused_from base n used c) b ≡ true → Place (n - c)) → Place (n - suc c)
    go true q e ih = wider (ih e)
    go false q e ih = has_cases x (unused_from base n used c) b (Place (n - suc c)) e
        (λ s. (n - suc c, omega arith, omega arith, sym s, ap used (sym s) ∙ q))
        (λ s. wider (ih s))

-- THEOREM. No block stands twice in the circular order ..
pub rest_different : (base n : ℕ) (used : ℕ → Bool) (c : ℕ) → base < n → c ≤ n → Different (unused_from base n used c)
unfolding unused_from
rest_different base n used zero l h = Different.none
rest_different base n used (suc c) l h = go (used ((base + (n - suc c)) % n)) (rest_different base n used c l (omega arith))
  where
    go : (t : Bool) → Different (unused_from base n used c) → Different (unless_used t ((base + (n - suc c)) % n) (unused_from base n used c))
    go true d = d
    go false d = Different.one (else_false _ (λ e.
        let r = rest_place base n used c ((base + (n - suc c)) % n) (omega arith) e in
        let q : n - suc c ≡ r.0 = same_place n base (n - suc c) r.0 l (omega arith) r.2 r.3 in
        omega arith)) d

rest_at : (base n : ℕ) (used : ℕ → Bool) (c k : ℕ) → c ≤ n → n - c ≤ k → k < n → used ((base + k) % n) ≡ false → has (unused_from base n used c) ((base + k) % n) ≡ true
unfolding unused_from
rest_at base n used zero k h a b e = absurd (omega arith)
rest_at base n used (suc c) k h a b e = eqb_cases k (n - suc c) (λ _. has (unused_from base n used (suc c)) ((base + k) % n) ≡ true)
    (λ q. here q)
    (λ q. there (used ((base + (n - suc c)) % n)) (rest_at base n used c k (omega arith) (omega arith) b e))
  where
    here : k ≡ n - suc c → has (unless_used (used ((base + (n - suc c)) % n)) ((base + (n - suc c)) % n) (unused_from base n used c)) ((base + k) % n) ≡ true
    here q = rw (sym q, e) (has_head ((base + k) % n) (unused_from base n used c))

    there : (t : Bool) → has (unused_from base n used c) ((base + k) % n) ≡ true
        → has (unless_used t ((base + (n - suc c)) % n) (unused_from base n used c)) ((base + k) % n) ≡ true
    there true i = i
    there false i = has_tail _ _ _ i

-- .. and each block of the card that is not used stands in it
pub rest_all : (base n : ℕ) (used : ℕ → Bool) (b : ℕ) → base < n → b < n → used b ≡ false → has (unused_from base n used n) b ≡ true
rest_all base n used b l h e =
    let k = offset_from base b n in
    let q : (base + k) % n ≡ b = block_offset n base b l h in
    let i : has (unused_from base n used n) ((base + k) % n) ≡ true =
    rest_at base n used n k (omega arith) (omega arith) (mod-lt _ (omega arith)) (ap used q ∙ e) in
    rw q at i
