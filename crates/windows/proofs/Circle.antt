-- Places on the circle of N blocks: the k-th from base on is (base + k) % N. Assumes nothing.
use mathlib.Core.Path.{◌≡◌, ap, ◌∙◌, sym}
use mathlib.Core.Logic.{◌⊎◌, inl, inr, ⊎_elim}
use Prim.Native.Nat.{ℕ, ◌+◌, ◌-◌, ◌%◌, ◌≤◌, ◌<◌}
use native.Mathlib.Nat.{mod-eq_of_lt, mod-eq-sub-mod, mod-add-mod, add-mod-mod, add-mod_right}
use native.Mathlib.Omega.{arith}
use Rattle.window.proofs.Cases.{ltb_cases}

-- the offset of a block from start on, on a card of n blocks
abbrev pub offset_from : ℕ → ℕ → ℕ → ℕ
offset_from start block n = (block + n - start) % n

-- a number below 2 n, modulo n
wrap : (n x : ℕ) → x < n + n → ((x < n) × (x % n ≡ x)) ⊎ ((n ≤ x) × (x % n ≡ x - n))
wrap n x h = ltb_cases x n (λ _. ((x < n) × (x % n ≡ x)) ⊎ ((n ≤ x) × (x % n ≡ x - n)))
    (λ a. inl (a, mod-eq_of_lt a))
    (λ a. inr (a, mod-eq-sub-mod a ∙ mod-eq_of_lt (omega arith)))

-- the offset of the block at offset o is o
pub offset_block : (n start o : ℕ) → start < n → o < n → offset_from start ((start + o) % n) n ≡ o
offset_block n start o a b = ⊎_elim
    (λ p. rw p.1 (⊎_elim (λ q. absurd (omega arith)) (λ q. rw q.1 (omega arith)) (wrap n (start + o + n - start) (omega arith))))
    (λ p. rw p.1 (⊎_elim (λ q. rw q.1 (omega arith)) (λ q. absurd (omega arith)) (wrap n (start + o - n + n - start) (omega arith))))
    (wrap n (start + o) (omega arith))

-- the block at the offset of b is b
pub block_offset : (n start b : ℕ) → start < n → b < n → (start + offset_from start b n) % n ≡ b
block_offset n start b h l =
    let e : start + (b + n - start) ≡ b + n = omega arith in
    add-mod-mod start (b + n - start) n ∙ ap (λ (x : ℕ). x % n) e ∙ add-mod_right b n ∙ mod-eq_of_lt l

-- THE CIRCLE. The k-th block from base on.
pub same_place : (n base k j : ℕ) → base < n → k < n → j < n → (base + k) % n ≡ (base + j) % n → k ≡ j
same_place n base k j h a b e =
    sym (offset_block n base k h a) ∙ ap (λ (x : ℕ). offset_from base x n) e ∙ offset_block n base j h b

-- two places that are one stay one, d blocks on
pub shift : (n a b d : ℕ) → a % n ≡ b % n → (a + d) % n ≡ (b + d) % n
shift n a b d e = sym (mod-add-mod a n d) ∙ ap (λ (x : ℕ). (x + d) % n) e ∙ mod-add-mod b n d
