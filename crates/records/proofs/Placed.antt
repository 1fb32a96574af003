-- What a word, a part and a map are, by whether their bytes are all in the list. Assumes nothing.
use mathlib.Core.Path.{◌≡◌, refl, sym, ap, ◌∙◌}
use mathlib.Core.Bool.{Bool, true, false}
use mathlib.Core.List.{List, []}
use Prim.Native.Nat.{ℕ, suc, ◌+◌, ◌-◌, ◌*◌, ◌≤◌, ◌<◌}
use native.Mathlib.Nat.{add-sub_cancel_left}
use native.Mathlib.Omega.{arith}
use borrow.Author.Tests.{le-leb, lt-leb}
use lib.ListN.{length, take, drop, replicate, length-drop}
use lib.Seq.{sets, take_all, length-take-le}
use lib.IntN.{ℤ, negsuc}
use lib.Dec.{ltb}
use mir.Syntax.{w32}
use mir.Val.{to_z, of_z}
use mir.Facts.{of_z-to_z}
use Rattle.span.specs.Words.{word_at}
use Rattle.span.proofs.Parts.{sets_over}
use Rattle.files.proofs.Tests.{leb_cases}
use Rattle.records.specs.Records.{word_of, bytes_at, signed_of, map_of}

module _ (list : List ℕ) (at : ℕ) where
  pub word_out : (k : ℕ) → length list < at + 4 * k + 4 → 0 ≡ word_of list at k
  unfolding word_of
  word_out k h = rw (word_of, lt-leb (at + 4 * k + 4) (length list) h)

  pub word_in : (k r : ℕ) → at + 4 * k + 4 ≤ length list → r ≡ word_at list (at + 4 * k) → r ≡ word_of list at k
  unfolding word_of
  word_in k r h e = rw (word_of, le-leb (at + 4 * k + 4) (length list) h) e

  pub part_out : (n : ℕ) → length list < at + n → [] ≡ bytes_at list at n
  unfolding bytes_at
  part_out n h = rw (bytes_at, lt-leb (at + n) (length list) h)

  pub part_in : (n : ℕ) → at + n ≤ length list → take (at + n - at) (drop at list) ≡ bytes_at list at n
  unfolding bytes_at
  part_in n h = rw (bytes_at, le-leb (at + n) (length list) h, add-sub_cancel_left at n)

  -- the length of a part tells whether its bytes are all there
  pub map_in : (found after : List ℕ) → found ≡ bytes_at list at 64 → length found ≡ 64 → after ≡ sets (replicate 64 0) 0 (take 64 (drop 0 found)) → after ≡ map_of list at
  unfolding bytes_at map_of
  map_in found after e h a =
      a ∙ ap (λ (l : List ℕ). sets (replicate 64 0) 0 l) (take_all 64 found (omega arith)) ∙ sets_over (replicate 64 0) found (sym h)
      ∙ leb_cases (at + 64) (length list)
      (λ b. found ≡ (elim b [ true ↦ take 64 (drop at list) | false ↦ [] ]) → found ≡ (elim b [ true ↦ take 64 (drop at list) | false ↦ replicate 64 0 ]))
      (λ q i. i)
      (λ q i. absurd (omega (arith, ap length i)))
      e

  pub map_out : (found : List ℕ) → found ≡ bytes_at list at 64 → (length found ≡ 64 → ⊥) → replicate 64 0 ≡ map_of list at
  unfolding bytes_at map_of
  map_out found e h =
      leb_cases (at + 64) (length list)
      (λ b. found ≡ (elim b [ true ↦ take 64 (drop at list) | false ↦ [] ]) → ◌≡◌ {A = List ℕ} (replicate 64 0) (elim b [ true ↦ take 64 (drop at list) | false ↦ replicate 64 0 ]))
      (λ q i. absurd (h (ap length i ∙ length-take-le 64 (drop at list) (omega (arith, length-drop at list)))))
      (λ q i. refl)
      e

-- two's complement
signed_word : (x : ℕ) → x < 4294967296 → to_z w32 x ≡ signed_of x
unfolding signed_of
signed_word x l = go (ltb x 2147483648) refl
  where
    go : (b : Bool) → ltb x 2147483648 ≡ b → to_z w32 x ≡ signed_of x
    go true q = rw (signed_of, q)
    go false q =
        let f : 4294967296 - suc x ≡ 4294967295 - x = omega arith in
        rw (signed_of, q) (ap negsuc f)

-- the answer of the cast, read back from its bits
pub signed_is : {x : ℕ} {z : ℤ} → x < 4294967296 → z ≡ to_z w32 x → to_z w32 (of_z w32 z) ≡ signed_of x
signed_is {x} {z} l e =
    let same : of_z w32 (to_z w32 x) ≡ x = of_z-to_z {w = w32} {n = x} (record { fits = l }) in
    rw (e, same) (signed_word x l)
