-- Parts of the image, and runs that begin with a part. Assumes nothing.
use mathlib.Core.Path.{◌≡◌, refl, sym, ap, ◌∙◌}
use mathlib.Core.List.{List, [], ◌∷◌, ◌++◌}
use Prim.Native.Nat.{ℕ, zero, suc, ◌+◌, ◌-◌, ◌≤◌}
use native.Mathlib.Nat.{zero-sub, sub-zero}
use native.Mathlib.Omega.{arith}
use lib.ListN.{length, take, drop, length-drop}
use lib.Seq.{length-take-le, take-take, take-nil, drop-drop}
use Rattle.std.specs.Prelude.{Result, Ok, Err}
use Rattle.layout.specs.declared.Refusal.{Refusal}
use Rattle.plain.specs.Reading.{Bytes, before, Gathered}
use Rattle.finding.specs.inner.Runs.{clean, got_bytes}

-- ---- a part, then the rest

pub clean_before : (part : List ℕ) (g : Gathered) → clean (before part g) ≡ clean g
clean_before part (Bytes rest) = refl
clean_before part Gathered.Damaged = refl
clean_before part Gathered.Refused = refl

pub bytes_before : (part : List ℕ) (g : Gathered) → clean g ≡ Ok tt → got_bytes (before part g) ≡ part ++ got_bytes g
bytes_before part (Bytes rest) e = refl
bytes_before part Gathered.Damaged e = let z : ◌≡◌ {A = ℕ} 0 1 = cc in absurd (omega arith)
bytes_before part Gathered.Refused e = let z : ◌≡◌ {A = ℕ} 0 1 = cc in absurd (omega arith)

pub never_both : {r : Result (Unit {0}) Refusal} {e : Refusal} → r ≡ Ok tt → r ≡ Err e → ⊥
never_both t f = let z : ◌≡◌ {A = ℕ} 0 1 = cc in omega arith

-- the bytes of a part that lies within the image
pub length_part : (image : List ℕ) (a m : ℕ) → a + m ≤ length image → length (take m (drop a image)) ≡ m
length_part image a m h = length-take-le m (drop a image) (omega (arith, length-drop a image))

-- a part of a block that was lent as a part of the image
drop_take : (o b : ℕ) (l : List ℕ) → drop o (take b l) ≡ take (b - o) (drop o l)
drop_take zero b l = ap (λ (x : ℕ). take x l) (sym (sub-zero b))
drop_take (suc o) zero l = sym (ap (λ (x : ℕ). take x (drop (suc o) l)) (zero-sub (suc o)))
drop_take (suc o) (suc b) [] = sym (take-nil (suc b - suc o))
drop_take (suc o) (suc b) (x ∷ xs) = let e : b - o ≡ suc b - suc o = omega arith in drop_take o b xs ∙ ap (λ (x : ℕ). take x (drop o xs)) e

pub lent_part : (image : List ℕ) (a B off m : ℕ) → off + m ≤ B
    → take m (drop off (take (a + B - a) (drop a image))) ≡ take m (drop (a + off) image)
lent_part image a B off m h =
    let e : a + B - a ≡ B = omega arith in
    ap (λ (x : ℕ). take m (drop off (take x (drop a image)))) e ∙ ap (take m) (drop_take off B (drop a image))
    ∙ take-take m (B - off) (drop off (drop a image)) (omega arith) ∙ ap (take m) (drop-drop off a image)
