-- The numbers that a growth reads on a sound list are the list's own. Over stored pointers alone. Assumes nothing.
use mathlib.Core.Path.{◌≡◌, sym, ap, ◌∙◌}
use Prim.Native.Nat.{ℕ, zero, suc, ◌-◌, ◌^◌, ◌≤◌, ◌<◌, ◌∣◌}
use native.Mathlib.Nat.{le_of_dvd, dvd-sub, dvd_refl, pow-suc}
use native.Mathlib.Omega.{arith}
use lib.Pow.{pow_pos}
use Rattle.hops.specs.Walk.{ctz}
use Rattle.hops.proofs.Powers.{pow_below, dvd_down}
use Rattle.hops.proofs.Digits.{dvd_of_ctz, ctz_of_dvd}
use Rattle.ctz.proofs.Sounds.{SoundOver, at}
use Rattle.plain.proofs.Walks.{at_top, agree_all}
use Rattle.plain.proofs.Same.{link}

module _ {ptr : ℕ → ℕ → ℕ} {N head top : ℕ} (s : SoundOver ptr N head top) where
  abbrev blk : ℕ → ℕ
  blk i = at ptr head top i

  -- what a growth programs: pointer x + 1 of the new block is read as pointer x of the block just named
  pub next_pointer : (x : ℕ) → suc x ≤ ctz (suc top) → suc top < 2 ^ 32 → ptr (blk (suc top - 2 ^ x)) x ≡ blk (suc top - 2 ^ suc x)
  next_pointer x h w =
      let j = suc top - 2 ^ x in
      let p = pow_pos x in
      let d : 2 ^ suc x ∣ suc top = dvd_of_ctz 32 (suc top) (suc x) h in
      let f : 2 ^ suc x ≤ suc top = le_of_dvd (omega arith) d in
      let t = pow-suc 2 x in
      let dj : 2 ^ x ∣ j = dvd-sub (2 ^ x) (dvd_down (omega arith) d) (dvd_refl (2 ^ x)) in
      agree_all s j x (omega arith) (omega arith) (ctz_of_dvd 32 j x (pow_below {n = suc top} (omega arith) (omega arith)) dj) ∙ ap blk (omega arith)

  -- so the numbers that a growth reads on a sound list are the list's own
  pub links_are : suc top < 2 ^ 32 → (x : ℕ) → x ≤ ctz (suc top) → link ptr head x ≡ blk (suc top - 2 ^ x)
  unfolding link
  links_are w zero h = let e : top ≡ suc top - 2 ^ 0 = omega arith in sym (at_top ptr head top) ∙ ap blk e
  links_are w (suc x) h = ap (λ (b : ℕ). ptr b x) (links_are w x (omega arith)) ∙ next_pointer x h w
