-- The answers of an allocation are told apart. Assumes nothing.
use mathlib.Core.Path.{◌≡◌}
use Prim.Native.Nat.{ℕ}
use native.Mathlib.Omega.{arith}
use Rattle.std.specs.Prelude.{Ok, Err}
use Rattle.window.specs.Allocate.{Answer}
use Rattle.layout.specs.declared.Refusal.TheVariants as refusal

pub not_block : (b : ℕ) (P : Type 0) → ◌≡◌ {A = Answer} (Err refusal.NoSpace) (Ok b) → P
not_block b P e = let z : ◌≡◌ {A = ℕ} 0 1 = cc in absurd (omega arith)

pub not_full : (b : ℕ) (P : Type 0) → ◌≡◌ {A = Answer} (Ok b) (Err refusal.NoSpace) → P
not_full b P e = let z : ◌≡◌ {A = ℕ} 0 1 = cc in absurd (omega arith)

pub block_eq : (a b : ℕ) → ◌≡◌ {A = Answer} (Ok a) (Ok b) → a ≡ b
block_eq a b e = cc

pub not_damaged : (b : ℕ) (P : Type 0) → ◌≡◌ {A = Answer} (Err refusal.Damaged) (Ok b) → P
not_damaged b P e = let z : ◌≡◌ {A = ℕ} 0 1 = cc in absurd (omega arith)
