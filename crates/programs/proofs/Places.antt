-- A program by the place that it goes to: there is none where the block refuses, and else the bytes are stored there, in the image or in a block of it that is lent. Assumes nothing.
use mathlib.Core.Path.{◌≡◌, refl}
use mathlib.Core.Bool.{Bool, true, false}
use mathlib.Core.List.{List}
use Prim.Native.Nat.{ℕ, ◌+◌, ◌*◌, ◌-◌, ◌≤◌}
use native.Mathlib.Nat.{add-zero}
use native.Mathlib.Omega.{arith}
use borrow.Rule.Slice.PartMut.{mid_of, put_mid}
use lib.ListN.{length}
use lib.Seq.{sets}
use Rattle.std.specs.Prelude.{Result, Ok, Err, IsErr}
use Rattle.health.specs.Health.{refuses_program}
use Rattle.device.specs.declared.Spoiled.{Spoiled}
use Rattle.device.specs.Device.{stored}
use Rattle.device.specs.inner.Steps.{Answer, program_of, StepGives}
use Rattle.device.proofs.Steps.{is_refused, gives_refused, gives_done}
use Rattle.device.proofs.Bounds.{lent_block}
use Rattle.programs.specs.Place.{place_of}

module _ (health : List ℕ) (B k o : ℕ) (vs img : List ℕ) where
  -- whichever place of the block was asked for
  pub place_refused : (p : ℕ) {e : Spoiled} {r : Answer} → place_of health B k p ≡ Err e → IsErr r → StepGives (program_of health B k o vs img) r img
  place_refused p {e} {r} q i = go (refuses_program health k) refl
    where
      go : (x : Bool) → refuses_program health k ≡ x → StepGives (program_of health B k o vs img) r img
      go true f = rw (is_refused r i) (gives_refused _ _ _ f)
      go false f = let z : ◌≡◌ {A = Result ℕ Spoiled} (Ok (k * B + p)) (Err e) = rw (place_of, f) at q in let y : ◌≡◌ {A = ℕ} 0 1 = cc in absurd (omega arith)

  -- a place that is there is of a block that takes its program
  place_takes : (p : ℕ) {at : ℕ} → place_of health B k p ≡ Ok at → (refuses_program health k ≡ false) × (k * B + p ≡ at)
  place_takes p {at} q = go (refuses_program health k) refl
    where
      go : (x : Bool) → refuses_program health k ≡ x → (refuses_program health k ≡ false) × (k * B + p ≡ at)
      go true f = let z : ◌≡◌ {A = Result ℕ Spoiled} (Err (record {})) (Ok at) = rw (place_of, f) at q in let y : ◌≡◌ {A = ℕ} 0 1 = cc in absurd (omega arith)
      go false f = let z : ◌≡◌ {A = Result ℕ Spoiled} (Ok (k * B + p)) (Ok at) = rw (place_of, f) at q in (f, cc)

  pub place_stored : {at : ℕ} {after : List ℕ} → place_of health B k o ≡ Ok at → after ≡ sets img at vs
      → StepGives (program_of health B k o vs img) (Ok (tt {0})) after
  unfolding stored
  place_stored p q = let t = place_takes o p in gives_done _ _ _ t.0 (rw t.1 q)

  -- the block is lent from its start on, and comes back with the bytes in it
  pub place_lent : {start : ℕ} {ys : List ℕ} → place_of health B k 0 ≡ Ok start → k * B + B ≤ length img → o + length vs ≤ B
      → ys ≡ sets (mid_of start (start + B - start) img) o vs
      → StepGives (program_of health B k o vs img) (Ok (tt {0})) (put_mid start (start + B - start) img ys)
  place_lent {start} {ys} p h r e =
      let t = place_takes 0 p in
      let same : k * B ≡ start = rw add-zero at t.1 in
      gives_done _ _ _ t.0 (rw same at (lent_block B k o vs img ys h r (rw same e)))
