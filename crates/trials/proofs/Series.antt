-- A run of programmed bytes is one store. Assumes nothing.
use mathlib.Core.Path.{◌≡◌, refl, sym, ap, ◌∙◌}
use mathlib.Core.List.{List, [], ◌∷◌}
use Prim.Native.Nat.{ℕ, suc}
use native.Mathlib.Numerals.{add-one}
use Rattle.device.specs.Device.{stored, wiped}
use Rattle.device.specs.inner.Bounds.{spot}
use Rattle.device.proofs.Frame.{stored_append}
use Rattle.trials.specs.Steps.{Erase, done, series, programs}

pub series_programs : (B k o : ℕ) (vs img : List ℕ) → series B (programs k o vs) img ≡ stored B img (spot k o) vs
unfolding series programs done stored
series_programs B k o [] img = refl
series_programs B k o (v ∷ vs) img =
    series_programs B k (suc o) vs (stored B img (spot k o) (v ∷ []))
    ∙ ap (λ (x : ℕ). stored B (stored B img (spot k o) (v ∷ [])) (spot k x) vs) (sym (add-one o))
    ∙ stored_append B k o (v ∷ []) vs img

-- a block erased and then filled from its start
pub series_tried : (B k : ℕ) (vs img : List ℕ) → series B (Erase k ∷ programs k 0 vs) img ≡ stored B (wiped B img k) (spot k 0) vs
unfolding series done
series_tried B k vs img = series_programs B k 0 vs (wiped B img k)
