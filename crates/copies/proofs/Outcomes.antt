-- What a run leaves, copied or not. Assumes nothing.
use mathlib.Core.Path.{◌≡◌, refl}
use mathlib.Core.List.{List}
use Prim.Native.Nat.{ℕ, ◌-◌, min}
use native.Mathlib.Omega.{arith}
use lib.ListN.{length}
use lib.Seq.{sets}
use Rattle.std.specs.Prelude.{Ok, Err}
use Rattle.layout.specs.declared.Refusal.{Refusal}
use Rattle.layout.specs.inner.Served.{block_list}
use Rattle.card.specs.inner.Cards.{CardFacts, card_with}
use Rattle.ctz.specs.declared.Found.{Found}
use Rattle.ctz.specs.Lookup.{walk_to}
use Rattle.plain.specs.Reading.{Bytes, Gathered}
use Rattle.finding.specs.inner.Runs.{clean, got_bytes}
use Rattle.finding.proofs.Parts.{never_both}
use Rattle.finding.proofs.Gathers.{on_card, step}
use Rattle.copies.specs.inner.Copies.{Roomy, Parted, copied_of}

-- a run that was copied, and one that was not
pub run_copied : (buffer after : List ℕ) (g : Gathered) → clean g ≡ Ok tt → after ≡ sets buffer 0 (got_bytes g) → record { whole = Ok tt; after = after } ≡ copied_of buffer g
unfolding copied_of
run_copied buffer after g c a = rw (c, a) refl

pub run_lost : (buffer : List ℕ) (g : Gathered) {d : Refusal} → clean g ≡ Err d → record { whole = Err d; after = buffer } ≡ copied_of buffer g
unfolding copied_of
run_lost buffer (Bytes bs) c = absurd (never_both refl c)
run_lost buffer Gathered.Damaged c = rw c refl
run_lost buffer Gathered.Refused c = rw c refl

-- the part of the first block lies in the image and fits
pub first_parted : (image : List ℕ) (head : ℕ) {B N size p n m room : ℕ} {f : Found} → CardFacts B N (length image) → Roomy size p n room
    → walk_to (card_with B N image) (block_list head size) p ≡ Ok f → m ≡ min (B - f.offset) n → Parted B f.block f.offset m 0 (length image) room
first_parted image head {m = m} c r e q =
    let s = step image head (on_card c r.run) r.some m e q in
    record {
      block = s.inside;
      inside = s.in_block;
      fits = omega (arith, s.most_left, r.fits);
    }
