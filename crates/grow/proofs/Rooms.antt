-- What the steps of a growth ask of the device, from the card's numbers; and what a link gives, from its equation.
use mathlib.Core.Path.{◌≡◌, refl}
use mathlib.Core.List.{List}
use Prim.Native.Nat.{ℕ, ◌+◌, ◌*◌, ◌≤◌, ◌<◌}
use native.Mathlib.Nat.{mul_comm}
use native.Mathlib.Omega.{arith}
use lib.ListN.{length}
use Rattle.card.specs.inner.Cards.{PointerAsked}
use Rattle.card.proofs.Cards.{block_inside}
use Rattle.device.specs.inner.Bounds.{BlockIn, RoomIn, CopyFrom}
use Rattle.device.proofs.Bounds.{same_offset}
use Rattle.grow.specs.inner.Attempt.{Tried, LinkOut, LinkGives, Linking}

-- an erase of block k
pub block_of : {B N k : ℕ} {img health : List ℕ} → Linking B N k img health → BlockIn B k img health
block_of l = record { inside = block_inside l.card l.block; known = omega (arith, l.known, l.block) }

-- a program of block k, on the image as it stands
pub room_of : {B N k : ℕ} {img health : List ℕ} (o m : ℕ) (now : List ℕ) → Linking B N k img health → length now ≡ length img → o + m ≤ B
    → RoomIn B k o m now health
room_of o m now l e r = record { inside = omega (arith, block_inside l.card l.block); known = omega (arith, l.known, l.block); room = r }

-- a copy from a block below N, at the same offset
pub source_of : {B N k : ℕ} {img health : List ℕ} (j o m : ℕ) → Linking B N k img health → j < N → o + m ≤ B → CopyFrom B k o j o m img
source_of {B} {N} j o m l h r = same_offset (omega (arith, l.card.long, mul_comm N B)) h r

-- a pointer of a block below N
pub asked_of : {B N k : ℕ} {img health : List ℕ} (j x len : ℕ) → Linking B N k img health → len ≡ length img → j < N → 4 * x + 4 ≤ B
    → PointerAsked B j x len
asked_of j x len l e h r = record { stored = omega arith; inside = omega (arith, block_inside l.card h) }

pub gives : {o : LinkOut} (r : Tried) (after : List ℕ) → o ≡ record { answer = r; image = after } → LinkGives o r after
gives r after e = rw e (record { answer = refl; image = refl })
