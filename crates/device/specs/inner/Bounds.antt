-- What the device's steps ask of their numbers.
use Rattle.std.specs.Prelude.{◌≡◌, ◌⊎◌, List, ℕ, ◌+◌, ◌*◌, ◌≤◌, ◌<◌, length, get_or}
use Rattle.device.specs.Device.{Spot}

-- block k lies within the image and has a health byte
pub record BlockIn (B k : ℕ) (image health : List ℕ) : Type 0 where
  pub inside : k * B + B ≤ length image
  pub known : k < length health

-- so do n bytes of it from offset o on
pub record RoomIn (B k o n : ℕ) (image health : List ℕ) : Type 0 where
  pub inside : k * B + B ≤ length image
  pub known : k < length health
  pub room : o + n ≤ B

-- n bytes from offset p of block j can be copied there, rising: they lie within their block, and a byte that is read was not stored to
pub record CopyFrom (B k o j p n : ℕ) (image : List ℕ) : Type 0 where
  pub within : j * B + B ≤ length image
  pub room : p + n ≤ B
  pub apart : (k * B + o ≤ j * B + p) ⊎ (j * B + p + n ≤ k * B + o)

-- "Only erased blocks are programmed": n bytes of block k from offset o on are 0xFF. That they lie in the image is said by RoomIn.
pub record Blank (B k o n : ℕ) (image : List ℕ) : Type 0 where
  pub erased : (i : ℕ) → i < n → get_or image (k * B + (o + i)) 255 ≡ 255

-- block, offset
abbrev pub spot : ℕ → ℕ → Spot
spot k o = record { block = k; offset = o }
