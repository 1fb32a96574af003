-- The steps of the device, one erase or one programmed byte each, and what a series of them leaves.
use Rattle.std.specs.Prelude.{List, [], ◌∷◌, ℕ, suc}
use Rattle.layout.specs.Layout.{BlockSize, BlockNumber}
use Rattle.device.specs.Device.{stored, wiped}

-- a block is erased; one byte of it is programmed
pub data DeviceStep : Type 0 where
  Erase : (block : ℕ) → DeviceStep
  Program : (block offset byte : ℕ) → DeviceStep

unfoldable pub done : BlockSize → DeviceStep → List ℕ → List ℕ
done B (Erase k) img = wiped B img k
done B (Program k o v) img = stored B img (record { block = k; offset = o }) (v ∷ [])

-- what steps leave of an image, one after the other
unfoldable pub series : BlockSize → List DeviceStep → List ℕ → List ℕ
series B [] img = img
series B (s ∷ ss) img = series B ss (done B s img)

-- vs into block k, byte after byte from offset o on
unfoldable pub programs : BlockNumber → ℕ → List ℕ → List DeviceStep
programs k o [] = []
programs k o (v ∷ vs) = Program k o v ∷ programs k (suc o) vs
