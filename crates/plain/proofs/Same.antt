-- What the theorems on lists speak of: images that agree on a list's blocks, indexes counted down, bytes and pointers over any stored numbers.
use mathlib.Core.Path.{◌≡◌}
use mathlib.Core.List.{List, [], ◌∷◌}
use Prim.Native.Nat.{ℕ, zero, suc, ◌-◌, ◌≤◌, ◌<◌}
use lib.ListN.{length, take, drop, get_or}
use Rattle.layout.specs.Layout.{index_at, offset_at}
use Rattle.card.specs.Card.{block_of, pointer}
use Rattle.ctz.proofs.Sounds.{at}
use Rattle.plain.specs.Reading.{Part, Given}

-- Two images of one length that hold the same in every block of the list of the first.
pub record SameBlocks (image image' : List ℕ) (B head size : ℕ) : Type 0 where
  pub long : length image ≡ length image'
  pub block : 0 < size → (i : ℕ) → i ≤ index_at B (size - 1)
      → block_of B image (at (pointer B image) head (index_at B (size - 1)) i)
      ≡ block_of B image' (at (pointer B image) head (index_at B (size - 1)) i)

-- Last index first, each index down to 0 once (01, "Visit"): f i, .., f 1, f 0.
unfoldable pub countdown : (ℕ → ℕ) → ℕ → List ℕ
countdown f zero = f 0 ∷ []
countdown f (suc i) = f (suc i) ∷ countdown f i

-- byte p of the list with that head at index top
abbrev pub byte_over : List ℕ → ℕ → ℕ → ℕ → ℕ → ℕ
byte_over image B head top p = get_or (block_of B image (at (pointer B image) head top (index_at B p))) (offset_at B p) 0

-- The pointers behind a full last block: the first to head, each next read from the block just named.
unfoldable pub link : (ℕ → ℕ → ℕ) → ℕ → ℕ → ℕ
link ptr head zero = head
link ptr head (suc x) = ptr (link ptr head x) x

-- the bytes of a part; a refusal gives the empty part too
abbrev pub part_bytes : List ℕ → Part → List ℕ
part_bytes image (Given place length) = take length (drop place image)
part_bytes image Part.Damaged = []
part_bytes image Part.Refused = []
