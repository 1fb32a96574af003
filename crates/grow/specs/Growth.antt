-- What a growth puts into a new block (01, "Lookup, visit, grow"): pointers, or a copy of the last block's bytes. Each number is read from the image as it
-- then stands.
use Rattle.std.specs.Prelude.{true, false, List, [], ℕ, zero, suc, ◌*◌, eqb, ltb, take}
use Rattle.span.specs.Words.{bytes32}
use Rattle.layout.specs.Layout.{pointers, index_at, offset_at}
use Rattle.card.specs.Card.{pointer, block_of}
use Rattle.device.specs.Device.{stored}
use Rattle.trials.specs.Trial.{Trial, Fault, ends, whole, more}
use Rattle.trials.specs.Loop.{Candidate}

-- the new block's index, and where in it the next byte of the file goes
abbrev pub index : Candidate → ℕ
index q = index_at q.B q.size

abbrev pub offset : Candidate → ℕ
offset q = offset_at q.B q.size

-- the image with vs in the new block, from offset o on
abbrev pub with : Candidate → List ℕ → ℕ → List ℕ → List ℕ
with q img o vs = stored q.B img (record { block = q.k; offset = o }) vs

-- pointer x of the new block, and the block that it names
pub record Link : Type 0 where
  pub x : ℕ
  pub names : ℕ

abbrev pub linked : Candidate → Link → List ℕ → List ℕ
linked q l img = with q img (4 * l.x) (bytes32 l.names)

-- the next pointer is read from the block just named
abbrev pub following : Candidate → Link → List ℕ → Link
following q l img = record { x = suc l.x; names = pointer q.B (linked q l img) l.names l.x }

-- n pointers, from that one on; each is tested before it is programmed
unfoldable pub links : Candidate → ℕ → Link → List ℕ → Trial
links q zero l img = whole []
links q (suc n) l img =
    elim (ltb l.names q.N) [
      | false ↦ ends Fault
      | true ↦ more (bytes32 l.names) (links q n (following q l img) (linked q l img))
    ]

-- A block that starts at this size gets its pointers, of which the first names the head: the first block has none. Otherwise the last block is incomplete,
-- and its bytes are copied. The head is tested before the first program.
unfoldable pub growth : Candidate → List ℕ → Trial
growth q img =
    elim (eqb (offset q) (4 * pointers (index q))) [
      | true ↦ links q (pointers (index q)) (record { x = 0; names = q.head }) img
      | false ↦ elim (ltb q.head q.N) [ true ↦ whole (take (offset q) (block_of q.B img q.head)) | false ↦ ends Fault ]
    ]
