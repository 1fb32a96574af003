-- What read and stretch give of one list (01, "Store calls"), behind the tests of geometry, slices, table, file number and position.
use Rattle.std.specs.Prelude.{true, false, Result, Ok, Err, List, [], ◌++◌, ℕ, zero, suc, ◌+◌, ◌-◌, ◌*◌, min, ltb, take, drop}
use Rattle.layout.specs.declared.Refusal.{Refusal}
use Rattle.layout.specs.declared.Refusal.TheVariants as refusal
use Rattle.layout.specs.Layout.{BlockSize, Position, BlockList}
use Rattle.card.specs.Card.{Card}
use Rattle.ctz.specs.declared.Found.{Found}
use Rattle.ctz.specs.Lookup.{walk_to}

-- a part of the image, by its place and length; or -84, -22
pub data Part : Type 0 where
  Given : ℕ → ℕ → Part
  Damaged : Part
  Refused : Part

-- from where the position was found to the end of its block, or of the file, which has `rest` bytes from there on
abbrev pub part_of : BlockSize → ℕ → Result Found Refusal → Part
part_of B rest (Ok found) = Given (found.block * B + found.offset) (min (B - found.offset) rest)
part_of B rest (Err refusal.Damaged) = Part.Damaged
part_of B rest (Err other) = Part.Refused

-- A stretch: the bytes from a position to the end of its block or file; empty at or past the end. The empty part is at place 0.
unfoldable pub stretch_in : Card → BlockList → Position → Part
stretch_in c l p = elim (ltb p l.size) [ false ↦ Given 0 0 | true ↦ part_of c.B (l.size - p) (walk_to c l p) ]

-- the bytes that a read copies; or -84, -22
pub data Gathered : Type 0 where
  Bytes : List ℕ → Gathered
  Damaged : Gathered
  Refused : Gathered

-- a part, then what the rest gave
abbrev pub before : List ℕ → Gathered → Gathered
before part (Bytes rest) = Bytes (part ++ rest)
before part Gathered.Damaged = Gathered.Damaged
before part Gathered.Refused = Gathered.Refused

-- so many bytes from a position on
pub record Range : Type 0 where
  pub position : Position
  pub length : ℕ

-- what is left of a range behind its first n bytes
abbrev pub behind : Range → ℕ → Range
behind r n = record { position = r.position + n; length = r.length - n }

-- The bytes of a range, block after block. Every block touched is looked up first: on -84 nothing is copied. Each block gives at least one byte, so
-- f as large as the range's length never runs out.
unfoldable pub gather : ℕ → Card → BlockList → Range → Gathered
gather zero c l r = Bytes []
gather (suc f) c l r =
    elim (ltb 0 r.length) [
      | false ↦ Bytes []
      | true ↦ elim (walk_to c l r.position) [
        | Ok found ↦
            before (take (min (c.B - found.offset) r.length) (drop (found.block * c.B + found.offset) c.image))
            (gather f c l (behind r (min (c.B - found.offset) r.length)))
        | Err refusal.Damaged ↦ Gathered.Damaged
        | Err other ↦ Gathered.Refused
      ]
    ]

-- Read gives min(room, size - position) bytes: the range's length is the room. At or past the end `-` stops at 0, and there are none.
unfoldable pub read_in : Card → BlockList → Range → Gathered
read_in c l r =
    gather (min r.length (l.size - r.position)) c l
    (record { position = r.position; length = min r.length (l.size - r.position) })
