-- What a lookup answers (01, "Lookup, visit, grow").
use Rattle.std.specs.Prelude.{true, false, Result, Ok, Err, ℕ, zero, suc, ◌-◌, ◌^◌, ltb, eqb}
use Rattle.layout.specs.declared.Refusal.{Refusal}
use Rattle.layout.specs.declared.Refusal.TheVariants.{Invalid, Damaged}
use Rattle.layout.specs.Numbers.{null_block, size_max}
use Rattle.layout.specs.Layout.{Index, Position, BlockNumber, BlockList, index_at, offset_at}
use Rattle.hops.specs.Walk.{jump}
use Rattle.card.specs.Card.{Card, is_card, pointer}
use Rattle.ctz.specs.declared.Found.{Found}
use Rattle.ctz.specs.Lists.{top_of}

-- what a walk reads of a card: how many blocks there are, and the number that block k stores as its pointer x
pub record Pointers : Type 0 where
  pub N : ℕ
  pub stored : BlockNumber → ℕ → BlockNumber

abbrev pub pointers_in : Card → Pointers
pointers_in c = record { N = c.N; stored = pointer c.B c.image }

-- where a lookup leads
pub record Target : Type 0 where
  pub index : Index
  pub offset : ℕ

-- where it stands: in the block of an index, after so many hops
pub record Stand : Type 0 where
  pub index : Index
  pub block : BlockNumber
  pub hops : ℕ

-- one hop, by pointer x
abbrev pub hopped : Pointers → Stand → ℕ → Stand
hopped v s x = record { index = s.index - 2 ^ x; block = v.stored s.block x; hops = suc s.hops }

-- what a lookup that ends at block k answers: the offset there, and how many hops it took
abbrev pub found_at : BlockNumber → ℕ → ℕ → Result Found Refusal
found_at k o h = Ok (record { block = k; offset = o; hops = h })

-- A number not below N is -84; at the target the walk ends; else one hop takes pointer min(whole part of log2(current - target), ctz(current)).
-- Each hop lowers the index, so fuel of one more than the index never runs out.
unfoldable pub walk : ℕ → Pointers → Target → Stand → Result Found Refusal
walk zero v t s = Err Damaged
walk (suc fuel) v t s =
    elim (ltb s.block v.N) [
      | false ↦ Err Damaged
      | true ↦ elim (ltb t.index s.index) [
        | false ↦ found_at s.block t.offset s.hops
        | true ↦ walk fuel v t (hopped v s (jump (record { from = s.index; to = t.index })))
      ]
    ]

-- from the head, at the index of size - 1, to the index of position p
unfoldable pub walk_to : Card → BlockList → Position → Result Found Refusal
walk_to c l p =
    walk (suc (top_of c.B l)) (pointers_in c)
    (record { index = index_at c.B p; offset = offset_at c.B p })
    (record { index = top_of c.B l; block = l.head; hops = 0 })

-- Card, then a size above the largest: -22. Size 0 gives the null block, offset 0 and zero hops, whatever the position.
-- Otherwise a position at or past the size is -22.
unfoldable pub lookup_of : Card → BlockList → Position → Result Found Refusal
lookup_of c l p =
    elim (is_card c) [
      | false ↦ Err Invalid
      | true ↦ elim (ltb size_max l.size) [
        | true ↦ Err Invalid
        | false ↦ elim (eqb l.size 0) [
          | true ↦ found_at null_block 0 0
          | false ↦ elim (ltb p l.size) [ false ↦ Err Invalid | true ↦ walk_to c l p ]
        ]
      ]
    ]
