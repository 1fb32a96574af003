-- Demand 3: lookup follows as few pointers as any chain of stored pointers from the last block to the position's block, and reports that number.
use Rattle.std.specs.Prelude.{◌≡◌, List, ℕ, ◌+◌, ◌-◌, ◌*◌, ◌≤◌}
use Rattle.layout.specs.Layout.{BlockSize, Position, BlockList, index_at, offset_at}
use Rattle.hops.specs.Walk.{log2, hops, Route, route_length}
use Rattle.card.specs.Card.{Card, pointer}
use Rattle.ctz.specs.Lists.{top_of, block_at}
use Rattle.ctz.specs.Lookup.{found_at, lookup_of}

-- A chain of pointers that the image stores, from the head, at the index of the last byte, to the block of position p, at its index.
abbrev pub Stored : BlockSize → List ℕ → BlockList → Position → Type 0
Stored B image l p = Route (pointer B image) (index_at B p) (block_at B image l (index_at B p)) (top_of B l) l.head

-- What demand 3 says of position p.
pub record Fewest (c : Card) (l : BlockList) (p : ℕ) : Type 0 where
  -- the number of pointers that the lookup reports, with the position's block and offset
  pub number : ℕ
  pub answer : lookup_of c l p ≡ found_at (block_at c.B c.image l (index_at c.B p)) (offset_at c.B p) number
  -- it is the length of 01's walk over the indexes; some chain is as long, and no chain is shorter
  pub walked : number ≡ hops (record { from = top_of c.B l; to = index_at c.B p })
  pub chain : (r : Stored c.B c.image l p) × (route_length r ≡ number)
  pub least : (r : Stored c.B c.image l p) → number ≤ route_length r
  -- at index distance 0 none, at 1 one, from 2 on at most twice the whole part of log2
  pub none : top_of c.B l ≡ index_at c.B p → number ≡ 0
  pub one : top_of c.B l ≡ index_at c.B p + 1 → number ≡ 1
  pub twice : index_at c.B p + 2 ≤ top_of c.B l → number ≤ 2 * log2 (top_of c.B l - index_at c.B p)
