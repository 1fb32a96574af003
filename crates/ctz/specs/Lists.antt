-- The blocks of a list, and when it is sound (01, "How a list is laid out").
use Rattle.std.specs.Prelude.{◌≡◌, List, ℕ, zero, suc, ◌-◌, ◌^◌, ◌≤◌, ◌<◌}
use Rattle.layout.specs.Numbers.{null_block}
use Rattle.layout.specs.Layout.{BlockSize, Index, BlockNumber, BlockList, index_at}
use Rattle.hops.specs.Walk.{ctz}
use Rattle.card.specs.Card.{Card, pointer}

-- the number that lies d indexes below block k, by pointer 0; ptr k x is the number that block k stores as its pointer x
unfoldable pub down : (BlockNumber → ℕ → BlockNumber) → BlockNumber → ℕ → BlockNumber
down ptr k zero = k
down ptr k (suc d) = ptr (down ptr k d) 0

-- the index of a list's last block, that of its last byte (an empty list has none: here size - 1 stops at 0)
abbrev pub top_of : BlockSize → BlockList → Index
top_of B l = index_at B (l.size - 1)

-- the block number at index i of a list, by pointer 0 from the head down
abbrev pub block_at : BlockSize → List ℕ → BlockList → Index → BlockNumber
block_at B image l i = down (pointer B image) l.head (top_of B l - i)

-- further pointer x of index i names the block of index i - 2 ^ x
abbrev pub Names : BlockSize → List ℕ → BlockList → Index → ℕ → Type 0
Names B image l i x = pointer B image (block_at B image l i) x ≡ block_at B image l (i - 2 ^ x)

-- Sound: the blocks reached by pointer 0 from the head down to index 0 are below N and all different, and each further pointer agrees with them.
pub record Sound (c : Card) (l : BlockList) : Type 0 where
  pub below : (i : ℕ) → i ≤ top_of c.B l → block_at c.B c.image l i < c.N
  pub apart : (i j : ℕ) → i ≤ top_of c.B l → j ≤ top_of c.B l → block_at c.B c.image l i ≡ block_at c.B c.image l j → i ≡ j
  pub agree : (i x : ℕ) → 0 < i → i ≤ top_of c.B l → 1 ≤ x → x ≤ ctz i → Names c.B c.image l i x

-- The list of a file. An empty list is sound exactly if its head is null.
pub record SoundList (c : Card) (l : BlockList) : Type 0 where
  pub null : l.size ≡ 0 → l.head ≡ null_block
  pub list : 0 < l.size → Sound c l
