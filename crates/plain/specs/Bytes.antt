-- The plain file of a list (01, "How a list is laid out"): data fills the blocks behind their pointers, block after block, and position p
-- in index i lies at its offset.
use Rattle.std.specs.Prelude.{List, [], ◌∷◌, ℕ, zero, suc, get_or}
use Rattle.layout.specs.Layout.{BlockSize, Position, BlockList, index_at, offset_at}
use Rattle.card.specs.Card.{block_of}
use Rattle.ctz.specs.Lists.{block_at}

-- byte p of a list: at the position's offset in the block of its index
abbrev pub byte_at : BlockSize → List ℕ → BlockList → Position → ℕ
byte_at B image l p = get_or (block_of B image (block_at B image l (index_at B p))) (offset_at B p) 0

-- n values of f, from position a on
unfoldable pub span : (Position → ℕ) → Position → ℕ → List ℕ
span f a zero = []
span f a (suc n) = f a ∷ span f (suc a) n

-- the plain file of a list: its bytes in order
unfoldable pub bytes : BlockSize → List ℕ → BlockList → List ℕ
bytes B image l = span (byte_at B image l) 0 l.size
