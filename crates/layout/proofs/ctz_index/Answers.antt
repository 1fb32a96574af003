-- `layout::ctz_index` meets its contract: the one test, then what index and offset ensure. Assumes nothing.
use borrow.Author.Tests.{lt-ltb, le-ltb}
use Rattle.layout.specs.Layout.{place_of}
use Rattle.layout.proofs.ctz_index.Goals as goal

pub returns-then-block_size-lt128 : goal.returns-then-block_size-lt128
unfolding place_of
returns-then-block_size-lt128 c = simp (lt-ltb _ _ c.if-block_size-lt128.true)

pub returns : goal.returns
unfolding place_of
returns c = simp (le-ltb _ _ c.if-block_size-lt128.false, c.index_at-index.ensures, c.offset_at.ensures)
