-- The first fault of a list (01, "How a list is laid out"): first the pointer-0 walk from the top (number not below N, then number met
-- before), and if that is clean the further pointers, index falling, pointer number rising.
use Rattle.std.specs.Prelude.{◌≡◌, ◌≢◌, ℕ, suc, ◌≤◌, ◌<◌}
use Rattle.layout.specs.Numbers.{null_block}
use Rattle.layout.specs.Layout.{Index, BlockNumber, BlockList}
use Rattle.hops.specs.Walk.{ctz}
use Rattle.card.specs.Card.{Card}
use Rattle.ctz.specs.Lists.{top_of, block_at, Names}
use Rattle.audit.specs.declared.Fault.{Fault}
use Rattle.audit.specs.declared.Fault.TheVariants.{NotBelow, MetBefore, Disagrees, NotNull}

-- the block number at index i
abbrev pub block_in : Card → BlockList → Index → BlockNumber
block_in c l i = block_at c.B c.image l i

-- The walk is clean at the indexes from j to the top: their numbers are below N and all different.
pub record CleanFrom (c : Card) (l : BlockList) (j : ℕ) : Type 0 where
  pub below : (i : ℕ) → j ≤ i → i ≤ top_of c.B l → block_in c l i < c.N
  pub apart : (i k : ℕ) → j ≤ i → i < k → k ≤ top_of c.B l → block_in c l i ≢ block_in c l k

-- the further pointers of the indexes from j to the top agree
abbrev pub AgreeFrom : Card → BlockList → Index → Type 0
AgreeFrom c l j = (i x : ℕ) → j ≤ i → 0 < i → i ≤ top_of c.B l → 1 ≤ x → x ≤ ctz i → Names c.B c.image l i x

-- The first fault of a list that is not empty. On the walk it carries the index that the number should name, and 0; afterwards the holding
-- index and its pointer.
pub data FirstFault (c : Card) (l : BlockList) : Fault → Type 0 where
  not_below : (j : ℕ) → j ≤ top_of c.B l → CleanFrom c l (suc j) → c.N ≤ block_in c l j → FirstFault c l (NotBelow j 0)
  met_before : (j i : ℕ) → CleanFrom c l (suc j) → block_in c l j < c.N
      → j < i → i ≤ top_of c.B l → block_in c l j ≡ block_in c l i → FirstFault c l (MetBefore j 0)
  disagrees : (j x : ℕ) → CleanFrom c l 0 → 0 < j → j ≤ top_of c.B l → 1 ≤ x → x ≤ ctz j
      → AgreeFrom c l (suc j) → ((y : ℕ) → 1 ≤ y → y < x → Names c.B c.image l j y)
      → (Names c.B c.image l j x → ⊥) → FirstFault c l (Disagrees j x)

-- The first fault of the list of a file: an empty list whose head is not null has a fault of its own.
pub data ListFault (c : Card) (l : BlockList) : Fault → Type 0 where
  not_null : l.size ≡ 0 → l.head ≢ null_block → ListFault c l (NotNull 0 0)
  on_list : {f : Fault} → 0 < l.size → FirstFault c l f → ListFault c l f
