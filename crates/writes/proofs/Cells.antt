-- Bytes and pointers of blocks after a store into one of them. Assumes nothing.
use mathlib.Core.Path.{◌≡◌, sym, ap, ◌∙◌}
use mathlib.Core.Logic.{◌≢◌, ◌⊎◌, inl, inr, ⊎_elim}
use mathlib.Core.List.{List, [], ◌∷◌, ◌++◌}
use Prim.Native.Nat.{ℕ, zero, suc, ◌+◌, ◌*◌, ◌≤◌, ◌<◌}
use native.Mathlib.Nat.{add_assoc, mul_comm}
use native.Mathlib.Omega.{arith}
use lib.ListN.{length, get_or, drop, length-take, length-drop}
use lib.Seq.{get_or-take, get_or-drop}
use Rattle.span.specs.Words.{word_at, bytes32}
use Rattle.span.proofs.Runs.{get_d_sets_in, get_d_sets_out}
use Rattle.span.proofs.Words.{word_same, word_part, word_of_bytes32}
use Rattle.layout.specs.Layout.{index_at, offset_at}
use Rattle.card.specs.Card.{pointer}
use Rattle.card.specs.inner.Cards.{CardFacts}
use Rattle.card.proofs.Cards.{block_inside}
use Rattle.device.specs.Device.{stored}
use Rattle.device.specs.inner.Bounds.{spot}
use Rattle.device.proofs.Bounds.{blocks_apart}
use Rattle.device.proofs.Frame.{stored_length}
use Rattle.grow.specs.inner.Grow.{part}

-- byte o of block k: block k starts at byte k times B
unfoldable pub cell : ℕ → List ℕ → ℕ → ℕ → ℕ
cell B img k o = get_or img (k * B + o) 0

-- byte p of a file whose blocks are f, a function from index to block: position p lies in the block of its index, at its offset
unfoldable pub byte_by : ℕ → List ℕ → (ℕ → ℕ) → ℕ → ℕ
byte_by B img f p = cell B img (f (index_at B p)) (offset_at B p)

-- its first s bytes
unfoldable pub bytes_by : ℕ → List ℕ → (ℕ → ℕ) → ℕ → List ℕ
bytes_by B img f zero = []
bytes_by B img f (suc s) = bytes_by B img f s ++ (byte_by B img f s ∷ [])

-- a byte of one block is in no other
other : (B k k' o : ℕ) → o < B → k' ≢ k → (k * B + o < k' * B) ⊎ (k' * B + B ≤ k * B + o)
other B k k' o h ne = ⊎_elim (λ a. inr (omega arith)) (λ a. inl (omega arith)) (blocks_apart B k' k ne)

-- ---- a block with bytes vs stored from offset o on
module _ (B k o : ℕ) (vs img : List ℕ) where
  -- the image is a card as before
  pub stored_card : (N : ℕ) → CardFacts B N (length img) → CardFacts B N (length (stored B img (spot k o) vs))
  stored_card N c = rw (stored_length B k o vs img) c

  -- other blocks stand
  pub stored_other : o + length vs ≤ B → (k' o' : ℕ) → k ≢ k' → o' < B → cell B (stored B img (spot k o) vs) k' o' ≡ cell B img k' o'
  unfolding stored cell
  stored_other r k' o' ne h = get_d_sets_out img (k * B + o) vs (k' * B + o') 0 (go (other B k' k o' h ne))
    where
      go : (k' * B + o' < k * B) ⊎ (k * B + B ≤ k' * B + o') → (k' * B + o' < k * B + o) ⊎ (k * B + o + length vs ≤ k' * B + o')
      go (inl a) = inl (omega arith)
      go (inr a) = inr (omega arith)

  -- so do its bytes before and behind
  pub stored_out : (o' : ℕ) → (o' < o) ⊎ (o + length vs ≤ o') → cell B (stored B img (spot k o) vs) k o' ≡ cell B img k o'
  unfolding stored cell
  stored_out o' h = get_d_sets_out img (k * B + o) vs (k * B + o') 0 (go h)
    where
      go : (o' < o) ⊎ (o + length vs ≤ o') → (k * B + o' < k * B + o) ⊎ (k * B + o + length vs ≤ k * B + o')
      go (inl a) = inl (omega arith)
      go (inr a) = inr (omega arith)

  -- and vs stand where they were stored
  pub stored_in_lem : (N : ℕ) → CardFacts B N (length img) → k < N → o + length vs ≤ B → (i : ℕ) → i < length vs
      → cell B (stored B img (spot k o) vs) k (o + i) ≡ get_or vs i 0
  unfolding stored cell
  stored_in_lem N c l r i h =
      rw (← add_assoc (k * B) o i) (get_d_sets_in img (k * B + o) vs i 0 h (omega (arith, block_inside {k = k} c l)))

-- ---- a part of a block

-- it is as long as it is asked for
pub part_length : (B N f o n : ℕ) (img : List ℕ) → CardFacts B N (length img) → f < N → o + n ≤ B → length (part B f o n img) ≡ n
unfolding part
part_length B N f o n img c l h = simp (length-take, length-drop) (omega (arith, block_inside {k = f} c l))

-- and its bytes are the block's, from offset o on
pub part_at : (B f o n : ℕ) (img : List ℕ) (i : ℕ) → i < n → get_or (part B f o n img) i 0 ≡ cell B img f (o + i)
unfolding part cell
part_at B f o n img i h =
    get_or-take n (drop (f * B + o) img) i 0 h ∙ get_or-drop (f * B + o) img i 0 ∙ ap (λ (x : ℕ). get_or img x 0) (add_assoc (f * B) o i)

-- ---- pointers

-- a pointer is a word of the image
pointer_word : (B : ℕ) (img : List ℕ) (k x : ℕ) → 4 * x + 4 ≤ B → pointer B img k x ≡ word_at img (k * B + 4 * x)
unfolding pointer
pointer_word B img k x h =
    word_part (k * B) B img (x * 4) (omega arith) ∙ ap (λ (o : ℕ). word_at img (k * B + o)) (mul_comm x 4)

-- four bytes that agree name the same block
pub pointer_same : (B : ℕ) (img img' : List ℕ) (k k' x : ℕ) → 4 * x + 4 ≤ B
    → ((o : ℕ) → 4 * x ≤ o → o < 4 * x + 4 → cell B img' k' o ≡ cell B img k o) → pointer B img' k' x ≡ pointer B img k x
unfolding cell
pointer_same B img img' k k' x r h =
    pointer_word B img' k' x r
    ∙ word_same img' (k' * B + 4 * x) img (k * B + 4 * x)
    (λ d l. rw (add_assoc (k' * B) (4 * x) d, add_assoc (k * B) (4 * x) d) (h (4 * x + d) (omega arith) (omega arith)))
    ∙ sym (pointer_word B img k x r)

-- a pointer reads as it was stored
pub pointer_stored : (B N k x v : ℕ) (img : List ℕ) → CardFacts B N (length img) → k < N → 4 * x + 4 ≤ B → v < N
    → pointer B (stored B img (spot k (4 * x)) (bytes32 v)) k x ≡ v
unfolding stored
pointer_stored B N k x v img c l r h =
    pointer_word B (stored B img (spot k (4 * x)) (bytes32 v)) k x r
    ∙ word_of_bytes32 img (k * B + 4 * x) v (omega (arith, c.few)) (omega (arith, block_inside {k = k} c l))
