-- Lists and their bytes: another image, a smaller size, other names for the same blocks, and the walk by pointer 0. Assumes nothing.
use mathlib.Core.Path.{◌≡◌, refl, sym, ap, ◌∙◌}
use mathlib.Core.Logic.{◌⊎◌, inl, inr}
use mathlib.Core.List.{List, [], ◌∷◌, ◌++◌}
use Prim.Native.Nat.{ℕ, zero, suc, ◌-◌, ◌^◌, ◌≤◌, ◌<◌}
use native.Mathlib.Decide.{dec_lt}
use native.Mathlib.Omega.{arith}
use lib.ListN.{length, get_or, length-append, get_or-append}
use lib.Seq.{get_or_at}
use Rattle.layout.specs.Layout.{pointers, start, index_at, offset_at}
use Rattle.layout.specs.inner.Served.{BlockSized, block_list}
use Rattle.layout.proofs.Laws.{start_mono}
use Rattle.layout.proofs.Places.{offset_inside}
use Rattle.card.specs.Card.{pointer}
use Rattle.ctz.specs.Lists.{down, block_at}
use Rattle.writes.proofs.Cells.{pointer_same, cell, byte_by, bytes_by}
use Rattle.writes.proofs.Index.{in_block, roomy, index_le, pointers_some}

-- The blocks f, a function from index to block, carry a list of s bytes: those in use are below N and all different, and every pointer agrees with them
-- (01, "A list is sound if .."). Index i is in use exactly if it starts below s: an empty list uses none.
pub record Holds (B N : ℕ) (img : List ℕ) (f : ℕ → ℕ) (s : ℕ) : Type 0 where
  pub short : s < 2 ^ 32
  pub low : (i : ℕ) → start B i < s → f i < N
  pub apart : (i j : ℕ) → start B i < s → start B j < s → f i ≡ f j → i ≡ j
  pub points : (i x : ℕ) → start B i < s → x < pointers i → pointer B img (f i) x ≡ f (i - 2 ^ x)

-- below, or not
pub either : (p s : ℕ) → (p < s) ⊎ (s ≤ p)
either p s = elim (dec_lt p s) [ yes h ↦ inl h | no h ↦ inr (omega (arith, h)) ]

-- the two images agree on the blocks that f uses up to s
abbrev pub Agree : ℕ → (ℕ → ℕ) → ℕ → List ℕ → List ℕ → Type 0
Agree B f s img img' = (i o : ℕ) → start B i < s → o < B → cell B img' (f i) o ≡ cell B img (f i) o

-- byte p of a file, where its index and offset are known
pub byte_at : (B : ℕ) (img : List ℕ) (f : ℕ → ℕ) (p i o : ℕ) → index_at B p ≡ i → offset_at B p ≡ o → byte_by B img f p ≡ cell B img (f i) o
unfolding byte_by
byte_at B img f p i o a e = rw (a, e)

-- ---- bytes as a list
module _ (B : ℕ) (img : List ℕ) (f : ℕ → ℕ) where
  -- they are s bytes
  pub bytes_length : (s : ℕ) → length (bytes_by B img f s) ≡ s
  unfolding bytes_by
  bytes_length zero = refl
  bytes_length (suc s) = length-append (bytes_by B img f s) (byte_by B img f s ∷ []) ∙ omega (arith, bytes_length s)

  -- byte p of them is the file's byte p
  pub bytes_at_lem : (s p : ℕ) → p < s → get_or (bytes_by B img f s) p 0 ≡ byte_by B img f p
  unfolding bytes_by
  bytes_at_lem zero p h = absurd (omega arith)
  bytes_at_lem (suc s) p h = go (either p s) (bytes_at_lem s p)
    where
      go : (p < s) ⊎ (s ≤ p) → (p < s → get_or (bytes_by B img f s) p 0 ≡ byte_by B img f p) → get_or (bytes_by B img f s ++ (byte_by B img f s ∷ [])) p 0 ≡ byte_by B img f p
      go (inl l) ih = get_or-append (bytes_by B img f s) (byte_by B img f s ∷ []) 0 p (rw (bytes_length s) l) ∙ ih l
      go (inr l) ih =
          let e : s ≡ p = omega arith in
          get_or_at (bytes_by B img f s) (byte_by B img f s) [] 0 p (bytes_length s ∙ e) ∙ ap (byte_by B img f) e

-- files with equal bytes are equal lists
pub bytes_same : (B : ℕ) (img img' : List ℕ) (f g : ℕ → ℕ) (s : ℕ) → ((p : ℕ) → p < s → byte_by B img' g p ≡ byte_by B img f p)
    → bytes_by B img' g s ≡ bytes_by B img f s
unfolding bytes_by
bytes_same B img img' f g zero h = refl
bytes_same B img img' f g (suc s) h =
    rw (bytes_same B img img' f g s (λ p l. h p (omega arith)), h s (omega arith)) refl

module _ (B N : ℕ) (sized : BlockSized B) where
  -- the block of each position is in use
  pub used : (p s : ℕ) → p < s → s < 2 ^ 32 → start B (index_at B p) < s
  used p s h l = omega (arith, (in_block B sized p (omega arith)).from)

  -- a list that another image carries as well
  pub moves : (img img' : List ℕ) (f : ℕ → ℕ) (s : ℕ) → Holds B N img f s → Agree B f s img img' → Holds B N img' f s
  moves img img' f s h a = record {
    short = h.short;
    low = h.low;
    apart = h.apart;
    points = λ i x l g.
        let r = roomy B sized s i h.short (omega arith) in
        pointer_same B img img' (f i) (f i) x (omega arith) (λ o p q. a i o l (omega arith)) ∙ h.points i x l g;
  }

  -- and its bytes
  pub byte_moves : (img img' : List ℕ) (f : ℕ → ℕ) (s : ℕ) → s < 2 ^ 32 → Agree B f s img img' → (p : ℕ) → p < s → byte_by B img' f p ≡ byte_by B img f p
  unfolding byte_by
  byte_moves img img' f s l a p h = a (index_at B p) (offset_at B p) (used p s h l) (offset_inside B p (in_block B sized p (omega arith)))

  -- so the whole file
  pub bytes_moves : (img img' : List ℕ) (f : ℕ → ℕ) (s : ℕ) → s < 2 ^ 32 → Agree B f s img img' → bytes_by B img' f s ≡ bytes_by B img f s
  bytes_moves img img' f s l a = bytes_same B img img' f f s (byte_moves img img' f s l a)

  -- its front
  pub shrinks : (img : List ℕ) (f : ℕ → ℕ) (q s : ℕ) → q ≤ s → Holds B N img f s → Holds B N img f q
  shrinks img f q s l h = record {
    short = omega (arith, h.short);
    low = λ i g. h.low i (omega arith);
    apart = λ i j g g'. h.apart i j (omega arith) (omega arith);
    points = λ i x g. h.points i x (omega arith);
  }

  -- the same blocks under another name
  pub renames : (img : List ℕ) (f g : ℕ → ℕ) (s : ℕ) → ((i : ℕ) → start B i < s → g i ≡ f i) → Holds B N img f s → Holds B N img g s
  renames img f g s e h = record {
    short = h.short;
    low = λ i l. rw (e i l) (h.low i l);
    apart = λ i j l m q. h.apart i j l m (sym (e i l) ∙ q ∙ e j m);
    points = λ i x l m.
        rw (e i l) (h.points i x l m) ∙ sym (e (i - 2 ^ x) (omega (arith, start_mono B (i - 2 ^ x) i (omega arith))));
  }

  -- the walk by pointer 0 from the block of index t meets them
  down_is : (img : List ℕ) (f : ℕ → ℕ) (s t : ℕ) → Holds B N img f s → start B t < s → (d : ℕ) → d ≤ t
      → down (pointer B img) (f t) d ≡ f (t - d)
  unfolding down
  down_is img f s t h u zero l = ap f (omega arith)
  down_is img f s t h u (suc d) l =
      let e : t - d ≡ suc (t - suc d) = omega arith in
      let n : suc (t - suc d) - 2 ^ 0 ≡ t - suc d = omega arith in
      let v : start B (suc (t - suc d)) < s = omega (arith, start_mono B (suc (t - suc d)) t (omega arith)) in
      ap (λ (k : ℕ). pointer B img k 0) (down_is img f s t h u d (omega arith) ∙ ap f e)
      ∙ h.points (suc (t - suc d)) 0 v (pointers_some (t - suc d)) ∙ ap f n

  -- so the list whose head is the block of its last byte has these blocks
  pub at_is : (img : List ℕ) (f : ℕ → ℕ) (head s : ℕ) → Holds B N img f s → (0 < s → f (index_at B (s - 1)) ≡ head)
      → (i : ℕ) → start B i < s → block_at B img (block_list head s) i ≡ f i
  at_is img f head s h t i l =
      let le : i ≤ index_at B (s - 1) = index_le B sized (s - 1) i (omega (arith, h.short)) (omega arith) in
      ap (λ (k : ℕ). block_at B img (block_list k s) i) (sym (t (omega arith)))
      ∙ down_is img f s (index_at B (s - 1)) h (used (s - 1) s (omega arith) h.short) (index_at B (s - 1) - i) (omega arith)
      ∙ ap f (omega arith)

  -- and these bytes
  pub sound_bytes : (img : List ℕ) (f : ℕ → ℕ) (head s : ℕ) → Holds B N img f s → (0 < s → f (index_at B (s - 1)) ≡ head)
      → bytes_by B img (block_at B img (block_list head s)) s ≡ bytes_by B img f s
  unfolding byte_by
  sound_bytes img f head s h t =
      bytes_same B img img f (block_at B img (block_list head s)) s
      (λ p l. ap (λ (k : ℕ). cell B img k (offset_at B p)) (at_is img f head s h t (index_at B p) (used p s l h.short)))

  -- its last block is the head
  pub top_at : (img : List ℕ) (head s : ℕ) → block_at B img (block_list head s) (index_at B (s - 1)) ≡ head
  unfolding down
  top_at img head s = let e : index_at B (s - 1) - index_at B (s - 1) ≡ 0 = omega arith in rw e
