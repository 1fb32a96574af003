-- A list is sound (01) exactly if the blocks that pointer 0 meets from its head carry it. Assumes nothing.
use mathlib.Core.Path.{◌≡◌, ap, ◌∙◌}
use mathlib.Core.List.{List}
use Prim.Native.Nat.{ℕ, zero, suc, ◌-◌, ◌^◌, ◌≤◌, ◌<◌}
use native.Mathlib.Omega.{arith}
use Rattle.layout.specs.Layout.{pointers, start, index_at}
use Rattle.layout.specs.inner.Served.{BlockSized, block_list}
use Rattle.layout.proofs.Laws.{start_mono, pointers_zero, pointers_pos}
use Rattle.card.specs.Card.{pointer}
use Rattle.card.specs.inner.Cards.{card_with}
use Rattle.ctz.specs.Lists.{down, SoundList, block_at}
use Rattle.writes.proofs.Index.{index_le}
use Rattle.writes.proofs.Holds.{used, renames, at_is, Holds}

module _ (B N : ℕ) (sized : BlockSized B) (img : List ℕ) (head s : ℕ) (short : s < 2 ^ 32) where
  abbrev top : ℕ
  top = index_at B (s - 1)

  -- the indexes in use are those up to that of the last byte
  low : (i : ℕ) → start B i < s → i ≤ top
  low i u = index_le B sized (s - 1) i (omega arith) (omega arith)

  -- and the other way round
  pub in_use : 0 < s → (i : ℕ) → i ≤ index_at B (s - 1) → start B i < s
  in_use p i l = omega (arith, start_mono B i top l, used B N sized (s - 1) s (omega arith) short)

  -- pointer 0 of a block leads to the block below
  step : (i : ℕ) → suc i ≤ top → pointer B img (block_at B img (block_list head s) (suc i)) 0 ≡ block_at B img (block_list head s) i
  unfolding down
  step i l = let e : top - i ≡ suc (top - suc i) = omega arith in rw e

  -- a sound list is carried by its blocks
  pub list_holds : SoundList (card_with B N img) (block_list head s) → Holds B N img (block_at B img (block_list head s)) s
  list_holds l = record {
    short = short;
    low = λ i u. (l.list (omega arith)).below i (low i u);
    apart = λ i j u v e. (l.list (omega arith)).apart i j (low i u) (low j v) e;
    points = λ i x u g. points i x u g;
  }
    where
      points : (i x : ℕ) → start B i < s → x < pointers i → pointer B img (block_at B img (block_list head s) i) x ≡ block_at B img (block_list head s) (i - 2 ^ x)
      points zero x u g = absurd (omega (arith, pointers_zero))
      points (suc i) zero u g = step i (low (suc i) u) ∙ ap (block_at B img (block_list head s)) (omega arith)
      points (suc i) (suc x) u g =
          (l.list (omega arith)).agree (suc i) (suc x) (omega arith) (low (suc i) u) (omega arith)
          (omega (arith, pointers_pos (suc i) (λ z. omega arith)))

  -- blocks that carry a list whose head is the block of its last byte make it sound
  pub holds_list : (f : ℕ → ℕ) → Holds B N img f s → (0 < s → f (index_at B (s - 1)) ≡ head) → (s ≡ 0 → head ≡ 4294967295)
      → SoundList (card_with B N img) (block_list head s)
  holds_list f h t n = record {
    null = n;
    list = λ p. record {
      below = λ i l. r.low i (in_use p i l);
      apart = λ i j l m e. r.apart i j (in_use p i l) (in_use p j m) e;
      agree = λ i x o l m c. r.points i x (in_use p i l) (omega (arith, pointers_pos i (λ z. omega arith)));
    };
  }
    where
      r : Holds B N img (block_at B img (block_list head s)) s
      r = renames B N sized img f (block_at B img (block_list head s)) s (at_is B N sized img f head s h t) h
