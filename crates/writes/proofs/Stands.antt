-- A list whose blocks stand is sound and reads as before. Assumes nothing.
use mathlib.Core.Path.{◌≡◌, ◌∙◌}
use mathlib.Core.List.{List}
use Prim.Native.Nat.{ℕ, ◌-◌, ◌^◌, ◌<◌}
use Rattle.layout.specs.Layout.{start, index_at}
use Rattle.layout.specs.inner.Served.{BlockSized, block_list}
use Rattle.card.specs.inner.Cards.{card_with}
use Rattle.ctz.specs.Lists.{SoundList, block_at}
use Rattle.writes.proofs.Holds.{moves, bytes_moves, at_is, top_at, sound_bytes, Holds}
use Rattle.writes.proofs.Lists.{list_holds, holds_list}
use Rattle.writes.proofs.Cells.{cell, bytes_by}
use Rattle.writes.proofs.Allocators.{Stays}

-- the list (head, s) on another image: sound, with the same blocks and the same bytes
pub record Stands (B N : ℕ) (img img' : List ℕ) (head s : ℕ) : Type 0 where
  pub list : SoundList (card_with B N img') (block_list head s)
  pub blocks : (i : ℕ) → start B i < s → block_at B img' (block_list head s) i ≡ block_at B img (block_list head s) i
  pub plain : bytes_by B img' (block_at B img' (block_list head s)) s ≡ bytes_by B img (block_at B img (block_list head s)) s

-- Every sound list of listed blocks is as it was wherever the listed blocks stand: so after each write, accepted or refused.
pub others_stand : (B N : ℕ) (L : ℕ → Type 0) (img img' : List ℕ) → BlockSized B → Stays B L img img' → (head s : ℕ) → s < 2 ^ 32
    → SoundList (card_with B N img) (block_list head s) → ((i : ℕ) → start B i < s → L (block_at B img (block_list head s) i)) → Stands B N img img' head s
others_stand B N L img img' sized st head s short l cl =
    let h : Holds B N img (block_at B img (block_list head s)) s = list_holds B N sized img head s short l in
    let a : (i o : ℕ) → start B i < s → o < B → cell B img' (block_at B img (block_list head s) i) o ≡ cell B img (block_at B img (block_list head s) i) o =
    λ i o u v. st (block_at B img (block_list head s) i) o (cl i u) v in
    let h' : Holds B N img' (block_at B img (block_list head s)) s = moves B N sized img img' (block_at B img (block_list head s)) s h a in
    let t : 0 < s → block_at B img (block_list head s) (index_at B (s - 1)) ≡ head = λ p. top_at B N sized img head s in
    record {
      list = holds_list B N sized img' head s short (block_at B img (block_list head s)) h' t l.null;
      blocks = at_is B N sized img' (block_at B img (block_list head s)) head s h' t;
      plain = sound_bytes B N sized img' (block_at B img (block_list head s)) head s h' t ∙ bytes_moves B N sized img img' (block_at B img (block_list head s)) s short a;
    }
