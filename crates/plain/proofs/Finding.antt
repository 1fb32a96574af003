-- Lookup and visit of a sound list on an image, and demand 3. Assumes nothing.
use mathlib.Core.Path.{◌≡◌, refl, sym, ap, ◌∙◌}
use mathlib.Core.Bool.{true}
use mathlib.Core.List.{List}
use Prim.Native.Nat.{ℕ, ◌-◌, ◌<◌}
use native.Mathlib.Omega.{arith}
use Rattle.layout.specs.Layout.{index_at, offset_at}
use Rattle.layout.specs.inner.Served.{block_list}
use Rattle.hops.specs.Walk.{hops}
use Rattle.hops.specs.inner.Ways.{way}
use Rattle.hops.proofs.Bound.{bound_none, bound_one, bound}
use Rattle.card.specs.Card.{pointer}
use Rattle.card.specs.inner.Cards.{card_with}
use Rattle.ctz.specs.Lists.{SoundList}
use Rattle.ctz.specs.Lookup.{found_at, walk_to, lookup_of}
use Rattle.ctz.specs.Visits.{visit_of}
use Rattle.ctz.proofs.Walked.{found_parts}
use Rattle.ctz.proofs.Lookups.{lookup_walks}
use Rattle.ctz.proofs.Visiting.{visit_begins}
use Rattle.ctz.proofs.Sounds.{at, over}
use Rattle.plain.specs.Demand.{Fewest}
use Rattle.plain.specs.inner.Forms.{GoodList}
use Rattle.plain.proofs.Lookups.{walk_finds, least_stored, some_stored}
use Rattle.plain.proofs.Visits.{visited}
use Rattle.plain.proofs.Indexes.{index_le, top_small}
use Rattle.plain.proofs.Same.{countdown}

module _ {B N : ℕ} {image : List ℕ} {head size : ℕ} (g : GoodList B N image size) (s : SoundList (card_with B N image) (block_list head size)) where
  abbrev top : ℕ
  top = index_at B (size - 1)

  abbrev blk : ℕ → ℕ
  blk i = at (pointer B image) head top i

  -- the walk ends at the block of the position's index and its offset, after the hops of the walk over indexes
  pub walk_sound : (p : ℕ) → p < size → walk_to (card_with B N image) (block_list head size) p ≡ found_at (blk (index_at B p)) (offset_at B p) (hops (way top (index_at B p)))
  unfolding walk_to
  walk_sound p h = walk_finds (over (s.list (omega arith))) (top_small g (omega arith)) (offset_at B p) (index_at B p) (index_le B size p h)

  -- and that is what a lookup answers
  pub lookup_sound : (p : ℕ) → p < size → lookup_of (card_with B N image) (block_list head size) p ≡ found_at (blk (index_at B p)) (offset_at B p) (hops (way top (index_at B p)))
  lookup_sound p h = sym (lookup_walks B N image head size p g.good g.fits h) ∙ walk_sound p h

  -- whatever block a lookup answers is that of the position
  pub lookup_block : (p k o h : ℕ) → p < size → lookup_of (card_with B N image) (block_list head size) p ≡ found_at k o h → blk (index_at B p) ≡ k
  lookup_block p k o h l e = (found_parts (sym (lookup_sound p l) ∙ e)).0

  -- and so is its offset
  pub lookup_offset : (p k o h : ℕ) → p < size → lookup_of (card_with B N image) (block_list head size) p ≡ found_at k o h → offset_at B p ≡ o
  lookup_offset p k o h l e = (found_parts (sym (lookup_sound p l) ∙ e)).1

  -- DEMAND 3: the hops of a lookup are the length of the least chain of stored pointers, and few
  pub fewest : (p : ℕ) → p < size → Fewest (card_with B N image) (block_list head size) p
  fewest p h =
      let l = over (s.list (omega arith)) in
      let w = top_small g (omega arith) in
      record {
        number = hops (way top (index_at B p));
        answer = lookup_sound p h;
        walked = refl;
        chain = some_stored l w (index_at B p) (index_le B size p h);
        least = least_stored l w (index_at B p);
        none = λ e. ap (λ (i : ℕ). hops (way top i)) (sym e) ∙ bound_none top w;
        one = bound_one top (index_at B p) w;
        twice = bound top (index_at B p) w;
      }

  -- the visit of a list that is not empty hands over exactly its blocks, last index first
  pub visit_sound : 0 < size → visit_of (card_with B N image) (block_list head size) ≡ record { handed = countdown blk top; clean = true }
  visit_sound h = visit_begins B N image head size h ∙ visited (over (s.list h))
