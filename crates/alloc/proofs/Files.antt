-- The marking of one file, by the steps of its visit. Assumes nothing.
use mathlib.Core.Path.{◌≡◌, refl, ap, sym, ◌∙◌}
use mathlib.Core.Bool.{true, false}
use mathlib.Core.List.{List, [], ◌∷◌}
use Prim.Native.Nat.{ℕ, ◌-◌, ◌<◌}
use native.Mathlib.Omega.{arith}
use Rattle.std.specs.Prelude.{Ok, Err}
use Rattle.layout.specs.declared.Refusal.TheVariants.{Damaged}
use Rattle.layout.specs.Layout.{index_at}
use Rattle.layout.specs.inner.Served.{block_list}
use Rattle.card.specs.Card.{pointer}
use Rattle.card.specs.inner.Cards.{CardFacts, card_with}
use Rattle.ctz.specs.Visits.{Visited, visit_of}
use Rattle.ctz.specs.inner.Held.{visit_at, hand_on}
use Rattle.ctz.proofs.Visiting.{visit_from, visit_begins, visit_empty}
use Rattle.files.specs.declared.Entry.{Entry}
use Rattle.window.specs.Scan.{mark_map, mark_all, visit_answer}
use Rattle.window.specs.inner.Facts.{MarkAsked, window_on}
use Rattle.alloc.specs.Visits.{seen_from}
use Rattle.alloc.specs.inner.Facts.{FileAsked, FileMarked}

-- a block that the visit hands over can be marked
pub mark_asked : {start size B N len k : ℕ} {e : Entry} → CardFacts B N len → FileAsked start size N e → k < N → MarkAsked start size N k
mark_asked c f h = record { few = c.few; start_lt = f.start_lt; size_le = f.size_le; block_lt = h }

-- a visit that marks from the map `before` on comes to what another does that marks from the map `now` on
pub record Goes (start size N : ℕ) (before : List ℕ) (whole : Visited) (now : List ℕ) (rest : Visited) : Type 0 where
  pub marks : mark_all N (window_on start size before) whole.handed ≡ mark_all N (window_on start size now) rest.handed
  pub ends : whole.clean ≡ rest.clean

module _ {start size N : ℕ} {before : List ℕ} {whole : Visited} {now : List ℕ} {rest : Visited} (g : Goes start size N before whole now rest) where
  -- a block is handed over and marked, and the visit goes on
  pub goes_on : {after : List ℕ} {k : ℕ} {next : Visited} → rest ≡ hand_on k next → after ≡ mark_map N (window_on start size now) k
      → Goes start size N before whole after next
  unfolding mark_all
  goes_on {after} {k} {next} e m = record {
    marks = g.marks ∙ ap (λ (v : Visited). mark_all N (window_on start size now) v.handed) e ∙ ap (λ (x : List ℕ). mark_all N (window_on start size x) next.handed) (sym m);
    ends = g.ends ∙ ap (λ (v : Visited). v.clean) e;
  }

  -- .. or ends, with the last block or with -84
  pub goes_last : {after : List ℕ} {k : ℕ} → rest ≡ record { handed = k ∷ []; clean = true } → after ≡ mark_map N (window_on start size now) k
      → FileMarked start size N (seen_from whole) before after (Ok tt)
  unfolding mark_all
  goes_last e m = record {
    marks = m ∙ sym (g.marks ∙ ap (λ (v : Visited). mark_all N (window_on start size now) v.handed) e);
    ends = ap visit_answer (sym (g.ends ∙ ap (λ (v : Visited). v.clean) e));
  }

  pub goes_wrong : rest ≡ record { handed = []; clean = false } → FileMarked start size N (seen_from whole) before now (Err Damaged)
  unfolding mark_all
  goes_wrong e = record {
    marks = sym (g.marks ∙ ap (λ (v : Visited). mark_all N (window_on start size now) v.handed) e);
    ends = ap visit_answer (sym (g.ends ∙ ap (λ (v : Visited). v.clean) e));
  }

module _ (start size B N : ℕ) (image : List ℕ) (before : List ℕ) (head bytes : ℕ) where
  -- an empty file has no block
  pub no_block : bytes ≡ 0 → FileMarked start size N (seen_from (visit_of (card_with B N image) (block_list head bytes))) before before (Ok tt)
  unfolding mark_all
  no_block z = rw (visit_empty B N image head bytes z) (record { marks = refl; ends = refl })

  -- any other is visited from its last index
  pub goes : (top : ℕ) → (bytes ≡ 0 → ⊥) → top ≡ index_at B (bytes - 1)
      → Goes start size N before (visit_of (card_with B N image) (block_list head bytes)) before (visit_from (pointer B image) N (visit_at head top))
  goes top z e =
      let whole : visit_of (card_with B N image) (block_list head bytes) ≡ visit_from (pointer B image) N (visit_at head top) =
      rw e (visit_begins B N image head bytes (omega arith)) in
      rw whole (record { marks = refl; ends = refl })
