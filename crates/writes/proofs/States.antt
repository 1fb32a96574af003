-- What stands between two growths of a write, and that a growth whose block is not used keeps it. Assumes nothing.
use mathlib.Core.Path.{◌≡◌, ◌∙◌}
use mathlib.Core.Logic.{◌≢◌, inl, inr}
use mathlib.Core.List.{List}
use Prim.Native.Nat.{ℕ, ◌-◌, ◌^◌, ◌≤◌, ◌<◌}
use lib.ListN.{length}
use Rattle.layout.specs.Layout.{start, index_at}
use Rattle.card.specs.inner.Cards.{CardFacts}
use Rattle.trials.specs.Loop.{Took}
use Rattle.grow.specs.Extend.{GrowOut}
use Rattle.old_list.specs.Write.{Job, new, kept, Look, Found}
use Rattle.writes.proofs.Plain.{over_at}
use Rattle.writes.proofs.Holds.{moves, byte_moves, Holds}
use Rattle.writes.proofs.Grows.{Growing}
use Rattle.writes.proofs.Cells.{cell, byte_by, bytes_by}
use Rattle.writes.proofs.Allocators.{Stays, Allocator, MustStand}

-- what the file reads as in the end
abbrev pub want : ℕ → Job → List ℕ → (ℕ → ℕ) → ℕ → ℕ
want B j img f p = over_at (bytes_by B img f j.old) j.pos j.src p

-- the write's beginning: the image and the old list, whose blocks are listed
pub record Begin (look : List ℕ → ℕ → Look) (B N : ℕ) (j : Job) (L : ℕ → Type 0) (img : List ℕ) (f : ℕ → ℕ) : Type 0 where
  pub holds : Holds B N img f j.old
  pub clear : (i : ℕ) → start B i < j.old → L (f i)
  pub fits : new j < 2 ^ 32
  -- lookups find the old list's blocks as long as the listed blocks stand
  pub looks : (img' : List ℕ) → CardFacts B N (length img') → Stays B L img img' → (p : ℕ) → p < j.old → look img' p ≡ Found (f (index_at B p))

-- between two growths: (h, s) is a sound list with blocks f, and holds the front of the file to be
pub record Between {W : Type 0} (B N : ℕ) (j : Job) (L : ℕ → Type 0) (Ok : W → List ℕ → List ℕ → Type 0) (img₀ : List ℕ) (f₀ : ℕ → ℕ)
    (w : W) (out img : List ℕ) (f : ℕ → ℕ) (h s : ℕ) : Type 0 where
  pub card : CardFacts B N (length img)
  pub ok : Ok w out img
  pub holds : Holds B N img f s
  pub top : 0 < s → f (index_at B (s - 1)) ≡ h
  pub clear : (i : ℕ) → start B i < s → MustStand L out (f i)
  pub stays : Stays B L img₀ img
  pub reads : (p : ℕ) → p < s → byte_by B img f p ≡ want B j img₀ f₀ p
  pub from : kept j ≤ s
  pub until : s ≤ new j
  -- blocks below the index of the first byte that changes are kept; none from there on is listed
  pub old_ones : (i : ℕ) → i < index_at B (kept j) → f i ≡ f₀ i
  pub new_ones : (i : ℕ) → kept j < s → index_at B (kept j) ≤ i → start B i < s → (k : ℕ) → L k → f i ≢ k

module _ {W : Type 0} (B N : ℕ) (health : List ℕ) (tries : W → ℕ) (alloc : W → List ℕ → Took W)
    (L : ℕ → Type 0) (Ok : W → List ℕ → List ℕ → Type 0)
    (al : Allocator B N tries alloc L Ok)
    (j : Job) (img₀ : List ℕ) (f₀ : ℕ → ℕ) (w₀ : W) (out img : List ℕ) (f : ℕ → ℕ) (h s : ℕ)
    (st : Between B N j L Ok img₀ f₀ w₀ out img f h s) (o : GrowOut W)
    (g : Growing B N health tries alloc L Ok al out img f s o) where
  -- the listed blocks stand over this growth
  pub stood : Stays B L img₀ o.image
  stood k o' u l = g.stays k o' (inl u) l ∙ st.stays k o' u l

  -- what was known still is
  pub known : {k : ℕ} → MustStand L out k → MustStand L g.out' k
  known (inl a) = inl a
  known {k} (inr a) = inr (g.less k a)

  -- a growth whose block is not used
  pub passed : Between B N j L Ok img₀ f₀ o.rest g.out' o.image f h s
  passed =
      let sized = st.card.sized in
      let a : (i o' : ℕ) → start B i < s → o' < B → cell B o.image (f i) o' ≡ cell B img (f i) o' = λ i o' u l. g.stays (f i) o' (st.clear i u) l in
      record {
        card = g.card;
        ok = g.ok;
        holds = moves B N sized img o.image f s st.holds a;
        top = st.top;
        clear = λ i u. known (st.clear i u);
        stays = stood;
        reads = λ p l. byte_moves B N sized img o.image f s st.holds.short a p l ∙ st.reads p l;
        from = st.from;
        until = st.until;
        old_ones = st.old_ones;
        new_ones = st.new_ones;
      }
