-- The invariant of the store: a table of sound lists with a window that is valid and clean for them is so again after a write. Assumes nothing.
use mathlib.Core.Path.{◌≡◌, refl, sym, ap, ◌∙◌, subst}
use mathlib.Core.Logic.{◌⊎◌, inl, inr}
use mathlib.Core.Bool.{true, false}
use mathlib.Core.List.{List, [], ◌∷◌}
use Prim.Native.Nat.{ℕ, zero, suc, ◌+◌, ◌^◌, ◌≤◌, ◌<◌}
use native.Mathlib.Omega.{arith}
use lib.ListN.{length, get_or, set}
use Rattle.span.specs.Members.{has}
use Rattle.layout.specs.Layout.{start, index_at}
use Rattle.layout.specs.inner.Served.{geometry, block_list}
use Rattle.card.specs.Card.{good_card}
use Rattle.card.specs.inner.Cards.{card_with}
use Rattle.ctz.specs.Lists.{SoundList, block_at}
use Rattle.ctz.specs.Visits.{visit_of}
use Rattle.plain.specs.inner.Forms.{GoodList}
use Rattle.plain.proofs.Indexes.{card_of_lem}
use Rattle.plain.proofs.Same.{SameBlocks}
use Rattle.files.specs.declared.Entry.{Entry}
use Rattle.files.proofs.Replaced.{altered}
use Rattle.window.specs.declared.Lookahead.{Lookahead}
use Rattle.window.specs.Scan.{Seen, listed_of}
use Rattle.window.proofs.Cases.{no_both}
use Rattle.windows.proofs.Views.{Became, CleanWindow}
use Rattle.windows.proofs.Has.{else_false}
use Rattle.windows.proofs.Listed.{became_set, unseen}
use Rattle.alloc.specs.Visits.{seen_of, visits_of}
use Rattle.trials.specs.Loop.{WriteOut}
use Rattle.old_list.specs.Write.{kept, job_of}
use Rattle.writes.proofs.Holds.{either}
use Rattle.writes.proofs.Index.{in_block, start_lt}
use Rattle.demands.specs.Came.{Among, here, there}
use Rattle.demands.proofs.Tables.{listed_by, visit_told, SoundFiles, none, one, of_sounds, same_sounds, same_visits}
use Rattle.demands.proofs.Store.{Before, After, Stored, new_size}

-- e is the file at place m
pub data AtPlace (e : Entry) : ℕ → List Entry → Type 0 where
  first : {es : List Entry} → AtPlace e zero (e ∷ es)
  next : {m : ℕ} {x : Entry} {es : List Entry} → AtPlace e m es → AtPlace e (suc m) (x ∷ es)

-- it is one of them
pub among_at : {e : Entry} {m : ℕ} {es : List Entry} → AtPlace e m es → Among e es
among_at first = here
among_at (next a) = there (among_at a)

-- ---- one file changed

module _ (B N : ℕ) (img : List ℕ) where
  -- a sound list in a file's place
  pub sounds_set : {es : List Entry} (m : ℕ) (e : Entry) → GoodList B N img e.size → SoundList (card_with B N img) (block_list e.head e.size) → SoundFiles B N img es
      → SoundFiles B N img (set es m e)
  sounds_set m e g l none = none
  sounds_set zero e g l (one _ _ r) = one g l r
  sounds_set (suc m) e g l (one g₁ l₁ r) = one g₁ l₁ (sounds_set m e g l r)

  -- its visit in the visits
  pub visits_set : (es : List Entry) (m : ℕ) (e : Entry) → visits_of (card_with B N img) (set es m e) ≡ set (visits_of (card_with B N img) es) m (seen_of (card_with B N img) e)
  visits_set [] m e = refl
  visits_set (x ∷ es) zero e = refl
  visits_set (x ∷ es) (suc m) e = ap (λ (vs : List Seen). seen_of (card_with B N img) x ∷ vs) (visits_set es m e)

  -- and the visit of the file at that place
  pub visits_at : {e : Entry} {m : ℕ} {es : List Entry} → AtPlace e m es → get_or (visits_of (card_with B N img) es) m unseen ≡ seen_of (card_with B N img) e
  visits_at first = refl
  visits_at (next a) = visits_at a

-- ---- after a write

module _ (B N l : ℕ) (files : List Entry) (w : Lookahead) (img : List ℕ) (bf : Before B N l files w img) (o : WriteOut Lookahead)
    (long : length img ≡ length o.image) (sb : (x : Entry) → Among x files → SameBlocks img o.image B x.head x.size) where
  visits_as_before : visits_of (card_with B N o.image) files ≡ visits_of (card_with B N img) files
  visits_as_before = same_visits B N img o.image long bf.sounds sb

  good_after : good_card (geometry B N) (length o.image) ≡ true
  good_after = ap (good_card (geometry B N)) (sym long) ∙ bf.good

  -- refused: the table is as it was
  pub refused_again : (out : List ℕ) → After B N l files img out o.rest → Before B N l files o.rest o.image
  refused_again out af = record {
    good = good_after;
    sounds = same_sounds B N img o.image long bf.sounds sb;
    valid = af.valid;
    clean = subst (λ (vs : List Seen). CleanWindow N (listed_of vs) o.rest) (sym visits_as_before) (af.clean (listed_by B N files img) (λ b p q. p));
  }

  module _ (e : Entry) (m : ℕ) (at : AtPlace e m files) (pos : ℕ) (src : List ℕ) (fits : pos + length src ≤ 2147483647) (h : ℕ) (out : List ℕ)
      (st : Stored B N l files e pos src img o (new_size e pos src) h out) where
    abbrev e' : Entry
    e' = altered e (new_size e pos src) h

    good : GoodList B N img e.size
    good = (of_sounds bf.sounds (among_at at)).0

    sl : SoundList (card_with B N img) (block_list e.head e.size)
    sl = (of_sounds bf.sounds (among_at at)).1

    good' : GoodList B N o.image (new_size e pos src)
    good' = record { good = good_after; fits = omega (arith, good.fits) }

    -- the kept indexes are in use in the old list
    under : (i : ℕ) → i < index_at B (kept (job_of e pos src)) → start B i < e.size
    under i x =
        let q32 : kept (job_of e pos src) < 2 ^ 32 = omega (arith, good.fits) in
        let sized = (card_of_lem good).sized in
        let ib = in_block B sized (kept (job_of e pos src)) q32 in
        omega (arith, ib.from, start_lt B sized (kept (job_of e pos src)) i (index_at B (kept (job_of e pos src))) q32 ib.from x)

    -- what the written file's visit hands over was its own before, or was handed out
    mine : Became (get_or (visits_of (card_with B N img) files) m unseen).blocks out (seen_of (card_with B N o.image) e').blocks
    mine b p q = else_false (has (seen_of (card_with B N o.image) e').blocks b) (λ t.
        (let r = (visit_told B N o.image h (new_size e pos src) good' st.list).only b t in
        by r.0 r.1 r.2 (either r.0 (index_at B (kept (job_of e pos src))))))
      where
        p' : has (visit_of (card_with B N img) (block_list e.head e.size)).handed b ≡ false
        p' = subst (λ (s : Seen). has s.blocks b ≡ false) (visits_at B N img at) p

        by : (i : ℕ) → start B i < new_size e pos src → block_at B o.image (block_list h (new_size e pos src)) i ≡ b
            → (i < index_at B (kept (job_of e pos src))) ⊎ (index_at B (kept (job_of e pos src)) ≤ i) → ⊥
        by i u k (inr x) = no_both (has out b) (subst (λ (z : ℕ). has out z ≡ true) k (st.new_blocks i x u)) q
        by i u k (inl x) =
            no_both (has (visit_of (card_with B N img) (block_list e.head e.size)).handed b)
            (subst (λ (z : ℕ). has (visit_of (card_with B N img) (block_list e.head e.size)).handed z ≡ true) (sym (st.kept_blocks i x) ∙ k)
            ((visit_told B N img e.head e.size good sl).all i (under i x))) p'

    -- written: the file's entry is the new one
    pub stored_again : Before B N l (set files m (altered e (new_size e pos src) h)) o.rest o.image
    stored_again = record {
      good = good_after;
      sounds = sounds_set B N o.image m e' good' st.list (same_sounds B N img o.image long bf.sounds sb);
      valid = st.window.valid;
      clean = subst (λ (vs : List Seen). CleanWindow N (listed_of vs) o.rest)
          (sym (visits_set B N o.image files m e' ∙ ap (λ (vs : List Seen). set vs m (seen_of (card_with B N o.image) e')) visits_as_before))
          (st.window.clean (listed_of (set (visits_of (card_with B N img) files) m (seen_of (card_with B N o.image) e')))
          (became_set (visits_of (card_with B N img) files) m (seen_of (card_with B N o.image) e') out mine));
    }
