-- Create, remove and truncate to 0 keep the invariant of the store: card and window are as they were, and no more is listed than before. Assumes nothing.
use mathlib.Core.Path.{◌≡◌, refl, sym, ap, subst}
use mathlib.Core.Bool.{Bool, true, false}
use mathlib.Core.List.{List, [], ◌∷◌}
use Prim.Native.Nat.{ℕ}
use native.Mathlib.Omega.{arith}
use lib.Dec.{ltb, eqb}
use lib.ListN.{set}
use Rattle.layout.specs.Numbers.{null_block}
use Rattle.layout.specs.inner.Served.{block_list}
use Rattle.card.specs.inner.Cards.{card_with}
use Rattle.ctz.specs.Lists.{SoundList}
use Rattle.ctz.specs.Visits.{Visited}
use Rattle.ctz.proofs.Visiting.{visit_empty}
use Rattle.plain.specs.inner.Forms.{GoodList}
use Rattle.files.specs.declared.Entry.{Entry}
use Rattle.files.specs.Change.{empty_file, insert_of, without_of}
use Rattle.files.proofs.Replaced.{altered}
use Rattle.window.specs.declared.Lookahead.{Lookahead}
use Rattle.window.specs.Scan.{Seen, listed_of}
use Rattle.windows.proofs.Views.{Became}
use Rattle.windows.proofs.Has.{not_in_none, not_in_both, not_in_left, not_in_right}
use Rattle.windows.proofs.Came.{fewer_clean}
use Rattle.windows.proofs.Listed.{became_set}
use Rattle.alloc.specs.Visits.{seen_of, visits_of}
use Rattle.demands.proofs.Tables.{listed_by, SoundFiles, none, one}
use Rattle.demands.proofs.Store.{Before}
use Rattle.demands.proofs.Again.{sounds_set, visits_set}

module _ (B N l : ℕ) (w : Lookahead) (img : List ℕ) where
  -- a table of sound lists that lists no more than another, with its window
  fewer : (files now : List Entry) → Before B N l files w img → SoundFiles B N img now → Became (listed_by B N files img) [] (listed_by B N now img) → Before B N l now w img
  fewer files now bf s b = record {
    good = bf.good;
    sounds = s;
    valid = bf.valid;
    clean = fewer_clean N (listed_by B N files img) (listed_by B N now img) w b bf.clean;
  }

  -- one file in front of both
  behind : (e : Entry) (es now : List Entry) → Became (listed_by B N es img) [] (listed_by B N now img)
      → Became (listed_by B N (e ∷ es) img) [] (listed_by B N (e ∷ now) img)
  unfolding listed_of
  behind e es now r b p n =
      not_in_both (seen_of (card_with B N img) e).blocks (listed_by B N now img) b (not_in_left (seen_of (card_with B N img) e).blocks (listed_by B N es img) b p)
      (r b (not_in_right (seen_of (card_with B N img) e).blocks (listed_by B N es img) b p) n)

  -- all files but the first
  all_but : (e : Entry) (es : List Entry) → Became (listed_by B N (e ∷ es) img) [] (listed_by B N es img)
  unfolding listed_of
  all_but e es b p n = not_in_right (seen_of (card_with B N img) e).blocks (listed_by B N es img) b p

  module _ (files : List Entry) (bf : Before B N l files w img) where
    -- an empty list is sound on every card
    none_good : GoodList B N img 0
    none_good = record { good = bf.good; fits = omega arith }

    none_sound : SoundList (card_with B N img) (block_list null_block 0)
    none_sound = record { null = λ z. refl; list = λ p. absurd (omega arith) }

    no_blocks : (number : ℕ) → (seen_of (card_with B N img) (empty_file number)).blocks ≡ []
    no_blocks number = ap (λ (v : Visited). v.handed) (visit_empty B N img null_block 0 refl)

    -- an empty file put in
    sounds_insert : (number : ℕ) (es : List Entry) → SoundFiles B N img es → SoundFiles B N img (insert_of number es)
    unfolding insert_of
    sounds_insert number [] none = one none_good none_sound none
    sounds_insert number (e ∷ es) (one g s r) = go (ltb e.number number) refl (sounds_insert number es r)
      where
        go : (t : Bool) → ltb e.number number ≡ t → SoundFiles B N img (insert_of number es) → SoundFiles B N img (insert_of number (e ∷ es))
        go true q ih = rw (insert_of, q) (one g s ih)
        go false q ih = rw (insert_of, q) (one none_good none_sound (one g s r))

    nothing_more : (number : ℕ) (es : List Entry) → Became (listed_by B N es img) [] (listed_by B N (empty_file number ∷ es) img)
    unfolding listed_of
    nothing_more number es b p n =
        not_in_both (seen_of (card_with B N img) (empty_file number)).blocks (listed_by B N es img) b (rw (no_blocks number) (not_in_none b)) p

    insert_became : (number : ℕ) (es : List Entry) → Became (listed_by B N es img) [] (listed_by B N (insert_of number es) img)
    unfolding insert_of
    insert_became number [] = nothing_more number []
    insert_became number (e ∷ es) = go (ltb e.number number) refl (insert_became number es)
      where
        go : (t : Bool) → ltb e.number number ≡ t → Became (listed_by B N es img) [] (listed_by B N (insert_of number es) img)
            → Became (listed_by B N (e ∷ es) img) [] (listed_by B N (insert_of number (e ∷ es)) img)
        go true q ih = rw (insert_of, q) (behind e es (insert_of number es) ih)
        go false q ih = rw (insert_of, q) (nothing_more number (e ∷ es))

    -- create
    pub create_keeps : (number : ℕ) → Before B N l (insert_of number files) w img
    create_keeps number = fewer files (insert_of number files) bf (sounds_insert number files bf.sounds) (insert_became number files)

    -- a file taken out
    sounds_without : (number : ℕ) (es : List Entry) → SoundFiles B N img es → SoundFiles B N img (without_of number es)
    unfolding without_of
    sounds_without number [] none = none
    sounds_without number (e ∷ es) (one g s r) = go (eqb e.number number) refl (sounds_without number es r)
      where
        go : (t : Bool) → eqb e.number number ≡ t → SoundFiles B N img (without_of number es) → SoundFiles B N img (without_of number (e ∷ es))
        go true q ih = rw (without_of, q) r
        go false q ih = rw (without_of, q) (one g s ih)

    without_became : (number : ℕ) (es : List Entry) → Became (listed_by B N es img) [] (listed_by B N (without_of number es) img)
    unfolding without_of
    without_became number [] = λ b p n. p
    without_became number (e ∷ es) = go (eqb e.number number) refl (without_became number es)
      where
        go : (t : Bool) → eqb e.number number ≡ t → Became (listed_by B N es img) [] (listed_by B N (without_of number es) img)
            → Became (listed_by B N (e ∷ es) img) [] (listed_by B N (without_of number (e ∷ es)) img)
        go true q ih = rw (without_of, q) (all_but e es)
        go false q ih = rw (without_of, q) (behind e es (without_of number es) ih)

    -- remove
    pub remove_keeps : (number : ℕ) → Before B N l (without_of number files) w img
    remove_keeps number = fewer files (without_of number files) bf (sounds_without number files bf.sounds) (without_became number files)

    -- truncate to 0 gives the null head
    pub empty_keeps : (e : Entry) (m : ℕ) → Before B N l (set files m (altered e 0 null_block)) w img
    empty_keeps e m =
        fewer files (set files m (altered e 0 null_block)) bf (sounds_set B N img m (altered e 0 null_block) none_good none_sound bf.sounds)
        (subst (λ (vs : List Seen). Became (listed_by B N files img) [] (listed_of vs)) (sym (visits_set B N img files m (altered e 0 null_block)))
        (became_set (visits_of (card_with B N img) files) m (seen_of (card_with B N img) (altered e 0 null_block)) []
        (λ b p n. rw (no_blocks e.number) (not_in_none b))))
