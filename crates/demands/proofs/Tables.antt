-- The visits of a table of sound lists: they hand over exactly the blocks of its files, and the same on every image on which these stand. Assumes nothing.
use mathlib.Core.Path.{◌≡◌, refl, sym, ap, ap₂, ◌∙◌, subst}
use mathlib.Core.Bool.{Bool, true, false, ◌||◌}
use mathlib.Core.List.{List, [], ◌∷◌, ◌++◌}
use Prim.Native.Nat.{ℕ, ◌-◌, ◌<◌}
use native.Mathlib.Omega.{arith}
use borrow.Author.Tests.{eqb-true, eqb-false}
use lib.Dec.{eqb}
use lib.ListN.{length}
use Rattle.span.specs.Members.{has}
use Rattle.layout.specs.Layout.{start, index_at}
use Rattle.layout.specs.inner.Served.{block_list}
use Rattle.card.specs.inner.Cards.{card_with}
use Rattle.ctz.specs.Lists.{SoundList, block_at}
use Rattle.ctz.specs.Visits.{Visited, visit_of}
use Rattle.ctz.proofs.Visiting.{visit_empty}
use Rattle.plain.specs.inner.Forms.{GoodList}
use Rattle.plain.proofs.Countdowns.{among_countdown, countdown_among}
use Rattle.plain.proofs.Indexes.{used_index, index_used}
use Rattle.plain.proofs.Finding.{visit_sound}
use Rattle.plain.proofs.Frames as frames
use Rattle.plain.proofs.Same.{SameBlocks}
use Rattle.files.specs.declared.Entry.{Entry}
use Rattle.window.specs.Scan.{Seen, seen_all, listed_of}
use Rattle.windows.proofs.Views.{Lists, Below}
use Rattle.windows.proofs.Has.{or_right, has_none, has_append}
use Rattle.windows.proofs.Listed as visits
use Rattle.alloc.specs.Visits.{visits_of, seen_from}
use Rattle.writes.proofs.Cells.{cell}
use Rattle.writes.proofs.Allocators.{Stays}
use Rattle.demands.specs.Came.{Among, here, there}
use Rattle.demands.proofs.Windows.{Listed}

-- what the visits of these files hand over
abbrev pub listed_by : ℕ → ℕ → List Entry → List ℕ → List ℕ
listed_by B N files img = listed_of (visits_of (card_with B N img) files)

-- ---- what a countdown holds

-- ---- the visit of one file

-- it meets no -84, and hands over exactly the blocks of the list
pub record Told (B N : ℕ) (img : List ℕ) (head s : ℕ) (v : Visited) : Type 0 where
  pub ok : v.clean ≡ true
  pub all : (i : ℕ) → start B i < s → has v.handed (block_at B img (block_list head s) i) ≡ true
  pub only : (b : ℕ) → has v.handed b ≡ true → (i : ℕ) × (start B i < s) × (block_at B img (block_list head s) i ≡ b)

-- The visit of a sound list is such a one.
pub visit_told : (B N : ℕ) (img : List ℕ) (head s : ℕ) → GoodList B N img s → SoundList (card_with B N img) (block_list head s) → Told B N img head s (visit_of (card_with B N img) (block_list head s))
visit_told B N img head s g l = go (eqb s 0) refl
  where
    go : (t : Bool) → eqb s 0 ≡ t → Told B N img head s (visit_of (card_with B N img) (block_list head s))
    go true e =
        let z = eqb-true s 0 e in
        rw (visit_empty B N img head s z) (record { ok = refl; all = λ i u. absurd (omega arith); only = λ b u. absurd (has_none b u) })
    go false e =
        let p : 0 < s = omega (arith, eqb-false s 0 e) in
        rw (visit_sound g l p) (record {
          ok = refl;
          all = λ i u. among_countdown (block_at B img (block_list head s)) (index_at B (s - 1)) i (used_index g i u);
          only = λ b u.
              let r = countdown_among (block_at B img (block_list head s)) (index_at B (s - 1)) b u in
              (r.0, index_used g r.0 p r.1, r.2);
        })

-- ---- the files of a table

-- each of them is a sound list on the card
pub data SoundFiles (B N : ℕ) (img : List ℕ) : List Entry → Type 0 where
  none : SoundFiles B N img []
  one : {e : Entry} {es : List Entry} → GoodList B N img e.size → SoundList (card_with B N img) (block_list e.head e.size) → SoundFiles B N img es → SoundFiles B N img (e ∷ es)

-- a file of a table of sound lists is one
pub of_sounds : {B N : ℕ} {img : List ℕ} {e : Entry} {es : List Entry} → SoundFiles B N img es → Among e es
    → GoodList B N img e.size × SoundList (card_with B N img) (block_list e.head e.size)
of_sounds none a = elim a [ ]
of_sounds (one g l r) here = (g, l)
of_sounds (one g l r) (there a) = of_sounds r a

pub has_left : (xs ys : List ℕ) (b : ℕ) → has xs b ≡ true → has (xs ++ ys) b ≡ true
has_left xs ys b h = has_append xs ys b ∙ ap (λ (t : Bool). t || has ys b) h

pub has_right : (xs ys : List ℕ) (b : ℕ) → has ys b ≡ true → has (xs ++ ys) b ≡ true
has_right xs ys b h = has_append xs ys b ∙ or_right (has xs b) (has ys b) h

module _ (B N : ℕ) (img : List ℕ) where
  -- each block of each file is listed
  pub listed_at : {e : Entry} {es : List Entry} → SoundFiles B N img es → Among e es → (i : ℕ) → start B i < e.size
      → has (listed_by B N es img) (block_at B img (block_list e.head e.size) i) ≡ true
  unfolding listed_of
  listed_at none a i u = elim a [ ]
  listed_at {e} (one {es = es} g l r) here i u =
      has_left (visit_of (card_with B N img) (block_list e.head e.size)).handed (listed_by B N es img) (block_at B img (block_list e.head e.size) i)
      ((visit_told B N img e.head e.size g l).all i u)
  listed_at {e} (one {e = x} {es = es} g l r) (there a) i u =
      has_right (visit_of (card_with B N img) (block_list x.head x.size)).handed (listed_by B N es img) (block_at B img (block_list e.head e.size) i) (listed_at r a i u)

  all_below : {es : List Entry} → SoundFiles B N img es → visits.AllBelow N (visits_of (card_with B N img) es)
  all_below none = visits.AllBelow.none
  all_below (one {e = e} g l r) = visits.AllBelow.one (low e g l) (all_below r)
    where
      low : (e : Entry) → GoodList B N img e.size → SoundList (card_with B N img) (block_list e.head e.size) → Below N (visit_of (card_with B N img) (block_list e.head e.size)).handed
      low e g l b h =
          let r = (visit_told B N img e.head e.size g l).only b h in
          subst (λ (z : ℕ). z < N) r.2 ((l.list (omega (arith, r.1))).below r.0 (used_index g r.0 r.1))

  all_ok : {es : List Entry} → SoundFiles B N img es → visits.AllOk (visits_of (card_with B N img) es)
  all_ok none = visits.AllOk.none
  all_ok (one {e = e} g l r) = visits.AllOk.one (visit_told B N img e.head e.size g l).ok (all_ok r)

-- ---- an image on which the listed blocks stand

module _ (B N : ℕ) (img img' : List ℕ) (long : length img ≡ length img') where
  same_blocks : (head s : ℕ) → GoodList B N img s
      → ((i : ℕ) → start B i < s → (o : ℕ) → o < B → cell B img' (block_at B img (block_list head s) i) o ≡ cell B img (block_at B img (block_list head s) i) o)
      → SameBlocks img img' B head s
  unfolding cell
  same_blocks head s g st = record {
    long = long;
    block = λ p i h. frames.block_same img img' B (block_at B img (block_list head s) i) long (λ o b. sym (st i (index_used g i p h) o b));
  }

  -- each file has its blocks there
  pub same_file : {e : Entry} {es : List Entry} → SoundFiles B N img es → Stays B (Listed (listed_by B N es img)) img img' → Among e es
      → SameBlocks img img' B e.head e.size
  same_file {e} r st a =
      same_blocks e.head e.size (of_sounds r a).0 (λ i u o h. st (block_at B img (block_list e.head e.size) i) o (listed_at B N img r a i u) h)

  -- so each is a sound list there
  pub same_sounds : {es : List Entry} → SoundFiles B N img es → ((e : Entry) → Among e es → SameBlocks img img' B e.head e.size) → SoundFiles B N img' es
  same_sounds none f = none
  same_sounds (one {e = e} g l r) f = one (frames.frame_good (f e here) g) (frames.frame_sound (f e here) l) (same_sounds r (λ x a. f x (there a)))

  -- and the visits are the same
  pub same_visits : {es : List Entry} → SoundFiles B N img es → ((e : Entry) → Among e es → SameBlocks img img' B e.head e.size)
      → visits_of (card_with B N img') es ≡ visits_of (card_with B N img) es
  same_visits none f = refl
  same_visits (one {e = e} {es = es} g l r) f =
      ap₂ (λ (v : Visited) (vs : List Seen). seen_from v ∷ vs) (frames.frame_visit (f e here) g l) (same_visits r (λ x a. f x (there a)))

  -- The visits of a table of sound lists hand over what was listed, on every image on which that stands.
  pub told_anew : {es : List Entry} → SoundFiles B N img es → Stays B (Listed (listed_by B N es img)) img img' → Lists N (listed_by B N es img) (seen_all (visits_of (card_with B N img') es))
  told_anew {es} r st =
      let e : visits_of (card_with B N img') es ≡ visits_of (card_with B N img) es = same_visits r (λ x a. same_file r st a) in
      rw e (visits.lists N (visits_of (card_with B N img) es) (all_below B N img r) (all_ok B N img r))
