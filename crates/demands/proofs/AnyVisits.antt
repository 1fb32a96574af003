-- The visit of any list, sound or not, reads only blocks that it hands over, and not that of index 0: it is the same on every image on which those stand. Assumes nothing.
use mathlib.Core.Path.{◌≡◌, refl, sym, ap, ap₂, ◌∙◌, subst}
use mathlib.Core.Logic.{◌⊎◌, inl, inr}
use mathlib.Core.Bool.{Bool, true, false, ◌||◌}
use mathlib.Core.List.{List, [], ◌∷◌, ◌++◌}
use Prim.Native.Nat.{ℕ, zero, suc, ◌-◌, ◌%◌, ◌≤◌, ◌<◌}
use native.Mathlib.Omega.{arith}
use borrow.Author.Tests.{ltb-true, eqb-true, eqb-false}
use lib.Dec.{ltb, eqb}
use lib.ListN.{take}
use Rattle.std.specs.Prelude.{Option, None, Some}
use Rattle.span.specs.Members.{has}
use Rattle.layout.specs.Layout.{index_at}
use Rattle.layout.specs.inner.Served.{BlockSized, block_list}
use Rattle.card.specs.Card.{pointer}
use Rattle.card.specs.inner.Cards.{card_with}
use Rattle.ctz.specs.Visits.{Visited, visit_of}
use Rattle.ctz.specs.inner.Held.{visit_held, next_block, hold_by, next_held, hand_on}
use Rattle.ctz.proofs.Visiting.{visit_empty, visit_begins}
use Rattle.files.specs.declared.Entry.{Entry}
use Rattle.window.specs.Scan.{Seen, seen_all, listed_of}
use Rattle.window.proofs.Cases.{no_both}
use Rattle.windows.proofs.Views.{Shows, Below}
use Rattle.windows.proofs.Has.{has_none, has_head, has_tail, has_cases, has_append, below_none, below_more, below_append}
use Rattle.windows.proofs.Listed.{AllBelow, AllOk, lists, tells}
use Rattle.alloc.specs.Visits.{seen_of, visits_of, seen_from}
use Rattle.grow.specs.Setting.{Setting}
use Rattle.writes.proofs.Cells.{pointer_same}
use Rattle.writes.proofs.Allocators.{Stays}
use Rattle.demands.specs.Space.{read_by}
use Rattle.demands.proofs.Tables.{listed_by, has_left, has_right}
use Rattle.demands.proofs.Windows.{Listed}

-- ---- one visit

module _ (ptr ptr' : ℕ → ℕ → ℕ) (N : ℕ) where
  same_block : (k : ℕ) (held : Option ℕ) → ((x : ℕ) → x ≤ 1 → ptr' k x ≡ ptr k x) → next_block ptr' k held ≡ next_block ptr k held
  same_block k (Some after) a = refl
  same_block k None a = a 0 (omega arith)

  same_held : (i k : ℕ) (held : Option ℕ) → ((x : ℕ) → x ≤ 1 → ptr' k x ≡ ptr k x) → next_held ptr' i k held ≡ next_held ptr i k held
  same_held i k (Some after) a = refl
  same_held i k None a = go (eqb (i % 2) 1)
    where
      go : (odd : Bool) → hold_by ptr' k None odd ≡ hold_by ptr k None odd
      go true = refl
      go false = ap (λ (n : ℕ). Some n) (a 1 (omega arith))

  visit_same : (i k : ℕ) (held : Option ℕ)
      → ((b : ℕ) → has (take i (visit_held ptr N i k held).handed) b ≡ true → (x : ℕ) → x ≤ 1 → ptr' b x ≡ ptr b x)
      → visit_held ptr' N i k held ≡ visit_held ptr N i k held
  unfolding visit_held
  visit_same zero k held a = refl
  visit_same (suc i) k held a = go (ltb k N) refl (visit_same i)
    where
      go : (t : Bool) → ltb k N ≡ t
          → ((k : ℕ) (held : Option ℕ)
          → ((b : ℕ) → has (take i (visit_held ptr N i k held).handed) b ≡ true → (x : ℕ) → x ≤ 1 → ptr' b x ≡ ptr b x)
          → visit_held ptr' N i k held ≡ visit_held ptr N i k held)
          → visit_held ptr' N (suc i) k held ≡ visit_held ptr N (suc i) k held
      go false e ih = rw (visit_held, e)
      go true e ih =
          let r = next_held ptr (suc i) k held in
          let q : visit_held ptr N (suc i) k held ≡ hand_on k (visit_held ptr N i (next_block ptr k held) r) = rw (visit_held, e) in
          let q' : visit_held ptr' N (suc i) k held ≡ hand_on k (visit_held ptr' N i (next_block ptr' k held) (next_held ptr' (suc i) k held)) = rw (visit_held, e) in
          let a' : (b : ℕ) → has (k ∷ take i (visit_held ptr N i (next_block ptr k held) r).handed) b ≡ true → (x : ℕ) → x ≤ 1 → ptr' b x ≡ ptr b x =
          λ b h. a b (subst (λ (v : Visited). has (take (suc i) v.handed) b ≡ true) (sym q) h) in
          let ak = a' k (has_head k _) in
          q' ∙ ap₂ (λ (y : ℕ) (z : Option ℕ). hand_on k (visit_held ptr' N i y z)) (same_block k held ak) (same_held (suc i) k held ak)
          ∙ ap (hand_on k) (ih (next_block ptr k held) r (λ b h. a' b (has_tail k _ b h))) ∙ sym q

  -- each number is tested against N just before it is handed over
  visit_below : (i k : ℕ) (held : Option ℕ) → Below N (visit_held ptr N i k held).handed
  unfolding visit_held
  visit_below zero k held = go (ltb k N) refl
    where
      go : (t : Bool) → ltb k N ≡ t → Below N (visit_held ptr N zero k held).handed
      go false e = rw (visit_held, e) (below_none N)
      go true e = rw (visit_held, e) (below_more N k [] (ltb-true k N e) (below_none N))
  visit_below (suc i) k held = go (ltb k N) refl (visit_below i)
    where
      go : (t : Bool) → ltb k N ≡ t → ((k : ℕ) (held : Option ℕ) → Below N (visit_held ptr N i k held).handed) → Below N (visit_held ptr N (suc i) k held).handed
      go false e ih = rw (visit_held, e) (below_none N)
      go true e ih =
          rw (visit_held, e) (below_more N k _ (ltb-true k N e) (ih (next_block ptr k held) (next_held ptr (suc i) k held)))

-- ---- the visits of a table

module _ (g : Setting) (img : List ℕ) where
  abbrev B : ℕ
  B = g.B

  abbrev N : ℕ
  N = g.N

  some : (e : Entry) → eqb e.size 0 ≡ false → 0 < e.size
  some e q = let z = eqb-false e.size 0 q in omega arith

  file_below : (e : Entry) → Below N (visit_of (card_with B N img) (block_list e.head e.size)).handed
  file_below e = go (eqb e.size 0) refl
    where
      go : (t : Bool) → eqb e.size 0 ≡ t → Below N (visit_of (card_with B N img) (block_list e.head e.size)).handed
      go true q = rw (visit_empty B N img e.head e.size (eqb-true e.size 0 q)) (below_none N)
      go false q =
          rw (visit_begins B N img e.head e.size (some e q)) (visit_below (pointer B img) (pointer B img) N (index_at B (e.size - 1)) e.head None)

  pub all_below : (es : List Entry) → AllBelow g.N (visits_of (card_with g.B g.N img) es)
  all_below [] = AllBelow.none
  all_below (e ∷ es) = AllBelow.one (file_below e) (all_below es)

  module _ (img' : List ℕ) where
    file_same : (e : Entry)
        → ((b : ℕ) → has (take (index_at B (e.size - 1)) (visit_of (card_with B N img) (block_list e.head e.size)).handed) b ≡ true → (x : ℕ) → x ≤ 1 → pointer B img' b x ≡ pointer B img b x)
        → visit_of (card_with B N img') (block_list e.head e.size) ≡ visit_of (card_with B N img) (block_list e.head e.size)
    file_same e a = go (eqb e.size 0) refl
      where
        go : (t : Bool) → eqb e.size 0 ≡ t → visit_of (card_with B N img') (block_list e.head e.size) ≡ visit_of (card_with B N img) (block_list e.head e.size)
        go true q =
            let z = eqb-true e.size 0 q in
            visit_empty B N img' e.head e.size z ∙ sym (visit_empty B N img e.head e.size z)
        go false q =
            let z : visit_of (card_with B N img) (block_list e.head e.size) ≡ visit_held (pointer B img) N (index_at B (e.size - 1)) e.head None = visit_begins B N img e.head e.size (some e q) in
            let z' : visit_of (card_with B N img') (block_list e.head e.size) ≡ visit_held (pointer B img') N (index_at B (e.size - 1)) e.head None = visit_begins B N img' e.head e.size (some e q) in
            z' ∙ visit_same (pointer B img) (pointer B img') N (index_at B (e.size - 1)) e.head None
            (λ b h. a b (subst (λ (v : Visited). has (take (index_at B (e.size - 1)) v.handed) b ≡ true) (sym z) h)) ∙ sym z

    files_same : (es : List Entry) → ((b : ℕ) → has (read_by g img es) b ≡ true → (x : ℕ) → x ≤ 1 → pointer B img' b x ≡ pointer B img b x)
        → visits_of (card_with B N img') es ≡ visits_of (card_with B N img) es
    unfolding read_by
    files_same [] a = refl
    files_same (e ∷ es) a =
        ap₂ (λ (v : Visited) (vs : List Seen). seen_from v ∷ vs)
        (file_same e (λ b h. a b (has_left (take (index_at B (e.size - 1)) (seen_of (card_with B N img) e).blocks) (read_by g img es) b h)))
        (files_same es (λ b h. a b (has_right (take (index_at B (e.size - 1)) (seen_of (card_with B N img) e).blocks) (read_by g img es) b h)))

    -- They hand over the same on every image on which what they read stands.
    pub seen_again : (es : List Entry) → BlockSized g.B → Stays g.B (Listed (read_by g img es)) img img'
        → seen_all (visits_of (card_with g.B g.N img') es) ≡ seen_all (visits_of (card_with g.B g.N img) es)
    seen_again es sized st =
        ap seen_all (files_same es (λ b h x l. pointer_same B img img' b b x (omega (arith, sized.least)) (λ o m n. st b o h (omega (arith, sized.least)))))

has_take : (n : ℕ) (xs : List ℕ) (b : ℕ) → has (take n xs) b ≡ true → has xs b ≡ true
has_take zero xs b e = absurd (has_none b e)
has_take (suc n) [] b e = absurd (has_none b e)
has_take (suc n) (x ∷ xs) b e = has_cases x (take n xs) b (has (x ∷ xs) b ≡ true) e
    (λ q. subst (λ (y : ℕ). has (x ∷ xs) y ≡ true) q (has_head x xs))
    (λ q. has_tail x xs b (has_take n xs b q))

-- what they read is listed
pub read_listed : (g : Setting) (img : List ℕ) (es : List Entry) (b : ℕ) → has (read_by g img es) b ≡ true → has (listed_by g.B g.N es img) b ≡ true
unfolding read_by listed_of
read_listed g img [] b e = e
read_listed g img (e ∷ es) b h = go (has front b) refl (sym (has_append front (read_by g img es) b) ∙ h) (read_listed g img es b)
  where
    B : ℕ
    B = g.B

    N : ℕ
    N = g.N

    front : List ℕ
    front = take (index_at B (e.size - 1)) (seen_of (card_with B N img) e).blocks

    go : (t : Bool) → has front b ≡ t → (t || has (read_by g img es) b) ≡ true → (has (read_by g img es) b ≡ true → has (listed_by B N es img) b ≡ true)
        → has ((seen_of (card_with B N img) e).blocks ++ listed_by B N es img) b ≡ true
    go true q k ih = has_left (seen_of (card_with B N img) e).blocks (listed_by B N es img) b (has_take (index_at B (e.size - 1)) (seen_of (card_with B N img) e).blocks b q)
    go false q k ih = has_right (seen_of (card_with B N img) e).blocks (listed_by B N es img) b (ih k)

-- no visit fails, or the scan is told so
ok_or_not : (vs : List Seen) → AllOk vs ⊎ ((seen_all vs).ok ≡ false)
unfolding seen_all
ok_or_not [] = inl AllOk.none
ok_or_not (v ∷ vs) = go v.ok refl (ok_or_not vs)
  where
    go : (t : Bool) → v.ok ≡ t → AllOk vs ⊎ ((seen_all vs).ok ≡ false) → AllOk (v ∷ vs) ⊎ ((seen_all (v ∷ vs)).ok ≡ false)
    go false e r = inr (rw e)
    go true e (inl a) = inl (AllOk.one e a)
    go true e (inr n) = inr (rw e n)

-- What they hand over is a number below N, and where none fails it is what is listed.
pub shows : (N : ℕ) (vs : List Seen) → AllBelow N vs → Shows N (listed_of vs) (seen_all vs)
shows N vs h = record { low = (tells N vs h).low; same = λ ok b. go ok b (ok_or_not vs) }
  where
    go : (seen_all vs).ok ≡ true → (b : ℕ) → AllOk vs ⊎ ((seen_all vs).ok ≡ false) → has (seen_all vs).blocks b ≡ has (listed_of vs) b
    go ok b (inl a) = (lists N vs h a).same b
    go ok b (inr n) = absurd (no_both (seen_all vs).ok ok n)

pub listed_below : (N : ℕ) (vs : List Seen) → AllBelow N vs → Below N (listed_of vs)
unfolding listed_of
listed_below N [] AllBelow.none = below_none N
listed_below N (v ∷ vs) (AllBelow.one h r) = below_append N v.blocks (listed_of vs) h (listed_below N vs r)
