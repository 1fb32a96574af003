-- What the visits of a table's files tell the window's theory: numbers below N only, and all that is listed. Assumes nothing.
use mathlib.Core.Path.{◌≡◌, refl}
use mathlib.Core.Bool.{Bool, true, false}
use mathlib.Core.List.{List, [], ◌∷◌}
use Prim.Native.Nat.{ℕ, zero, suc, ◌-◌, ◌<◌}
use native.Mathlib.Omega.{arith}
use borrow.Author.Tests.{ltb-true, eqb-true, eqb-false}
use lib.Dec.{ltb, eqb}
use Rattle.std.specs.Prelude.{Option, None, Ok}
use Rattle.span.specs.Members.{has}
use Rattle.layout.specs.Layout.{index_at}
use Rattle.card.specs.Card.{pointer}
use Rattle.card.specs.inner.Cards.{card_with}
use Rattle.ctz.specs.Visits.{Visited}
use Rattle.ctz.specs.inner.Held.{visit_held, next_block, next_held, hand_on}
use Rattle.ctz.proofs.Visiting.{visit_empty, visit_begins}
use Rattle.files.specs.declared.Entry.{Entry}
use Rattle.files.specs.declared.Table.{Table}
use Rattle.files.specs.Table.{held}
use Rattle.window.specs.declared.Lookahead.{Lookahead}
use Rattle.window.specs.Allocate.{alloc_of}
use Rattle.window.specs.inner.Facts.{scope}
use Rattle.windows.proofs.Views.{Tells, Lists, CleanWindow, Below}
use Rattle.windows.proofs.Has.{below_none, below_more}
use Rattle.windows.proofs.Single.{handed_out}
use Rattle.windows.proofs.Listed.{AllBelow, AllOk, tells, lists}
use Rattle.alloc.specs.Visits.{seen_of, visits_of, seen_in, listed_in}
use Rattle.alloc.specs.inner.Facts.{Ready}

abbrev Low : ℕ → Visited → Type 0
Low N v = Below N v.handed

-- each number is tested against N just before it is handed over
visit_low : (ptr : ℕ → ℕ → ℕ) (N i k : ℕ) (kept : Option ℕ) → Low N (visit_held ptr N i k kept)
unfolding visit_held
visit_low ptr N zero k kept = go (ltb k N) refl
  where
    go : (t : Bool) → ltb k N ≡ t
        → Low N (elim t [ false ↦ record { handed = []; clean = false } | true ↦ record { handed = k ∷ []; clean = true } ])
    go false e = below_none N
    go true e = below_more N k [] (ltb-true k N e) (below_none N)
visit_low ptr N (suc i) k kept =
    go (ltb k N) refl (visit_low ptr N i (next_block ptr k kept) (next_held ptr (suc i) k kept))
  where
    rest : Visited
    rest = visit_held ptr N i (next_block ptr k kept) (next_held ptr (suc i) k kept)

    go : (t : Bool) → ltb k N ≡ t → Low N rest
        → Low N (elim t [ false ↦ record { handed = []; clean = false } | true ↦ hand_on k rest ])
    go false e h = below_none N
    go true e h = below_more N k rest.handed (ltb-true k N e) h

pub seen_low : (B N : ℕ) (image : List ℕ) (e : Entry) → Below N (seen_of (card_with B N image) e).blocks
seen_low B N image e = go (eqb e.size 0) refl
  where
    go : (t : Bool) → eqb e.size 0 ≡ t → Below N (seen_of (card_with B N image) e).blocks
    go true q = rw (visit_empty B N image e.head e.size (eqb-true e.size 0 q)) (below_none N)
    go false q =
        let z = eqb-false e.size 0 q in
        rw (visit_begins B N image e.head e.size (omega arith)) (visit_low (pointer B image) N (index_at B (e.size - 1)) e.head None)

pub visits_low : (B N : ℕ) (image : List ℕ) (es : List Entry) → AllBelow N (visits_of (card_with B N image) es)
visits_low B N image [] = AllBelow.none
visits_low B N image (e ∷ es) = AllBelow.one (seen_low B N image e) (visits_low B N image es)

-- THEOREM. The visits of a table's files tell what is listed ..
pub table_tells : (B N : ℕ) (image : List ℕ) (t : Table) → Tells N (listed_in (card_with B N image) t) (seen_in (card_with B N image) t)
unfolding seen_in listed_in
table_tells B N image t = tells N (visits_of (card_with B N image) (held t)) (visits_low B N image (held t))

-- .. and exactly that where none meets -84
pub table_lists : (B N : ℕ) (image : List ℕ) (t : Table) → AllOk (visits_of (card_with B N image) (held t)) → Lists N (listed_in (card_with B N image) t) (seen_in (card_with B N image) t)
unfolding seen_in listed_in
table_lists B N image t h = lists N (visits_of (card_with B N image) (held t)) (visits_low B N image (held t)) h

-- THEOREM. The block that `alloc` hands out on a clean window is one of the card, and no file of the table has it.
pub alloc_unlisted : (B N l len : ℕ) (image : List ℕ) (t : Table) (w : Lookahead) {b : ℕ} → Ready B N l len t w → CleanWindow N (listed_in (card_with B N image) t) w
    → (alloc_of (scope N l) (seen_in (card_with B N image) t) w).answer ≡ Ok b → (b < N) × (has (listed_in (card_with B N image) t) b ≡ false)
alloc_unlisted B N l len image t w r c e = handed_out r.sizes r.window c (table_tells B N image t) e
