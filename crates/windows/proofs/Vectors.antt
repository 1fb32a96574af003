-- 01's worked allocations, N = 10 and L = 8. Assumes nothing.
use mathlib.Core.Path.{◌≡◌, refl}
use mathlib.Core.Bool.{true, false}
use mathlib.Core.List.{List, [], ◌∷◌}
use Prim.Native.Nat.{ℕ, zero, suc}
use lib.ListN.{replicate}
use Rattle.layout.specs.declared.Refusal.TheVariants as refusal
use Rattle.span.specs.Members.{has}
use Rattle.std.specs.Prelude.{Ok, Err}
use Rattle.window.specs.declared.Lookahead.{Lookahead}
use Rattle.window.specs.Allocate.{alloc_by, alloc_of, skip, take_of, Answer, Allocated}
use Rattle.window.specs.Scan.{mark_all, mark_map, Seen, cleared, scan_of}
use Rattle.window.specs.Value.{fresh_of}
use Rattle.window.specs.inner.Facts.{scope}
use Rattle.windows.specs.Space.{tally}
use Rattle.windows.proofs.Asking.{ask_of, unused_from, good_unlisted}

abbrev some : Seen
some = record { blocks = 0 ∷ 1 ∷ 4 ∷ []; ok = true }

abbrev free : Seen
free = record { blocks = []; ok = true }

abbrev broken : Seen
broken = record { blocks = 2 ∷ []; ok = false }

abbrev one : Allocated
one = alloc_of (scope 10 8) some (fresh_of (scope 10 8) 0)

abbrev two : Allocated
two = alloc_of (scope 10 8) some one.window

-- listed 0, 1, 4: first 2, then 3, leaving next 5 and count 5
listed : (one.answer ≡ Ok 2) × (two.answer ≡ Ok 3) × (two.window.next ≡ 5) × (two.window.ckpoint ≡ 5)
unfolding alloc_of alloc_by take_of skip cleared mark_all mark_map scan_of
listed = (refl, refl, refl, refl)

abbrev answers : ℕ → Lookahead → List Answer
answers zero w = []
answers (suc k) w = (alloc_of (scope 10 8) free w).answer ∷ answers k (alloc_of (scope 10 8) free w).window

-- all free, start 0: ten allocations give 0 to 9, the eleventh -28
eleven : answers 11 (fresh_of (scope 10 8) 0)
    ≡ Ok 0 ∷ Ok 1 ∷ Ok 2 ∷ Ok 3 ∷ Ok 4 ∷ Ok 5 ∷ Ok 6 ∷ Ok 7 ∷ Ok 8
    ∷ Ok 9 ∷ Err refusal.NoSpace ∷ []
unfolding alloc_of alloc_by take_of skip cleared mark_all mark_map scan_of
eleven = refl

-- a visit that fails: -84, dropped, the map as its steps marked it
damaged : alloc_of (scope 10 8) broken (fresh_of (scope 10 8) 3) ≡ record { answer = Err refusal.Damaged; window = record { map = 0 ∷ (2 ∷ replicate 62 0); start = 3; next = 0; size = 0; ckpoint = 10 } }
unfolding alloc_of alloc_by take_of skip cleared mark_all mark_map scan_of
damaged = refl

-- what is left to hand out from a fresh window at 3, and that asking for more of them fails
circle : unused_from 3 10 (has some.blocks) 10 ≡ 3 ∷ 5 ∷ 6 ∷ 7 ∷ 8 ∷ 9 ∷ 2 ∷ []
unfolding unused_from has
circle = refl

asks : (ask_of 11 (λ b. true) 10 8 some 7 (fresh_of (scope 10 8) 3) ≡ true) × (ask_of 11 (λ b. true) 10 8 some 8 (fresh_of (scope 10 8) 3) ≡ false) × (good_unlisted (λ b. true) 10 some.blocks ≡ 7)
unfolding ask_of alloc_of alloc_by take_of skip cleared mark_all mark_map scan_of tally has
asks = (refl, refl, refl)
