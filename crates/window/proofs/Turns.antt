-- The turns of an allocation, from what a search and a scan answer. Assumes nothing.
use mathlib.Core.Path.{◌≡◌, refl, ap, ◌∙◌}
use mathlib.Core.Bool.{Bool, true, false}
use Prim.Native.Nat.{ℕ, suc, ◌+◌, ◌-◌, ◌*◌, ◌≤◌, ◌<◌, min}
use native.Mathlib.Omega.{arith}
use borrow.Author.Tests.{eq-eqb, ne_eqb}
use Rattle.std.specs.Prelude.{Option, Some, None, Result, Ok, Err}
use Rattle.layout.specs.declared.Refusal.{Refusal}
use Rattle.layout.specs.declared.Refusal.TheVariants.{NoSpace}
use Rattle.window.specs.declared.Lookahead.{Lookahead}
use Rattle.window.specs.declared.Windowed.{Windowed}
use Rattle.window.specs.Allocate.{take_of, alloc_by}
use Rattle.window.specs.Scan.{Seen, cleared, mark_on, scan_case, scan_of}
use Rattle.window.specs.inner.Facts.{ValidWindow, GoodScope, scope}
use Rattle.window.proofs.Kept.{take_valid, take_empty, scan_valid}

-- falls from each search that found nothing to the next
abbrev pub left : Lookahead → ℕ
left w = w.ckpoint + (1 - (w.size - w.next))

pub less : (l ck d rk : ℕ) → d ≤ ck → rk ≡ ck - d → (rk ≡ 0 → ⊥) → 8 ≤ l → rk + (1 - (min (8 * l) rk - 0)) < ck + (1 - d)
less l ck d rk a b c e = omega arith

-- what a scan that meets no -84 leaves
scan_left : (n l : ℕ) (seen : Seen) (w : Lookahead) → (scan_of (scope n l) seen w).answer ≡ Ok tt
    → left (scan_of (scope n l) seen w).window ≡ w.ckpoint + (1 - (min (8 * l) w.ckpoint - 0))
unfolding scan_of cleared
scan_left n l seen w e = go seen.ok e
  where
    v : Lookahead
    v = mark_on n (cleared (scope n l) w) seen.blocks

    go : (t : Bool) → (scan_case t n v).answer ≡ Ok tt → left (scan_case t n v).window ≡ w.ckpoint + (1 - (min (8 * l) w.ckpoint - 0))
    go true e = refl
    go false e = let z : ◌≡◌ {A = ℕ} 0 1 = cc in absurd (omega arith)

module _ (n l : ℕ) (seen : Seen) (w : Lookahead) (r : Windowed (Option ℕ)) (p : r ≡ take_of n w) where
  pub alloc_block : (k b : ℕ) → r.answer ≡ Some b → alloc_by (suc k) (scope n l) seen w ≡ record { answer = Ok b; window = r.window }
  unfolding alloc_by
  alloc_block k b e = rw (← p, e)

  module _ (e : r.answer ≡ None) where
    pub alloc_none : (k : ℕ) → r.window.ckpoint ≡ 0 → alloc_by (suc k) (scope n l) seen w ≡ record { answer = Err NoSpace; window = r.window }
    unfolding alloc_by
    alloc_none k z = rw (← p, e, eq-eqb _ _ z)

    module _ (z : r.window.ckpoint ≡ 0 → ⊥) (s : Windowed (Result Unit Refusal)) (q : s ≡ scan_of (scope n l) seen r.window) where
      pub alloc_refused : (k : ℕ) (x : Refusal) → s.answer ≡ Err x → alloc_by (suc k) (scope n l) seen w ≡ record { answer = Err x; window = s.window }
      unfolding alloc_by
      alloc_refused k x o = rw (← p, e, ne_eqb _ _ z, ← q, o)

      module _ (o : s.answer ≡ Ok tt) where
        pub alloc_again : (k : ℕ) → alloc_by (suc k) (scope n l) seen w ≡ alloc_by k (scope n l) seen s.window
        unfolding alloc_by
        alloc_again k = rw (← p, e, ne_eqb _ _ z, ← q, o)

        pub again_valid : ValidWindow w n l → ValidWindow s.window n l
        again_valid g = rw q (scan_valid seen (rw p (take_valid g)))

        pub again_less : ValidWindow w n l → GoodScope n l → left s.window < left w
        again_less g h =
            let a : r.window.ckpoint ≡ w.ckpoint - (w.size - w.next) = ap (λ (x : Windowed (Option ℕ)). x.window.ckpoint) p ∙ take_empty g (rw p at e) in
            let b : left s.window ≡ _ = ap (λ (x : Windowed (Result Unit Refusal)). left x.window) q ∙ scan_left n l seen r.window (rw q at o) in
            omega (arith, less l w.ckpoint (w.size - w.next) r.window.ckpoint g.left_le a z h.l_ge)
