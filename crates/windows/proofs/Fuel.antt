-- Allocation is total: the count bounds the searches, so the fuel of its definition plays no part. Assumes nothing.
use mathlib.Core.Path.{◌≡◌, refl}
use mathlib.Core.Bool.{Bool, true, false}
use Prim.Native.Nat.{ℕ, zero, suc, ◌+◌, ◌-◌, ◌*◌, ◌%◌, ◌≤◌, ◌<◌, min}
use native.Mathlib.Omega.{arith}
use Rattle.std.specs.Prelude.{Option}
use Rattle.window.specs.declared.Lookahead.{Lookahead}
use Rattle.window.specs.Allocate.{alloc_by, alloc_of, on_got, on_scan, used_up, take_of, Allocated}
use Rattle.window.specs.Scan.{Seen, cleared, mark_on, scan_case, scan_of}
use Rattle.window.specs.inner.Facts.{ValidWindow, GoodScope, scope}
use Rattle.window.proofs.Cases.{eqb_cases}
use Rattle.window.proofs.Kept.{cleared_valid, map_valid}
use Rattle.window.proofs.Turns.{left, less}
use Rattle.windows.proofs.Views.{Claim}
use Rattle.windows.proofs.Alloc.{Search, found, used, sought, some_on, SoughtBlock}

over : (c s : ℕ) → c + (1 - s) ≤ c + 2
over c s = omega arith

under : (x y c s : ℕ) → x ≡ y → y < c + (1 - s) → x ≤ c + 1
under x y c s e h = omega arith

nothing : Claim
nothing b t = ◌≡◌ {A = ℕ} 0 0

module _ (n l : ℕ) (seen : Seen) (z : GoodScope n l) where
  search : (w : Lookahead) → ValidWindow w n l → SoughtBlock nothing ((w.start + w.next + w.ckpoint) % n) n l w (take_of n w).answer (take_of n w).window
  unfolding nothing
  search w g = sought nothing ((w.start + w.next + w.ckpoint) % n) n l w g (λ o a b. refl) (some_on n l w g)

  same_scan : (v : Lookahead) (F G : Lookahead → Allocated) → ValidWindow v n l
      → ((u : Lookahead) → ValidWindow u n l → left u ≡ v.ckpoint + (1 - (min (8 * l) v.ckpoint - 0)) → F u ≡ G u) → on_scan (scan_of (scope n l) seen v) F ≡ on_scan (scan_of (scope n l) seen v) G
  unfolding scan_of cleared
  same_scan v F G g h = go seen.ok
    where
      go : (t : Bool) → on_scan (scan_case t n (mark_on n (cleared (scope n l) v) seen.blocks)) F ≡ on_scan (scan_case t n (mark_on n (cleared (scope n l) v) seen.blocks)) G
      go true = h (mark_on n (cleared (scope n l) v) seen.blocks) (map_valid (cleared_valid g) _) refl
      go false = refl

  same_got : (base : ℕ) (w : Lookahead) (q : Option ℕ) (v : Lookahead) (F G : Lookahead → Allocated) → Search nothing base n w q v
      → ((v.ckpoint ≡ 0 → ⊥) → v.ckpoint ≡ w.ckpoint - (w.size - w.next) → F v ≡ G v) → on_got q v F ≡ on_got q v G
  same_got base w q v F G (found h) k = refl
  same_got base w q v F G (used e p) k = eqb_cases v.ckpoint 0
      (λ t. used_up t v F ≡ used_up t v G) (λ o. refl) (λ o. k o e)

  -- any two amounts of fuel from `left w` up give the same answer
  pub same_fuel : (k j : ℕ) (w : Lookahead) → ValidWindow w n l → left w ≤ k → left w ≤ j → alloc_by k (scope n l) seen w ≡ alloc_by j (scope n l) seen w
  unfolding alloc_by
  same_fuel zero j w g a b = absurd (omega (arith, g.left_le))
  same_fuel (suc k) zero w g a b = absurd (omega (arith, g.left_le))
  same_fuel (suc k) (suc j) w g a b =
      let r = search w g in
      same_got _ w _ _ _ _ r.how (λ o q. same_scan _ _ _ r.valid (λ u gu e.
      let d = less l w.ckpoint (w.size - w.next) _ g.left_le q o z.l_ge in
      same_fuel k j u gu (omega arith) (omega arith)))

  -- THEOREM. The rule without fuel: search; if used up, -28 at count 0, else scan and allocate again.
  pub alloc_rule : (w : Lookahead) → ValidWindow w n l
      → alloc_of (scope n l) seen w ≡ on_got (take_of n w).answer (take_of n w).window (λ v. on_scan (scan_of (scope n l) seen v) (λ u. alloc_of (scope n l) seen u))
  unfolding alloc_of alloc_by
  alloc_rule w g =
      let e : w.ckpoint + 2 ≡ suc (w.ckpoint + 1) = omega arith in
      let r = search w g in
      rw e (same_got _ w _ _ _ _ r.how (λ o q. same_scan _ _ _ r.valid (λ u gu f.
      let d = less l w.ckpoint (w.size - w.next) _ g.left_le q o z.l_ge in
      same_fuel (w.ckpoint + 1) (u.ckpoint + 2) u gu (under _ _ w.ckpoint (w.size - w.next) f d) (over u.ckpoint (u.size - u.next)))))
