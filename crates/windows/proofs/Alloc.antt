-- One allocation, seen on the circle. Assumes nothing.
use mathlib.Core.Path.{◌≡◌, refl, ap, ◌∙◌, sym}
use mathlib.Core.Bool.{Bool, true, false}
use Prim.Native.Nat.{ℕ, zero, suc, ◌+◌, ◌-◌, ◌*◌, ◌%◌, ◌≤◌, ◌<◌, min}
use native.Mathlib.Nat.{mod-add-mod, add-mod_right}
use native.Mathlib.Omega.{arith}
use Rattle.span.specs.Members.{has, bit_in}
use Rattle.std.specs.Prelude.{Option, Some, None, Err}
use Rattle.layout.specs.declared.Refusal.TheVariants as refusal
use Rattle.window.specs.declared.Lookahead.{Lookahead}
use Rattle.window.specs.Allocate.{alloc_by, alloc_of, on_got, on_scan, used_up, free_from, moved, take_case, take_of, Answer, Allocated}
use Rattle.window.specs.Scan.{Seen, cleared, mark_on, scan_case, scan_of}
use Rattle.window.specs.inner.Facts.{ValidWindow, GoodScope, scope}
use Rattle.window.proofs.Cases.{eqb_cases, ltb_cases, no_both}
use Rattle.window.proofs.Kept.{cleared_valid, dropped_valid, map_valid, moved_valid}
use Rattle.window.proofs.Search.{free_stops}
use Rattle.window.proofs.Turns.{left, less}
use Rattle.windows.proofs.Views.{Claim, Handed, On, Result, Says, View, bad, full, handed, is_block, PassedMarked, Below}
use Rattle.windows.proofs.Circle.{shift}
use Rattle.windows.proofs.Scan.{scan_exact}

-- the place of an offset
pub on_place : (base n : ℕ) (w : Lookahead) → On base n w → (o : ℕ) → w.next ≤ o → (w.start + o) % n ≡ (base + (n - w.ckpoint + (o - w.next))) % n
on_place base n w h o a =
    let e : w.start + o ≡ w.start + w.next + (o - w.next) = omega arith in
    let f : base + (n - w.ckpoint) + (o - w.next) ≡ base + (n - w.ckpoint + (o - w.next)) = omega arith in
    ap (λ (x : ℕ). x % n) e ∙ shift n (w.start + w.next) (base + (n - w.ckpoint)) (o - w.next) h ∙ ap (λ (x : ℕ). x % n) f

pub moved_on : (base n l : ℕ) (w : Lookahead) (to : ℕ) → ValidWindow w n l → On base n w → w.next ≤ to → to ≤ w.size → On base n (moved w to)
moved_on base n l w to g h a b =
    let e : n - w.ckpoint + (to - w.next) ≡ n - (w.ckpoint - (to - w.next)) = omega arith in
    on_place base n w h to a ∙ ap (λ (x : ℕ). (base + x) % n) e

-- a window stands on some circle
pub some_on : (n l : ℕ) (w : Lookahead) → ValidWindow w n l → On ((w.start + w.next + w.ckpoint) % n) n w
some_on n l w g =
    let e : w.start + w.next + w.ckpoint + (n - w.ckpoint) ≡ w.start + w.next + n = omega (arith, g.ck_le) in
    sym (mod-add-mod (w.start + w.next + w.ckpoint) n (n - w.ckpoint) ∙ ap (λ (x : ℕ). x % n) e ∙ add-mod_right (w.start + w.next) n)

-- how a search ends
pub data Search (R : Claim) (base n : ℕ) (w : Lookahead) : Option ℕ → Lookahead → Type 0 where
  found : {b : ℕ} {v : Lookahead} → Handed R base n w.ckpoint b v.ckpoint → Search R base n w (Some b) v
  used : {v : Lookahead} → v.ckpoint ≡ w.ckpoint - (w.size - w.next) → PassedMarked R base n (n - w.ckpoint) (n - v.ckpoint) → Search R base n w None v

pub record SoughtBlock (R : Claim) (base n l : ℕ) (w : Lookahead) (g : Option ℕ) (v : Lookahead) : Type 0 where
  pub valid : ValidWindow v n l
  pub says : Says R n v
  pub on : On base n v
  pub reach : n - w.ckpoint + (w.size - w.next) ≤ n - v.ckpoint + (v.size - v.next)
  pub how : Search R base n w g v

module _ (R : Claim) (base n l : ℕ) (w : Lookahead) (g : ValidWindow w n l) (s : Says R n w) (h : On base n w) where
  -- what the window says of a place
  says_at : (t : Bool) (k : ℕ) → n - w.ckpoint ≤ k → k < n - w.ckpoint + (w.size - w.next)
      → bit_in w.map (w.next + (k - (n - w.ckpoint))) ≡ t → R ((base + k) % n) t
  says_at t k a b e =
      let o = w.next + (k - (n - w.ckpoint)) in
      let f : n - w.ckpoint + (o - w.next) ≡ k = omega arith in
      let p : (w.start + o) % n ≡ (base + k) % n = on_place base n w h o (omega arith) ∙ ap (λ (x : ℕ). (base + x) % n) f in
      rw (p, e) at (s o (omega arith) (omega arith))

  -- marked offsets are places passed
  passes : (a b o to : ℕ) → w.next ≤ o → to ≤ w.size → a ≡ n - w.ckpoint + (o - w.next) → b ≡ n - w.ckpoint + (to - w.next)
      → ((j : ℕ) → o ≤ j → j < to → bit_in w.map j ≡ true) → PassedMarked R base n a b
  passes a b o to lo hi ea eb m k ka kb = says_at true k (omega arith) (omega arith) (m _ (omega arith) (omega arith))

  says_moved : (to : ℕ) → w.next ≤ to → Says R n (moved w to)
  says_moved to a o b c = s o (omega arith) c

  pub sought : SoughtBlock R base n l w (take_of n w).answer (take_of n w).window
  unfolding take_of
  sought =
      let m = w.map in
      let at = free_from w w.next in
      let p = free_stops m w.next w.size g.next_le in
      ltb_cases at w.size (λ t. SoughtBlock R base n l w (take_case t n w at).answer (take_case t n w at).window)
      (λ lt.
      let to = free_from w (at + 1) in
      let q = free_stops m (at + 1) w.size (omega arith) in
      let k = n - w.ckpoint + (at - w.next) in
      let d = (moved w to).ckpoint in
      record {
        valid = moved_valid g to (omega arith) q.le;
        says = says_moved to (omega arith);
        on = moved_on base n l w to g h (omega arith) q.le;
        reach = omega arith;
        how = found (record {
          place = k;
          is = on_place base n w h at p.ge;
          from = omega arith;
          below = omega arith;
          says = rw (p.clear lt) at (s at p.ge lt);
          before = passes (n - w.ckpoint) k w.next at (omega arith) p.le (omega arith) refl p.passed;
          after = passes (suc k) (n - d) (at + 1) to (omega arith) q.le (omega arith) (omega arith) q.passed;
        });
      })
      (λ ge.
      record {
        valid = moved_valid g at p.ge p.le;
        says = says_moved at p.ge;
        on = moved_on base n l w at g h p.ge p.le;
        reach = omega (arith, p.ge, p.le);
        how = used (omega arith) (passes (n - w.ckpoint) _ w.next at (omega arith) p.le (omega arith) (omega arith) p.passed);
      })

join : (R : Claim) (base n a b c : ℕ) → PassedMarked R base n a b → PassedMarked R base n b c → PassedMarked R base n a c
join R base n a b c p q k lo hi = ltb_cases k b (λ _. R ((base + k) % n) true) (λ h. p k lo h) (λ h. q k h hi)

-- places passed before an allocation
later : (R : Claim) (base n l : ℕ) (ok : Bool) (c d : ℕ) {a : Allocated} → d ≤ c → c ≤ n → PassedMarked R base n (n - c) (n - d) → Result R base n l ok d a → Result R base n l ok c a
later R base n l ok c d {a} dc cn p r = record { valid = r.valid; says = r.says; view = go r.view }
  where
    go : {q : Answer} {v : Lookahead} → View R base n ok d q v → View R base n ok c q v
    go (handed h o) = handed (record {
      place = h.place;
      is = h.is;
      from = omega (arith, h.from);
      below = h.below;
      says = h.says;
      before = join R base n (n - c) (n - d) h.place p h.before;
      after = h.after;
    }) o
    go (full z q o) = full z (join R base n (n - c) (n - d) n p q) o
    go (bad t z e) = bad t z e

-- where a window that was used up stands
past : (first n c d v : ℕ) → d ≤ c → c ≤ n → v ≡ c - d → first ≤ n - c + d → first ≤ n - v
past first n c d v a b e h = omega arith

further : (first n u v x : ℕ) → u ≡ v → first ≤ n - v → first ≤ n - u + x
further first n u v x e h = omega arith

-- Told what is so of the places from `first` on: those beyond what is left of the window.
module _ (R : Claim) (base n l : ℕ) (seen : Seen) (z : GoodScope n l) (low : Below n seen.blocks) (first : ℕ)
    (told : seen.ok ≡ true → (k : ℕ) → first ≤ k → k < n → R ((base + k) % n) (has seen.blocks ((base + k) % n))) where
  -- the result, and what is left of a window that handed out a block reaches to `first` too
  abbrev Reached : ℕ → Allocated → Type 0
  Reached c a = Result R base n l seen.ok c a × (is_block a.answer ≡ true → first ≤ n - a.window.ckpoint + (a.window.size - a.window.next))

  -- after a search that used the window up: what the scan and the rest say
  on_scan_lem : (v : Lookahead) (F : Lookahead → Allocated) → ValidWindow v n l → On base n v → first ≤ n - v.ckpoint
      → ((u : Lookahead) → ValidWindow u n l → Says R n u → On base n u → left u ≡ v.ckpoint + (1 - (min (8 * l) v.ckpoint - 0)) → u.ckpoint ≡ v.ckpoint → Reached u.ckpoint (F u))
      → Reached v.ckpoint (on_scan (scan_of (scope n l) seen v) F)
  unfolding scan_of cleared
  on_scan_lem v F g h f k = go seen.ok refl
    where
      plus_zero : v.start + v.next + 0 ≡ v.start + v.next
      plus_zero = omega arith

      c : ValidWindow (cleared (scope n l) v) n l
      c = cleared_valid g

      on : On base n (cleared (scope n l) v)
      on = mod-add-mod (v.start + v.next) n 0 ∙ ap (λ (x : ℕ). x % n) plus_zero ∙ h

      go : (t : Bool) → seen.ok ≡ t → Reached v.ckpoint (on_scan (scan_case t n (mark_on n (cleared (scope n l) v) seen.blocks)) F)
      go true ok = k (mark_on n (cleared (scope n l) v) seen.blocks) (map_valid c _)
          (λ o a b. rw (scan_exact n l v seen.blocks z g low o b, on_place base n (cleared (scope n l) v) on o a)
          (told ok (n - v.ckpoint + (o - 0)) (omega arith) (omega (arith, g.ck_le))))
          on refl refl
      go false ok = (record { valid = dropped_valid (map_valid c _); says = λ o a b. absurd (omega arith); view = bad ok refl refl }, λ e. absurd (no_both false e refl))

  on_got_lem : (w : Lookahead) (q : Option ℕ) (v : Lookahead) (F : Lookahead → Allocated) → ValidWindow w n l → first ≤ n - w.ckpoint + (w.size - w.next) → SoughtBlock R base n l w q v
      → ((v.ckpoint ≡ 0 → ⊥) → v.ckpoint ≡ w.ckpoint - (w.size - w.next) → Reached v.ckpoint (F v))
      → Reached w.ckpoint (on_got q v F)
  on_got_lem w q v F g m r k = go r.how k
    where
      go : {p : Option ℕ} → Search R base n w p v
          → ((v.ckpoint ≡ 0 → ⊥) → v.ckpoint ≡ w.ckpoint - (w.size - w.next) → Reached v.ckpoint (F v))
          → Reached w.ckpoint (on_got p v F)
      go (found f) k = (record { valid = r.valid; says = r.says; view = handed f r.on }, λ e. omega (arith, r.reach))
      go (used e p) k = eqb_cases v.ckpoint 0 (λ t. Reached w.ckpoint (used_up t v F))
          (λ o. (record { valid = r.valid; says = r.says; view = full o (λ j lo hi. p j lo (omega arith)) r.on }, λ e. absurd (no_both false e refl)))
          (λ o. let x = k o e in (later R base n l seen.ok w.ckpoint v.ckpoint (omega arith) g.ck_le p x.0, x.1))

  alloc_by_lem : (f : ℕ) (w : Lookahead) → ValidWindow w n l → Says R n w → On base n w → first ≤ n - w.ckpoint + (w.size - w.next) → left w ≤ f
      → Reached w.ckpoint (alloc_by f (scope n l) seen w)
  unfolding alloc_by
  alloc_by_lem zero w g s h m e = absurd (omega (arith, g.left_le))
  alloc_by_lem (suc f) w g s h m e =
      let r = sought R base n l w g s h in
      on_got_lem w _ _ _ g m r (λ o q.
      let m' = past first n w.ckpoint (w.size - w.next) _ g.left_le g.ck_le q m in
      on_scan_lem _ _ r.valid r.on m'
      (λ u gu su hu eu cu. alloc_by_lem f u gu su hu (further first n _ _ (u.size - u.next) cu m') (omega (arith, less l w.ckpoint (w.size - w.next) _ g.left_le q o z.l_ge))))

  -- THEOREM. One allocation, from a valid window that says the truth and stands on the circle of base.
  pub alloc_from : (w : Lookahead) → ValidWindow w n l → Says R n w → On base n w → first ≤ n - w.ckpoint + (w.size - w.next) → Reached w.ckpoint (alloc_of (scope n l) seen w)
  unfolding alloc_of
  alloc_from w g s h m = alloc_by_lem (w.ckpoint + 2) w g s h m (omega arith)

-- The same, told what is so of every block.
pub alloc_view : (R : Claim) (base n l : ℕ) (seen : Seen) → GoodScope n l → Below n seen.blocks → (seen.ok ≡ true → (b : ℕ) → R b (has seen.blocks b))
    → (w : Lookahead) → ValidWindow w n l → Says R n w → On base n w → Result R base n l seen.ok w.ckpoint (alloc_of (scope n l) seen w)
alloc_view R base n l seen z low told w g s h = (alloc_from R base n l seen z low 0 (λ ok k _ _. told ok _) w g s h (omega arith)).0

-- THEOREM. -28 leaves a window with nothing left, whatever window it was.
pub none_after : (n l : ℕ) (seen : Seen) → GoodScope n l → Below n seen.blocks → (w : Lookahead) → ValidWindow w n l → (alloc_of (scope n l) seen w).answer ≡ Err refusal.NoSpace
    → ValidWindow (alloc_of (scope n l) seen w).window n l × ((alloc_of (scope n l) seen w).window.size ≤ (alloc_of (scope n l) seen w).window.next)
none_after n l seen z low w g e =
    let r = alloc_view (λ b t. ◌≡◌ {A = ℕ} 0 0) _ n l seen z low (λ ok b. refl) w g (λ o a b. refl) (some_on n l w g) in (r.valid, go r.valid r.view e)
  where
    go : {R : Claim} {base : ℕ} {q : Answer} {v : Lookahead} → ValidWindow v n l → View R base n seen.ok w.ckpoint q v → q ≡ Err refusal.NoSpace → v.size ≤ v.next
    go gv (handed _ _) e = let y : ◌≡◌ {A = ℕ} 0 1 = cc in absurd (omega arith)
    go gv (full c _ _) e = omega (arith, gv.left_le)
    go gv (bad _ _ _) e = let y : ◌≡◌ {A = ℕ} 0 1 = cc in absurd (omega arith)
