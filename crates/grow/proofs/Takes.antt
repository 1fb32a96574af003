-- One allocation: the window stays valid; a block that is handed out is below N, and the checkpoint count falls. Assumes nothing.
use mathlib.Core.Path.{◌≡◌, refl, ap}
use mathlib.Core.Logic.{◌⊎◌, inl, inr}
use mathlib.Core.Bool.{Bool, true, false}
use mathlib.Core.List.{List}
use Prim.Native.Nat.{ℕ, zero, suc, ◌+◌, ◌%◌, ◌≤◌, ◌<◌}
use native.Mathlib.Nat.{mod-lt}
use native.Mathlib.Omega.{arith}
use Rattle.layout.specs.declared.Refusal.TheVariants as refusal
use Rattle.card.specs.inner.Cards.{card_with}
use Rattle.files.specs.declared.Table.{Table}
use Rattle.std.specs.declared.option.Option.TheVariants as option
use Rattle.std.specs.Prelude.{Ok, Err, Option, Some}
use Rattle.window.specs.declared.Lookahead.{Lookahead}
use Rattle.window.specs.Allocate.{free_from, take_case, take_of, on_scan, on_got, used_up, alloc_by, alloc_of, Allocated}
use Rattle.window.specs.Scan.{Seen, cleared, mark_on, scan_case, scan_of}
use Rattle.window.specs.inner.Facts.{ValidWindow, scope}
use Rattle.window.proofs.Cases.{ltb_cases, eqb_cases}
use Rattle.window.proofs.Search.{free_stops}
use Rattle.window.proofs.Kept.{cleared_valid, map_valid, dropped_valid, take_valid, take_empty}
use Rattle.alloc.specs.Visits.{seen_in}
use Rattle.trials.specs.Loop.{Block, None, Bad}
use Rattle.layout.specs.declared.Refusal.{Refusal}
use Rattle.grow.specs.inner.Extend.{window_alloc}

-- an allocation from that count
pub record Outcome (n l count : ℕ) (a : Allocated) : Type 0 where
  pub valid : ValidWindow a.window n l
  pub below : (k : ℕ) → a.answer ≡ Ok k → k < n
  pub falls : (k : ℕ) → a.answer ≡ Ok k → a.window.ckpoint < count
  pub refused : (r : Refusal) → a.answer ≡ Err r → (r ≡ refusal.NoSpace) ⊎ (r ≡ refusal.Damaged)

-- one that hands out nothing
nothing : {n l count : ℕ} {a : Allocated} → ValidWindow a.window n l → (r : Refusal) → (r ≡ refusal.NoSpace) ⊎ (r ≡ refusal.Damaged)
    → a.answer ≡ Err r → Outcome n l count a
nothing {a = a} g r x e =
    let never : (k : ℕ) → a.answer ≡ Ok k → ⊥ = λ k d. let z : ◌≡◌ {A = ℕ} 0 1 = cc in omega arith in
    record {
      valid = g;
      below = λ k d. absurd (never k d);
      falls = λ k d. absurd (never k d);
      refused = λ q d. let i : r ≡ q = cc in rw (← i) x;
    }

fewer : {n l c d : ℕ} {a : Allocated} → d ≤ c → Outcome n l d a → Outcome n l c a
fewer h o = record { valid = o.valid; below = o.below; falls = λ k e. omega (arith, o.falls k e); refused = o.refused }

not_empty : (k : ℕ) → ◌≡◌ {A = Option ℕ} option.None (Some k) → ⊥
not_empty k e = let z : ◌≡◌ {A = ℕ} 0 1 = cc in omega arith

module _ {n l : ℕ} {w : Lookahead} (g : ValidWindow w n l) where
  -- the block that a search found
  taken : (k : ℕ) → (take_of n w).answer ≡ Some k → (k < n) × ((take_of n w).window.ckpoint < w.ckpoint)
  unfolding take_of
  taken =
      let at = free_from w w.next in
      let p = free_stops w.map w.next w.size g.next_le in
      ltb_cases at w.size
      (λ t. (k : ℕ) → (take_case t n w at).answer ≡ Some k → (k < n) × ((take_case t n w at).window.ckpoint < w.ckpoint))
      (λ h k e.
      let q = free_stops w.map (at + 1) w.size (omega arith) in
      let b : (w.start + at) % n ≡ k = cc in
      (rw (← b) (mod-lt _ (omega (arith, g.start_lt))), omega (arith, p.ge, q.ge, q.le, g.left_le)))
      (λ h k e. absurd (not_empty k e))

module _ (n l : ℕ) (seen : Seen) where
  on_scan_lem : (v : Lookahead) (f : Lookahead → Allocated) → ValidWindow v n l
      → ((u : Lookahead) → ValidWindow u n l → u.ckpoint ≡ v.ckpoint → Outcome n l u.ckpoint (f u))
      → Outcome n l v.ckpoint (on_scan (scan_of (scope n l) seen v) f)
  unfolding scan_of cleared
  on_scan_lem v f g h = go seen.ok
    where
      go : (t : Bool) → Outcome n l v.ckpoint (on_scan (scan_case t n (mark_on n (cleared (scope n l) v) seen.blocks)) f)
      go true = h (mark_on n (cleared (scope n l) v) seen.blocks) (map_valid (cleared_valid g) _) refl
      go false = nothing (dropped_valid (map_valid (cleared_valid g) _)) refusal.Damaged (inr refl) refl

  on_got_lem : (count : ℕ) (q : Option ℕ) (v : Lookahead) (f : Lookahead → Allocated) → ValidWindow v n l
      → ((k : ℕ) → q ≡ Some k → (k < n) × (v.ckpoint < count)) → (q ≡ option.None → Outcome n l count (f v))
      → Outcome n l count (on_got q v f)
  on_got_lem count (Some b) v f g h r =
      record {
        valid = g;
        below = λ k e. (h k (let i : b ≡ k = cc in ap Some i)).0;
        falls = λ k e. (h k (let i : b ≡ k = cc in ap Some i)).1;
        refused = λ q e. let z : ◌≡◌ {A = ℕ} 0 1 = cc in absurd (omega arith);
      }
  on_got_lem count option.None v f g h r =
      eqb_cases v.ckpoint 0 (λ t. Outcome n l count (used_up t v f)) (λ z. nothing g refusal.NoSpace (inl refl) refl) (λ z. r refl)

  by_searches : (m : ℕ) (w : Lookahead) → ValidWindow w n l → Outcome n l w.ckpoint (alloc_by m (scope n l) seen w)
  unfolding alloc_by
  by_searches zero w g = nothing g refusal.NoSpace (inl refl) refl
  by_searches (suc m) w g =
      on_got_lem w.ckpoint (take_of n w).answer (take_of n w).window _ (take_valid g) (taken g)
      (λ e.
      fewer (omega (arith, take_empty g e)) (on_scan_lem (take_of n w).window _ (take_valid g) (λ u gu eu. by_searches m u gu)))

  pub allocated : (w : Lookahead) → ValidWindow w n l → Outcome n l w.ckpoint (alloc_of (scope n l) seen w)
  unfolding alloc_of
  allocated w g = by_searches (w.ckpoint + 2) w g

-- the window as a growth's allocator
module _ (B N l : ℕ) (t : Table) (w : Lookahead) (img : List ℕ) {a : Allocated} (p : a ≡ alloc_of (scope N l) (seen_in (card_with B N img) t) w) where
  pub took_block : {k : ℕ} → a.answer ≡ Ok k → window_alloc B N l t w img ≡ Block k a.window
  unfolding window_alloc
  took_block e = rw (window_alloc, ← p, e)

  pub took_none : a.answer ≡ Err refusal.NoSpace → window_alloc B N l t w img ≡ None a.window
  unfolding window_alloc
  took_none e = rw (window_alloc, ← p, e)

  pub took_bad : a.answer ≡ Err refusal.Damaged → window_alloc B N l t w img ≡ Bad a.window
  unfolding window_alloc
  took_bad e = rw (window_alloc, ← p, e)
