-- Every step leaves a valid window. Assumes nothing.
use mathlib.Core.Path.{◌≡◌}
use mathlib.Core.Bool.{Bool, true, false}
use mathlib.Core.List.{List}
use Rattle.std.specs.Prelude.{None}
use Prim.Native.Nat.{ℕ, ◌+◌, ◌-◌, ◌*◌, ◌≤◌, ◌<◌}
use native.Mathlib.Nat.{mod-lt, min-le_left, min-le_right}
use native.Mathlib.Omega.{arith}
use Rattle.window.specs.declared.Lookahead.{Lookahead}
use Rattle.window.specs.Value.{fresh_of, checkpoint_of, dropped_of, with_map}
use Rattle.window.specs.Allocate.{free_from, moved, take_case, take_of}
use Rattle.window.specs.Scan.{Seen, cleared, mark_on, scan_case, scan_of}
use Rattle.window.specs.inner.Facts.{ValidWindow, scope}
use Rattle.window.proofs.Cases.{ltb_cases}
use Rattle.window.proofs.Search.{free_stops}

pub fresh_valid : (n l s : ℕ) → s < n → ValidWindow (fresh_of (scope n l) s) n l
fresh_valid n l s h =
    record {
      start_lt = h;
      next_le = omega arith;
      size_le = omega arith;
      size_le_n = omega arith;
      left_le = omega arith;
      ck_le = omega arith;
    }

module _ {w : Lookahead} {n l : ℕ} (g : ValidWindow w n l) where
  pub checkpoint_valid : ValidWindow (checkpoint_of n w) n l
  checkpoint_valid =
      record {
        start_lt = g.start_lt;
        next_le = g.next_le;
        size_le = g.size_le;
        size_le_n = g.size_le_n;
        left_le = omega (arith, g.left_le, g.ck_le);
        ck_le = omega arith;
      }

  pub dropped_valid : ValidWindow (dropped_of n w) n l
  dropped_valid =
      record {
        start_lt = g.start_lt;
        next_le = omega arith;
        size_le = omega arith;
        size_le_n = omega arith;
        left_le = omega arith;
        ck_le = omega arith;
      }

  pub map_valid : (m : List ℕ) → ValidWindow (with_map w m) n l
  map_valid m =
      record {
        start_lt = g.start_lt;
        next_le = g.next_le;
        size_le = g.size_le;
        size_le_n = g.size_le_n;
        left_le = g.left_le;
        ck_le = g.ck_le;
      }

  pub moved_valid : (to : ℕ) → w.next ≤ to → to ≤ w.size → ValidWindow (moved w to) n l
  moved_valid to a b =
      record {
        start_lt = g.start_lt;
        next_le = b;
        size_le = g.size_le;
        size_le_n = g.size_le_n;
        left_le = omega (arith, g.left_le);
        ck_le = omega (arith, g.ck_le);
      }

  pub cleared_valid : ValidWindow (cleared (scope n l) w) n l
  unfolding cleared
  cleared_valid =
      let a = min-le_left (8 * l) w.ckpoint in
      let b = min-le_right (8 * l) w.ckpoint in
      record {
        start_lt = mod-lt _ (omega (arith, g.start_lt));
        next_le = omega arith;
        size_le = omega arith;
        size_le_n = omega (arith, g.ck_le);
        left_le = omega arith;
        ck_le = omega (arith, g.ck_le);
      }

  pub take_valid : ValidWindow (take_of n w).window n l
  unfolding take_of
  take_valid =
      let at = free_from w w.next in
      let p = free_stops w.map w.next w.size g.next_le in
      ltb_cases at w.size (λ t. ValidWindow (take_case t n w at).window n l)
      (λ h. let q = free_stops w.map (at + 1) w.size (omega arith) in moved_valid _ (omega (arith, p.ge, q.ge)) q.le)
      (λ h. moved_valid at p.ge p.le)

  -- a search that used the window up passed every offset that was left
  pub take_empty : (take_of n w).answer ≡ None → (take_of n w).window.ckpoint ≡ w.ckpoint - (w.size - w.next)
  unfolding take_of
  take_empty =
      let at = free_from w w.next in
      let p = free_stops w.map w.next w.size g.next_le in
      ltb_cases at w.size
      (λ t. (take_case t n w at).answer ≡ None → (take_case t n w at).window.ckpoint ≡ w.ckpoint - (w.size - w.next))
      (λ h e. let z : ◌≡◌ {A = ℕ} 0 1 = cc in absurd (omega arith))
      (λ h e. omega (arith, p.le))

pub scan_valid : {w : Lookahead} {n l : ℕ} (seen : Seen) → ValidWindow w n l → ValidWindow (scan_of (scope n l) seen w).window n l
unfolding scan_of
scan_valid {w} {n} {l} seen g = go seen.ok
  where
    v : ValidWindow (mark_on n (cleared (scope n l) w) seen.blocks) n l
    v = map_valid (cleared_valid g) _

    go : (t : Bool) → ValidWindow (scan_case t n (mark_on n (cleared (scope n l) w) seen.blocks)).window n l
    go true = v
    go false = dropped_valid v
