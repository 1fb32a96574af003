-- The tests of a window and of N and L, as facts. Assumes nothing.
use mathlib.Core.Path.{◌≡◌, refl}
use mathlib.Core.Bool.{Bool, true, false, ◌&&◌, and-eq-true_iff}
use Prim.Native.Nat.{ℕ, ◌*◌, ◌≤◌, ◌<◌, min}
use native.Mathlib.Nat.{min-le_left, min-le_right, le_trans, le-min}
use native.Mathlib.Omega.{arith}
use borrow.Author.Tests.{ltb-true, leb-true, lt-ltb, le-leb}
use Rattle.layout.specs.declared.Geometry.{Geometry}
use Rattle.std.specs.Result.{is_ok}
use Rattle.layout.specs.Geometry.{size_fits, count_fits, card_fits}
use Rattle.layout.specs.inner.Served.{geometry}
use Rattle.layout.specs.inner.Made.{made_of, pick_made}
use Rattle.window.specs.declared.Lookahead.{Lookahead}
use Rattle.window.specs.Value.{lookahead_fits, valid_of, sizes_fit}
use Rattle.window.specs.inner.Facts.{ValidWindow, GoodScope, Searchable, scope}

module _ (w : Lookahead) (n l : ℕ) where
  -- THEOREM. The test says valid exactly for the valid windows.
  pub tested_valid : valid_of (scope n l) w ≡ true → ValidWindow w n l
  unfolding valid_of
  tested_valid e =
      let all = (and-eq-true_iff _ _).0 e in
      let left = (and-eq-true_iff _ _).0 all.0 in
      let size = (and-eq-true_iff _ _).0 left.0 in
      let start = (and-eq-true_iff _ _).0 size.0 in
      let m : w.size ≤ min (8 * l) n = leb-true _ _ size.1 in
      record {
        start_lt = ltb-true _ _ start.0;
        next_le = leb-true _ _ start.1;
        size_le = le_trans m (min-le_left (8 * l) n);
        size_le_n = le_trans m (min-le_right (8 * l) n);
        left_le = leb-true _ _ left.1;
        ck_le = leb-true _ _ all.1;
      }

  pub valid_tested : ValidWindow w n l → valid_of (scope n l) w ≡ true
  unfolding valid_of
  valid_tested g =
      rw (
        lt-ltb _ _ g.start_lt,
        le-leb _ _ g.next_le,
        le-leb _ _ (le-min g.size_le g.size_le_n),
        le-leb _ _ g.left_le,
        le-leb _ _ g.ck_le,
      )

  -- what a search asks
  pub good : GoodScope n l → ValidWindow w n l → Searchable w n
  good z g =
      record {
        n_le = z.n_le;
        start_lt = g.start_lt;
        next_le = g.next_le;
        size_le = omega (arith, z.l_le, g.size_le);
        left_le = g.left_le;
      }

-- the test of L, and that of the geometry before it
pub looks : (n l : ℕ) → 0 < n → n ≤ 65536 → lookahead_fits l ≡ true → GoodScope n l
unfolding lookahead_fits
looks n l some few e =
    let bounds = (and-eq-true_iff _ _).0 ((and-eq-true_iff _ _).0 e).0 in
    record { n_pos = some; n_le = few; l_ge = leb-true _ _ bounds.0; l_le = leb-true _ _ bounds.1 }

pub sizes : (g : Geometry) (l : ℕ) → sizes_fit g l ≡ true → GoodScope g.block_count l
unfolding sizes_fit
sizes g l e =
    let B = g.block_size in
    let N = g.block_count in
    let all = (and-eq-true_iff (card_fits (geometry B N)) (lookahead_fits l)).0 e in
    let card = (and-eq-true_iff (size_fits B && count_fits N) _).0 all.0 in
    let count = (and-eq-true_iff _ _).0 ((and-eq-true_iff (size_fits B) _).0 card.0).1 in
    looks N l (leb-true _ _ count.0) (leb-true _ _ count.1) all.1

made_told : (t : Bool) (g : Geometry) → is_ok (pick_made t g) ≡ t
made_told true g = refl
made_told false g = refl

-- whether `Geometry::new` makes one, and the test of L
pub sizes_told : (g : Geometry) (l : ℕ) → sizes_fit g l ≡ (is_ok (made_of (geometry g.block_size g.block_count)) && lookahead_fits l)
unfolding sizes_fit
sizes_told g l = rw (made_told (card_fits g) g)
