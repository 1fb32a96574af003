-- One growth, try by try.
use mathlib.Core.Path.{◌≡◌}
use mathlib.Core.Bool.{true, false}
use mathlib.Core.List.{List}
use Prim.Native.Nat.{ℕ, suc}
use Rattle.std.specs.Prelude.{Err}
use Rattle.layout.specs.declared.Refusal.TheVariants as refusal
use Rattle.health.specs.Health.{refuses_erase}
use Rattle.device.specs.Device.{wiped}
use Rattle.trials.specs.Loop.{Took, Block, None, Bad}
use Rattle.grow.specs.Extend.{grow_out}
use Rattle.grow.specs.inner.Grow.{link_of, spoils, grow_of}

module _ {W : Type 0} (alloc : W → List ℕ → Took W) (m : ℕ) (w w' : W) (health : List ℕ) (B N head s : ℕ) (img : List ℕ) where
  -- no block is left
  pub grow_none : alloc w img ≡ None w' → grow_of alloc (suc m) w health B N head s img ≡ grow_out (Err refusal.NoSpace) img w'
  unfolding grow_of
  grow_none e = rw (grow_of, e)

  pub grow_bad : alloc w img ≡ Bad w' → grow_of alloc (suc m) w health B N head s img ≡ grow_out (Err refusal.Damaged) img w'
  unfolding grow_of
  grow_bad e = rw (grow_of, e)

  module _ (k : ℕ) (e : alloc w img ≡ Block k w') where
    -- a refused erase moves on
    pub grow_kept : refuses_erase health k ≡ true
        → grow_of alloc (suc m) w health B N head s img ≡ grow_of alloc m w' health B N head s img
    unfolding grow_of
    grow_kept r = rw (grow_of, e, r)

    -- a refused program moves on
    pub grow_spoiled : refuses_erase health k ≡ false → spoils health N k head s ≡ true
        → grow_of alloc (suc m) w health B N head s img ≡ grow_of alloc m w' health B N head s (wiped B img k)
    unfolding grow_of
    grow_spoiled r p = rw (grow_of, e, r, p)

    pub grow_linked : refuses_erase health k ≡ false → spoils health N k head s ≡ false
        → grow_of alloc (suc m) w health B N head s img ≡ link_of B N k head s (wiped B img k) w'
    unfolding grow_of
    grow_linked r p = rw (grow_of, e, r, p)
