-- Whether a block spoils a growth, by cases.
use mathlib.Core.Path.{◌≡◌}
use mathlib.Core.Bool.{true, false, ◌&&◌, and-false}
use mathlib.Core.List.{List}
use Prim.Native.Nat.{ℕ, ◌≤◌, ◌<◌}
use borrow.Author.Tests.{lt-ltb, le-ltb}
use lib.Dec.{ltb}
use Rattle.health.specs.Health.{refuses_program}
use Rattle.grow.specs.inner.Grow.{spoils}

module _ (health : List ℕ) (N k head s : ℕ) where
  -- the block takes programs
  pub spoils_stored : refuses_program health k ≡ false → spoils health N k head s ≡ false
  unfolding spoils
  spoils_stored e = rw (spoils, e)

  -- nothing is programmed: size 0, or a head that is not below N
  pub spoils_empty : s ≡ 0 → spoils health N k head s ≡ false
  unfolding spoils
  spoils_empty e = rw (spoils, e, and-false (refuses_program health k))

  pub spoils_damaged : N ≤ head → spoils health N k head s ≡ false
  unfolding spoils
  spoils_damaged h = rw (spoils, le-ltb head N h) (and-false (refuses_program health k && ltb 0 s))

  -- the first program is refused
  pub spoils_refused : refuses_program health k ≡ true → 0 < s → head < N → spoils health N k head s ≡ true
  unfolding spoils
  spoils_refused e h l = rw (spoils, e, lt-ltb 0 s h, lt-ltb head N l)

-- of the size only whether it is 0 matters
pub spoils_some : (health : List ℕ) (N k head s r : ℕ) → 0 < s → 0 < r → spoils health N k head s ≡ spoils health N k head r
unfolding spoils
spoils_some health N k head s r h l = rw (spoils, lt-ltb 0 s h, lt-ltb 0 r l)
