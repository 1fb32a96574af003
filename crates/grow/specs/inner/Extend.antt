-- The growth with the window as its allocator, and what its functions ask.
use Rattle.std.specs.Prelude.{Bool, ◌&&◌, List, [], ℕ, suc, ◌≤◌, leb, length}
use Rattle.layout.specs.Numbers.{size_max}
use Rattle.files.specs.declared.Table.{Table}
use Rattle.files.specs.Table.{table_ok}
use Rattle.window.specs.declared.Lookahead.{Lookahead}
use Rattle.alloc.specs.inner.Facts.{Ready}
use Rattle.trials.specs.Loop.{Took}
use Rattle.grow.specs.Extend.{GrowOut, alloc_in}
use Rattle.grow.specs.Setting.{tested_of}
use Rattle.grow.specs.inner.Setting.{setting}
use Rattle.grow.specs.inner.Grow.{grow_of}

-- the window as an allocator, by numbers
unfoldable pub window_alloc : ℕ → ℕ → ℕ → Table → Lookahead → List ℕ → Took Lookahead
window_alloc B N l t w img = alloc_in (setting B N l []) t w img

-- the growth from the window: each try passes a block, so the checkpoint count bounds them
unfoldable pub extend_in : ℕ → ℕ → ℕ → List ℕ → Table → Lookahead → ℕ → ℕ → List ℕ → GrowOut Lookahead
extend_in B N l health t w head s img = grow_of (window_alloc B N l t) (suc w.ckpoint) w health B N head s img

-- the tests of a growth: the first ones, for an image of `len` bytes, then table and size
unfoldable pub extend_tested : ℕ → ℕ → ℕ → ℕ → List ℕ → Table → Lookahead → ℕ → Bool
extend_tested B N l len health t w s = tested_of (setting B N l health) w len && table_ok t && leb s size_max

-- behind the tests
pub record Extending (B N l : ℕ) (image health : List ℕ) (t : Table) (w : Lookahead) (s : ℕ) : Type 0 where
  pub ready : Ready B N l (length image) t w
  pub known : N ≤ length health
  pub fits : s ≤ size_max
