-- What a store call is given: its setting, and the state that calls change and hand on.
use Rattle.std.specs.Prelude.{Bool, ◌&&◌, List, ℕ, length}
use Rattle.layout.specs.declared.Geometry.{Geometry}
use Rattle.card.specs.Card.{Card, good_card}
use Rattle.health.specs.Health.{health_ok}
use Rattle.files.specs.declared.Table.{Table}
use Rattle.window.specs.declared.Lookahead.{Lookahead}
use Rattle.window.specs.Value.{lookahead_fits, valid_of}

-- N blocks of B bytes, a lookahead of L bytes, and a health byte for each block
pub record Setting : Type 0 where
  pub B : ℕ
  pub N : ℕ
  pub L : ℕ
  pub health : List ℕ

abbrev pub setting_of : Geometry → ℕ → List ℕ → Setting
setting_of g l health = record { B = g.block_size; N = g.block_count; L = l; health = health }

-- the window, the table, and the image
pub record State : Type 0 where
  pub window : Lookahead
  pub table : Table
  pub image : List ℕ

abbrev pub card_in : Setting → State → Card
card_in c st = record { B = c.B; N = c.N; image = st.image }

-- The first tests of every call that writes: geometry and slices, health bytes and L, then the window; -22 for all of them. len is the image's length.
unfoldable pub tested_of : Setting → Lookahead → ℕ → Bool
tested_of c w len =
    good_card (record { block_size = c.B; block_count = c.N }) len && health_ok c.health c.N && lookahead_fits c.L
    && valid_of (record { N = c.N; L = c.L }) w

abbrev pub tested : Setting → State → Bool
tested c st = tested_of c st.window (length st.image)
