-- What a growth gives, as its code hands it over.
use Rattle.std.specs.Prelude.{◌≡◌, List, ℕ}
use Rattle.window.specs.declared.Lookahead.{Lookahead}
use Rattle.window.specs.declared.Windowed.{Windowed}
use Rattle.grow.specs.Extend.{Growth, GrowOut}

-- r is the answer and the window, and `after` the image, that a definition gives
pub record GrewGives (o : GrowOut Lookahead) (r : Windowed Growth) (after : List ℕ) : Type 0 where
  pub answer : r.answer ≡ o.answer
  pub window : r.window ≡ o.rest
  pub image : after ≡ o.image
