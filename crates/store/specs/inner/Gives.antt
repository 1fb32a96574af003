-- What a store call gives, as its code hands it over.
use Rattle.std.specs.Prelude.{◌≡◌, List, ℕ}
use Rattle.store.specs.declared.Stored.{Stored}
use Rattle.store.specs.Store.{StoreOut, stored_of}

-- r is the answer, window and table, and `after` the image, that a definition gives
pub record StoreGives (o : StoreOut) (r : Stored) (after : List ℕ) : Type 0 where
  pub stored : r ≡ stored_of o
  pub image : after ≡ o.state.image
