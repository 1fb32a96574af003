-- What write and truncate are asked: which file, and what is to become of it.
use Rattle.std.specs.Prelude.{List, ℕ}

-- `bytes` go to file `number`, from `position` on
pub record WriteAsked : Type 0 where
  pub number : ℕ
  pub position : ℕ
  pub bytes : List ℕ

-- file `number` gets this size
pub record TruncateAsked : Type 0 where
  pub number : ℕ
  pub size : ℕ
