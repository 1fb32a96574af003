-- Position p lies in block i: at or behind its first data byte, and before that of the next block.
use Prim.Native.Nat.{ℕ, suc, ◌≤◌, ◌<◌}
use Rattle.layout.specs.Layout.{start}

pub record InBlock (B p i : ℕ) : Type 0 where
  pub from : start B i ≤ p
  pub until : p < start B (suc i)
