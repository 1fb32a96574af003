-- What index and offset are asked with, and records made of plain numbers, for the contracts and laws that have those.
use Rattle.std.specs.Prelude.{◌≡◌, ℕ, ◌^◌, ◌≤◌, ◌<◌}
use Rattle.layout.specs.declared.Geometry.{Geometry}
use Rattle.layout.specs.Layout.{index_at, BlockList}

-- The block sizes that lists are laid out for. The crates above hand this on and do not look inside.
pub record BlockSized (B : ℕ) : Type 0 where
  pub least : 128 ≤ B

-- A position that is answered in blocks of B bytes.
pub record Served (B p : ℕ) : Type 0 where
  pub sized : BlockSized B
  pub word : p < 2 ^ 32

-- What the offset is asked with: the position's own index.
pub record OffsetAsked (B p i : ℕ) : Type 0 where
  pub served : Served B p
  pub index : i ≡ index_at B p

-- block size, block count
abbrev pub geometry : ℕ → ℕ → Geometry
geometry B N = record { block_size = B; block_count = N }

-- head, size
abbrev pub block_list : ℕ → ℕ → BlockList
block_list head size = record { head = head; size = size }
