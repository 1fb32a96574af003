-- One growth by nested cases, over any allocator: what the inner functions do, step by step.
use Rattle.std.specs.Prelude.{Bool, true, false, ◌&&◌, Err, List, ℕ, zero, suc, ◌+◌, ◌*◌, eqb, ltb, take, drop}
use Rattle.span.specs.Words.{bytes32}
use Rattle.layout.specs.declared.Refusal.TheVariants.{NoSpace, Damaged}
use Rattle.layout.specs.Layout.{pointers, index_at, offset_at}
use Rattle.card.specs.Card.{pointer}
use Rattle.health.specs.Health.{refuses_erase, refuses_program}
use Rattle.device.specs.Device.{stored, wiped}
use Rattle.device.specs.inner.Bounds.{spot}
use Rattle.trials.specs.Loop.{Took, Block, None, Bad}
use Rattle.grow.specs.Extend.{grown_at, GrowOut, grow_out}

-- n bytes of block f from offset o
unfoldable pub part : ℕ → ℕ → ℕ → ℕ → List ℕ → List ℕ
part B f o n img = take n (drop (f * B + o) img)

-- A full last block: so many more pointers go into block k, from pointer x on. The first names the head, each next is read from the block just named;
-- each is tested before it is programmed.
unfoldable pub pointers_of : {W : Type 0} → ℕ → ℕ → ℕ → ℕ → ℕ → ℕ → ℕ → List ℕ → W → GrowOut W
pointers_of zero B N k off x cur img w = grow_out (grown_at k off) img w
pointers_of (suc m) B N k off x cur img w =
    elim (ltb cur N) [
      | true ↦
          pointers_of m B N k off (suc x) (pointer B (stored B img (spot k (4 * x)) (bytes32 cur)) cur x) (stored B img (spot k (4 * x)) (bytes32 cur)) w
      | false ↦ grow_out (Err Damaged) img w
    ]

-- Block k, just erased, becomes the last block of the list (head, size). Size 0 stops there with offset 0. The head is tested before the first program.
-- An incomplete last block has its bytes copied; a full one gets pointers.
unfoldable pub link_of : {W : Type 0} → ℕ → ℕ → ℕ → ℕ → ℕ → List ℕ → W → GrowOut W
link_of B N k head zero img w = grow_out (grown_at k 0) img w
link_of B N k head (suc p) img w =
    elim (ltb head N) [
      | false ↦ grow_out (Err Damaged) img w
      | true ↦ elim (eqb (suc (offset_at B p)) B) [
        | false ↦ grow_out (grown_at k (suc (offset_at B p))) (stored B img (spot k 0) (part B head 0 (suc (offset_at B p)) img)) w
        | true ↦ pointers_of (pointers (suc (index_at B p))) B N k (4 * pointers (suc (index_at B p))) 0 head img w
      ]
    ]

-- block k refuses the first program of a growth from (head, size)
unfoldable pub spoils : List ℕ → ℕ → ℕ → ℕ → ℕ → Bool
spoils health N k head s = refuses_program health k && ltb 0 s && ltb head N

-- Allocate, erase, link. A refused erase or program moves on to another block; m bounds the tries.
unfoldable pub grow_of : {W : Type 0} → (W → List ℕ → Took W) → ℕ → W → List ℕ → ℕ → ℕ → ℕ → ℕ → List ℕ → GrowOut W
grow_of alloc zero w health B N head s img = grow_out (Err NoSpace) img w
grow_of alloc (suc m) w health B N head s img =
    elim (alloc w img) [
      | None w' ↦ grow_out (Err NoSpace) img w'
      | Bad w' ↦ grow_out (Err Damaged) img w'
      | Block k w' ↦ elim (refuses_erase health k) [
        | true ↦ grow_of alloc m w' health B N head s img
        | false ↦ elim (spoils health N k head s) [
          | true ↦ grow_of alloc m w' health B N head s (wiped B img k)
          | false ↦ link_of B N k head s (wiped B img k) w'
        ]
      ]
    ]
