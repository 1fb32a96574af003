-- `grow::block::link` meets its contract: each way through it is a case of the definition. Assumes nothing.
use mathlib.Core.Path.{refl}
use Prim.Native.Nat.{◌+◌, ◌-◌}
use native.Mathlib.Omega.{arith}
use Rattle.device.proofs.Blanks.{blank_part}
use Rattle.grow.proofs.Rooms.{room_of, source_of, gives}
use Rattle.grow.proofs.Links.{attempt_empty, attempt_damaged, attempt_spoiled, attempt_copied, attempt_pointers, used_fits, index_fits, next_fits}
use Rattle.grow.proofs.block.link.Goals as goal

pub returns-then-size-eq0 : goal.returns-then-size-eq0
returns-then-size-eq0 c =
    let a = c.args in
    gives _ _ (attempt_empty a.health.now a.b a.n a.k a.head a.size a.image.now c.if-size-eq0.true)

pub returns-then-n-head : goal.returns-then-n-head
returns-then-n-head c =
    let a = c.args in
    gives _ _ (attempt_damaged a.health.now a.b a.n a.k a.head a.size a.image.now (a.size - 1) (omega arith) c.if-n-head.true)

pub overflow_add-used : goal.overflow_add-used
overflow_add-used c =
    omega (arith, c.offset_at-used.ensures, used_fits c.requires.0.card.sized (c.args.size - 1) (omega arith), c.requires.0.card.high)

pub overflow_add-index : goal.overflow_add-index
overflow_add-index c =
    omega (arith, c.index_at-index.ensures, index_fits c.requires.0.card.sized (c.args.size - 1) (omega arith))

pub put_pointers-requires : goal.put_pointers-requires
put_pointers-requires c =
    let fits = next_fits c.requires.0.card.sized (c.args.size - 1) (omega arith) _ _ c.index_at-index.ensures c.pointer_count-count.ensures
    (omega (arith, c.offset_at-used.ensures, c.if-used-b.true)) in
    (c.requires.0, fits, blank_part _ _ (omega arith) (omega (arith, fits)) c.requires.2)

pub returns-then-used-b : goal.returns-then-used-b
returns-then-used-b c =
    let a = c.args in
    rw (attempt_pointers a.health.now a.b a.n a.k a.head a.size a.image.now (a.size - 1) (omega arith) _ _ (omega arith)
    (omega (arith, c.offset_at-used.ensures, c.if-used-b.true)) c.index_at-index.ensures c.pointer_count-count.ensures)
    c.put_pointers.ensures

pub program_copy-requires : goal.program_copy-requires
program_copy-requires c =
    let u = used_fits c.requires.0.card.sized (c.args.size - 1) (omega arith) in
    let r = c.offset_at-used.ensures in
    (room_of _ _ _ c.requires.0 refl (omega arith), source_of _ _ _ c.requires.0 (omega arith) (omega arith), blank_part _ _ (omega arith) (omega arith) c.requires.2)

pub returns-in-Ok : goal.returns-in-Ok
returns-in-Ok c =
    let a = c.args in
    gives _ _
    (attempt_copied a.health.now a.b a.n a.k a.head a.size a.image.now (a.size - 1) (omega arith) _ (omega arith) c.program_copy.ensures (omega (arith, c.offset_at-used.ensures))
    c.if-used-b.false c.in-Ok.is)

pub returns-in-Err : goal.returns-in-Err
returns-in-Err c =
    let a = c.args in
    gives _ _
    (attempt_spoiled a.health.now a.b a.n a.k a.head a.size a.image.now (a.size - 1) (omega arith) (c.offset_at-used.result + 1) (omega arith) c.program_copy.ensures c.in-Err.is)
