-- `alloc::alloc_scan` meets its contract: what is left of the scan, from the window as it stands, comes to what the whole scan does. Assumes nothing.
use Prim.Native.Nat.{◌≤◌, ◌<◌}
use Rattle.files.specs.Table.{held}
use Rattle.alloc.proofs.Scanning.{Scanning}
use Rattle.alloc.proofs.alloc_scan.Given as goal

abbrev pub invariant-loop-file : goal.invariant-loop-file
invariant-loop-file l = record { scan : Scanning l.card.block_size l.card.block_count l.card.image.now (held l.fn.t) l.start l.size l.initial.window l.file-index l.window; start_lt : l.start < l.card.block_count; size_le : l.size ≤ 512 }
