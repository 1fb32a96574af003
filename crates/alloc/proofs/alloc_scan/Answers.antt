-- `alloc::alloc_scan` meets its contract: what is left of the scan, from the window as it stands, comes to what the whole scan does. Assumes nothing.
use mathlib.Core.Path.{refl, ◌∙◌}
use native.Mathlib.Omega.{arith}
use Rattle.files.proofs.Laws.{count_ok}
use Rattle.window.proofs.Valid.{good}
use Rattle.window.proofs.Kept.{cleared_valid}
use Rattle.alloc.proofs.Scanning.{scanned_all, scanned_one, scanned_none, scan_answers, held_size}
use Rattle.alloc.proofs.alloc_scan.Goals as goal

pub cleared-window-requires : goal.cleared-window-requires
cleared-window-requires c = let p = c.requires in (good _ _ _ p.sizes p.window, p.sizes.l_le)

pub shared_ref_as_front-file-items : goal.shared_ref_as_front-file-items
shared_ref_as_front-file-items c = omega (arith, count_ok _ c.requires.table)

pub loop-file-init : goal.loop-file-init
loop-file-init c =
    let v = cleared_valid c.requires.window in
    record {
      scan = record { start_is = refl; size_is = refl; rest = refl };
      start_lt = rw c.cleared-window.ensures v.start_lt;
      size_le = rw c.cleared-window.ensures (omega (arith, v.size_le, c.requires.sizes.l_le));
    }

pub mark_file-requires : goal.mark_file-requires
mark_file-requires c =
    let p = c.requires in
    let inv = c.loop-file.invariant in
    record { start_lt = inv.start_lt; size_le = inv.size_le; bytes_le = held_size _ p.table _ c.loop-file-test.true }

pub returns-in-Err : goal.returns-in-Err
returns-in-Err c =
    scan_answers _ _ _ _ _ _ _ c.cleared-window.ensures
    (scanned_none _ _ _ _ c.loop-file.invariant.scan c.loop-file-test.true c.mark_file.ensures _ c.in-Err.is ∙ rw c.alloc_drop.ensures)

pub loop-file-preserved : goal.loop-file-preserved
loop-file-preserved c =
    let inv = c.loop-file.invariant in
    record {
      scan = scanned_one _ _ _ _ inv.scan c.loop-file-test.true c.mark_file.ensures c.in_default.is;
      start_lt = inv.start_lt;
      size_le = inv.size_le;
    }

pub returns : goal.returns
returns c =
    scan_answers _ _ _ _ _ _ _ c.cleared-window.ensures
    (scanned_all _ _ _ _ c.loop-file.invariant.scan c.loop-file-test.false)
