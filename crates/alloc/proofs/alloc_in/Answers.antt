-- `alloc::alloc_in` meets its contract: what is left of the allocation, from the window as it stands, comes to what the whole one does; the count bounds the
-- searches. Assumes nothing.
use native.Mathlib.Omega.{arith}
use Rattle.window.proofs.Valid.{good}
use Rattle.window.proofs.Kept.{take_valid}
use Rattle.alloc.proofs.Turning.{allocating, answers_block, answers_refused, less_left, allocates_on}
use Rattle.alloc.proofs.alloc_in.Goals as goal

pub loop-block-init : goal.loop-block-init
loop-block-init c = allocating _ _ _ _ c.requires.window

pub take-taken-requires : goal.take-taken-requires
take-taken-requires c = good _ _ _ c.requires.sizes c.loop-block.invariant.valid

pub returns-in-Some : goal.returns-in-Some
returns-in-Some c =
    answers_block _ _ _ _ c.loop-block.invariant c.take-taken.ensures c.in-Some.is

pub alloc_scan-scan-requires : goal.alloc_scan-scan-requires
alloc_scan-scan-requires c =
    let p = c.requires in
    record {
      sizes = p.sizes;
      window = rw c.take-taken.ensures (take_valid c.loop-block.invariant.valid);
      table = p.table;
    }

pub returns-in-Err : goal.returns-in-Err
returns-in-Err c =
    answers_refused _ _ _ _ c.loop-block.invariant c.take-taken.ensures c.in_default.is (λ e. omega arith) c.alloc_scan-scan.ensures _
    c.in-Err.is

pub loop-block-smaller : goal.loop-block-smaller
loop-block-smaller c =
    less_left _ _ _ _ c.loop-block.invariant c.take-taken.ensures c.in_default.is (λ e. omega arith) c.alloc_scan-scan.ensures
    c.in_default-answer.is c.requires.sizes

pub loop-block-preserved : goal.loop-block-preserved
loop-block-preserved c =
    allocates_on _ _ _ _ c.loop-block.invariant c.take-taken.ensures c.in_default.is (λ e. omega arith) c.alloc_scan-scan.ensures
    c.in_default-answer.is c.requires.sizes
