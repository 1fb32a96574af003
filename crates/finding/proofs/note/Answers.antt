-- `note` leaves the blocks of the run: every index of it is found.
use Prim.Native.Nat.{◌+◌, ◌-◌}
use native.Mathlib.Nat.{min-le_left, min-le_right}
use native.Mathlib.Omega.{arith}
use Rattle.finding.proofs.Runs.{noted}
use Rattle.finding.proofs.note.Goals as goal

pub overflow_add-last : goal.overflow_add-last
overflow_add-last c = omega (arith, c.requires.list.short, c.requires.list.below)

pub find_run-requires : goal.find_run-requires
find_run-requires c =
    let m = min-le_left (c.args.last - c.args.base + 1) 1024 in
    let r = min-le_right (c.args.last - c.args.base + 1) 1024 in
    record {
      walks = c.requires.list.walks;
      inside = omega (arith, c.min-part.ensures, c.requires.inside, c.requires.list.below);
      fits = omega (arith, c.min-part.ensures, c.requires.long);
      few = omega (arith, c.requires.long);
    }

pub returns : goal.returns
returns c = noted _ c.requires c.min-part.ensures c.find_run.ensures
