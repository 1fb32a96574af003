-- `files::size` meets its contract, by what find answered. Assumes nothing.
use native.Mathlib.Omega.{arith}
use Rattle.std.proofs.lemmas.Result.{err_from_is_err_and}
use Rattle.files.proofs.Cases.{slot, size_at, size_refused}
use Rattle.files.proofs.size.Goals as goal

pub bounds-t-i : goal.bounds-t-i
bounds-t-i c = omega (arith, slot _ _ _ c.find.ensures _ c.in_ok-i.was)

pub returns-in_err-i : goal.returns-in_err-i
returns-in_err-i c =
    let p = err_from_is_err_and c.from_residual.result c.from_residual.ensures.1 in
    rw (p.1, p.2) (size_refused _ _ _ c.find.ensures _ c.in_err-i.was)

pub returns : goal.returns
returns c = size_at _ _ _ c.find.ensures _ c.in_ok-i.was
