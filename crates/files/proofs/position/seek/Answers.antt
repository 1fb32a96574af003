-- `files::position::seek` meets its contract: the file, the held position, then the sum that whence asks for. Assumes nothing.
use mathlib.Core.Path.{sym, ◌∙◌}
use native.Mathlib.Omega.{arith}
use Rattle.std.proofs.lemmas.Result.{err_from_is_err_and}
use Rattle.files.proofs.Cases.{slot, seek_at, seek_far, seek_refused}
use Rattle.files.proofs.Seeking.{whence_start, whence_held, whence_end, whence_other}
use Rattle.files.proofs.position.seek.Goals as goal

pub returns-then-position-gt-FILE_MAX : goal.returns-then-position-gt-FILE_MAX
returns-then-position-gt-FILE_MAX c = seek_far _ _ _ c.find.ensures _ _ _ _ c.in_ok-i.was c.if-position-gt-FILE_MAX.true

pub bounds-t-i : goal.bounds-t-i
bounds-t-i c = omega (arith, slot _ _ _ c.find.ensures _ c.in_ok-i.was)

pub returns-in-0 : goal.returns-in-0
returns-in-0 c =
    c.moved.ensures ∙ whence_start _ _ _ _ _ c.ranges.offset c.ranges.whence c.in-0.in-0-own.keys1
    ∙ sym (seek_at _ _ _ c.find.ensures _ _ _ _ c.in_ok-i.was c.if-position-gt-FILE_MAX.false)

pub returns-in-1 : goal.returns-in-1
returns-in-1 c =
    c.moved-in-1.ensures ∙ whence_held _ _ _ _ _ c.ranges.offset c.ranges.whence c.in-1.in-1-own.keys2
    ∙ sym (seek_at _ _ _ c.find.ensures _ _ _ _ c.in_ok-i.was c.if-position-gt-FILE_MAX.false)

pub returns-in-2 : goal.returns-in-2
returns-in-2 c =
    c.moved-in-2.ensures ∙ whence_end _ _ _ _ _ c.ranges.offset c.ranges.whence c.in-2.in-2-own.keys3
    ∙ sym (seek_at _ _ _ c.find.ensures _ _ _ _ c.in_ok-i.was c.if-position-gt-FILE_MAX.false)

pub returns-in_default : goal.returns-in_default
returns-in_default c =
    let r = c.in_default.in_default-own.rest in
    whence_other _ _ _ _ _ r.0.0.1 r.0.1 r.1
    ∙ sym (seek_at _ _ _ c.find.ensures _ _ _ _ c.in_ok-i.was c.if-position-gt-FILE_MAX.false)

pub returns-in_err-i : goal.returns-in_err-i
returns-in_err-i c =
    let p = err_from_is_err_and c.from_residual.result c.from_residual.ensures.1 in
    rw (p.1, p.2) (seek_refused _ _ _ c.find.ensures _ _ _ _ c.in_err-i.was)
