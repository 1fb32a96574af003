-- `saved::read::read_entry` meets its contract: the number, the size, and the head unless the size is 0. Assumes nothing.
use Rattle.saved.proofs.Files.{number_damaged, number_below, size_damaged, size_zero, head_damaged, head_there}
use Rattle.saved.proofs.read.read_entry.Goals as goal

pub returns-in_err-number : goal.returns-in_err-number
returns-in_err-number c = rw c.from_residual.ensures (number_damaged _ _ _ _ c.read_number.ensures c.in_err-number.was)

pub returns-then-number-least : goal.returns-then-number-least
returns-then-number-least c = number_below _ _ _ _ c.read_number.ensures _ _ c.in_ok-number.was c.if-number-least.true

pub returns-in_err-size : goal.returns-in_err-size
returns-in_err-size c =
    rw c.from_residual-in_err-size.ensures
    (size_damaged _ _ _ _ c.read_number.ensures _ _ c.in_ok-number.was c.if-number-least.false _ c.read_number-2.ensures c.in_err-size.was)

pub returns-then-size-eq0 : goal.returns-then-size-eq0
returns-then-size-eq0 c =
    size_zero _ _ _ _ c.read_number.ensures _ _ c.in_ok-number.was c.if-number-least.false _ c.read_number-2.ensures _ _ c.in_ok-size.was c.if-size-eq0.true

pub returns-in_err-head : goal.returns-in_err-head
returns-in_err-head c =
    rw c.from_residual-in_err-head.ensures
    (head_damaged _ _ _ _ c.read_number.ensures _ _ c.in_ok-number.was c.if-number-least.false _ c.read_number-2.ensures _ _ c.in_ok-size.was c.if-size-eq0.false
    _ c.read_number-3.ensures c.in_err-head.was)

pub returns : goal.returns
returns c =
    head_there _ _ _ _ c.read_number.ensures _ _ c.in_ok-number.was c.if-number-least.false _ c.read_number-2.ensures _ _ c.in_ok-size.was c.if-size-eq0.false
    _ c.read_number-3.ensures _ _ c.in_ok-head.was
