-- `read_in` leaves and answers what `read_in` gives: none at or past the end or without room, else what became of the run.
use mathlib.Core.Path.{ap, ◌∙◌}
use Prim.Native.Nat.{min}
use lib.ListN.{length}
use Rattle.std.proofs.lemmas.Result.{err_from_is_err_and}
use Rattle.finding.proofs.Gathers.{on_card}
use Rattle.reading.proofs.Inner.{roomy, read_none, read_damaged, read_copied}
use Rattle.reading.proofs.list.read_in.Goals as goal

pub returns-then-count-eq0 : goal.returns-then-count-eq0
returns-then-count-eq0 c =
    let many = c.min-count.ensures ∙ ap (min (length c.args.buffer.now)) c.saturating_sub.ensures in
    read_none _ _ _ _ _ _ _ _ many c.if-count-eq0.true

pub copy_found-requires : goal.copy_found-requires
copy_found-requires c =
    roomy c.requires (c.min-count.ensures ∙ ap (min (length c.args.buffer.now)) c.saturating_sub.ensures) c.if-count-eq0.false

pub returns : goal.returns
returns c =
    let many = c.min-count.ensures ∙ ap (min (length c.args.buffer.now)) c.saturating_sub.ensures in
    read_copied _ _ _ _ _ _ _ _ many (on_card c.args.card.facts (roomy c.requires many c.if-count-eq0.false).run) _ _ c.copy_found.ensures c.in_ok-copy_found.was

pub returns-in_err-copy_found : goal.returns-in_err-copy_found
returns-in_err-copy_found c =
    let many = c.min-count.ensures ∙ ap (min (length c.args.buffer.now)) c.saturating_sub.ensures in
    let p = err_from_is_err_and c.from_residual.result c.from_residual.ensures.1 in
    rw (p.1, p.2) (read_damaged _ _ _ _ _ _ _ _ many (on_card c.args.card.facts (roomy c.requires many c.if-count-eq0.false).run) _ _ c.copy_found.ensures c.in_err-copy_found.was)
