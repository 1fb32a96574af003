-- `audit::ctz_check` meets its contract: a clean walk is what the further pointers ask. Assumes nothing.
use mathlib.Core.Path.{sym, ◌∙◌}
use native.Mathlib.Omega.{arith}
use Rattle.layout.proofs.Served.{served}
use Rattle.ctz.proofs.Room.{walks}
use Rattle.audit.proofs.Falling.{falls_below}
use Rattle.audit.proofs.ctz_check.Goals as goal

pub index_at-top-requires : goal.index_at-top-requires
index_at-top-requires c =
    served c.in_ok-card.card.facts.sized (omega arith)

pub further_from-requires : goal.further_from-requires
further_from-requires c =
    record {
      walks = rw c.index_at-top.ensures (walks c.in_ok-card.card.facts c.if-size-gt-FILE_MAX.false);
      below = falls_below _ _ _ _ _ (sym c.walk_down.ensures ∙ c.in_default.is);
    }
