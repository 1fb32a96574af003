-- `health::worst` meets its contract: the largest byte passed decides for all of them. Assumes nothing.
use mathlib.Core.Path.{◌≡◌}
use mathlib.Core.Bool.{◌&&◌}
use lib.Dec.{leb}
use lib.ListN.{drop}
use Rattle.health.specs.Health.{each_valid}
use Rattle.health.proofs.worst.Given as goal

abbrev pub invariant-loop-h : goal.invariant-loop-h
invariant-loop-h l = each_valid l.health ≡ (leb l.most 2 && each_valid (drop l.h-index l.health))
