-- The answers of the list calls as they are exported: 01's number and values for each case, and zeros beside a refusal.
use Rattle.std.specs.Prelude.{true, false, Option, None, Some, Result, Ok, Err, ℕ, eqb}
use Rattle.layout.specs.declared.Place.{Place}
use Rattle.layout.specs.declared.Refusal.{Refusal}
use Rattle.layout.specs.Refusals.{refusal_code}
use Rattle.layout.specs.Numbers.{accepted}
use Rattle.ctz.specs.declared.Found.{Found}
use Rattle.ctz.specs.declared.visit.Visit.{Visit}
use Rattle.ctz.specs.declared.visit.Step.{Step}
use Rattle.audit.specs.declared.Fault.{Fault}
use Rattle.audit.specs.declared.Fault.TheVariants as fault
use Rattle.told_lists.specs.declared.TidIndex.{TidIndex}
use Rattle.told_lists.specs.declared.TidFind.{TidFind}
use Rattle.told_lists.specs.declared.TidPlace.{TidPlace}
use Rattle.told_lists.specs.declared.TidVisit.{TidVisit}
use Rattle.told_lists.specs.declared.TidStep.{TidStep}
use Rattle.told_lists.specs.declared.TidCheck.{TidCheck}

abbrev pub place_told : Result Place Refusal → TidIndex
place_told (Ok p) = record { code = accepted; index = p.index; offset = p.offset }
place_told (Err r) = record { code = refusal_code r; index = 0; offset = 0 }

abbrev pub found_told : Result Found Refusal → TidFind
found_told (Ok f) = record { code = accepted; block = f.block; offset = f.offset; hops = f.hops }
found_told (Err r) = record { code = refusal_code r; block = 0; offset = 0; hops = 0 }

-- kind 0 is a sound list, 1 to 4 are the faults, in the order of 01
abbrev pub fault_told : Fault → TidCheck
fault_told (fault.NotBelow index pointer) = record { code = accepted; kind = 1; index = index; pointer = pointer }
fault_told (fault.MetBefore index pointer) = record { code = accepted; kind = 2; index = index; pointer = pointer }
fault_told (fault.Disagrees index pointer) = record { code = accepted; kind = 3; index = index; pointer = pointer }
fault_told (fault.NotNull index pointer) = record { code = accepted; kind = 4; index = index; pointer = pointer }

abbrev pub checked_told : Result (Option Fault) Refusal → TidCheck
checked_told (Ok None) = record { code = accepted; kind = 0; index = 0; pointer = 0 }
checked_told (Ok (Some f)) = fault_told f
checked_told (Err r) = record { code = refusal_code r; kind = 0; index = 0; pointer = 0 }

-- A visit's place crosses the border with a number that is held beside `held`: handed over as 1 and the number or 0 and 0, and taken as none where `held` is 0.
abbrev pub held_told : Option ℕ → ℕ
held_told None = 0
held_told (Some after) = 1

abbrev pub after_told : Option ℕ → ℕ
after_told None = 0
after_told (Some after) = after

abbrev pub next_told : Visit → TidPlace
next_told v = record { index = v.index; block = v.block; held = held_told v.after; after = after_told v.after }

abbrev pub held_asked : ℕ → ℕ → Option ℕ
held_asked held after = elim (eqb held 0) [ true ↦ None | false ↦ Some after ]

abbrev pub place_asked : TidPlace → Visit
place_asked p = record { index = p.index; block = p.block; after = held_asked p.held p.after }

-- where no visit goes on
abbrev pub nowhere : TidPlace
nowhere = record { index = 0; block = 0; held = 0; after = 0 }

-- `more` is 1 where the visit goes on, at `place`
abbrev pub begun_told : Result (Option Visit) Refusal → TidVisit
begun_told (Ok None) = record { code = accepted; more = 0; place = nowhere }
begun_told (Ok (Some v)) = record { code = accepted; more = 1; place = next_told v }
begun_told (Err r) = record { code = refusal_code r; more = 0; place = nowhere }

-- a block that was handed over, and where the visit goes on behind it
abbrev pub handed_told : ℕ → Option Visit → TidStep
handed_told block (Some next) = record { code = accepted; block = block; more = 1; place = next_told next }
handed_told block None = record { code = accepted; block = block; more = 0; place = nowhere }

abbrev pub step_told : Result Step Refusal → TidStep
step_told (Ok s) = handed_told s.block s.next
step_told (Err r) = record { code = refusal_code r; block = 0; more = 0; place = nowhere }
