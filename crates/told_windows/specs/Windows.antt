-- The answers of the window calls and of a growth as they are exported: 01's number and values for each case.
use Rattle.std.specs.Prelude.{Result, Ok, Err}
use Rattle.layout.specs.declared.Refusal.{Refusal}
use Rattle.layout.specs.Refusals.{refusal_code}
use Rattle.layout.specs.Numbers.{accepted}
use Rattle.window.specs.declared.Lookahead.{Lookahead}
use Rattle.window.specs.declared.Windowed.{Windowed}
use Rattle.window.specs.Allocate.{Answer, Allocated}
use Rattle.grow.specs.Extend.{Growth, GrowOut}
use Rattle.told_windows.specs.declared.TidWindow.{TidWindow}
use Rattle.told_windows.specs.declared.TidAlloc.{TidAlloc}
use Rattle.told_windows.specs.declared.TidExtend.{TidExtend}

-- on a refusal the window is as it came, or that of zeros where none came
abbrev pub reply_told : Result Unit Refusal → Lookahead → TidWindow
reply_told (Ok _) w = record { code = accepted; window = w }
reply_told (Err r) w = record { code = refusal_code r; window = w }

abbrev pub replied_told : Windowed (Result Unit Refusal) → TidWindow
replied_told r = reply_told r.answer r.window

-- the window is as the steps left it
abbrev pub alloc_told : Answer → Lookahead → TidAlloc
alloc_told (Ok block) w = record { code = accepted; block = block; window = w }
alloc_told (Err r) w = record { code = refusal_code r; block = 0; window = w }

abbrev pub allocated_told : Allocated → TidAlloc
allocated_told a = alloc_told a.answer a.window

abbrev pub growth_told : Growth → Lookahead → TidExtend
growth_told (Ok g) w = record { code = accepted; block = g.block; offset = g.offset; window = w }
growth_told (Err r) w = record { code = refusal_code r; block = 0; offset = 0; window = w }

abbrev pub grew_told : Windowed Growth → TidExtend
grew_told g = growth_told g.answer g.window

abbrev pub extend_told : GrowOut Lookahead → TidExtend
extend_told o = growth_told o.answer o.rest
