-- The answers of the calls on a file as they are exported: 01's number, then the values.
use Rattle.std.specs.Prelude.{Result, ℕ}
use Rattle.layout.specs.Refusals.{answer_code}
use Rattle.layout.specs.declared.Refusal.{Refusal}
use Rattle.reading.specs.declared.Part.{Part}
use Rattle.reading.specs.Calls.{read_length, placed_place, placed_length}
use Rattle.store.specs.declared.Stored.{Stored}
use Rattle.told_files.specs.declared.TidRead.{TidRead}
use Rattle.told_files.specs.declared.TidStretch.{TidStretch}
use Rattle.told_files.specs.declared.TidStore.{TidStore}

abbrev pub read_told : Result ℕ Refusal → TidRead
read_told a = record { code = answer_code a; length = read_length a }

abbrev pub placed_told : Result Part Refusal → TidStretch
placed_told p = record { code = answer_code p; place = placed_place p; length = placed_length p }

-- window and table as the call leaves them
abbrev pub stored_told : Stored → TidStore
stored_told s = record { code = answer_code s.answer; window = s.window; table = s.table }
