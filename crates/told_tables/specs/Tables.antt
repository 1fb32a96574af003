-- The answers of the table calls as they are exported: 01's number and values for each case.
use Rattle.std.specs.Prelude.{Result, Ok, Err, [], ℕ}
use Rattle.layout.specs.declared.Refusal.{Refusal}
use Rattle.layout.specs.Refusals.{refusal_code, answer_code}
use Rattle.layout.specs.Numbers.{accepted}
use Rattle.files.specs.declared.Table.{Table}
use Rattle.files.specs.declared.change.Changed.{Changed}
use Rattle.files.specs.Table.{table_of}
use Rattle.told_tables.specs.declared.TidTable.{TidTable}
use Rattle.told_tables.specs.declared.TidSize.{TidSize}
use Rattle.told_tables.specs.declared.TidSeek.{TidSeek}
use Rattle.told_tables.specs.declared.TidSave.{TidSave}

-- on a refusal the table is as it came
abbrev pub changed_told : Changed → TidTable
changed_told c = record { code = answer_code c.answer; table = c.table }

abbrev pub sized_told : Result ℕ Refusal → TidSize
sized_told (Ok size) = record { code = accepted; size = size }
sized_told (Err r) = record { code = refusal_code r; size = 0 }

abbrev pub sought_told : Result ℕ Refusal → TidSeek
sought_told (Ok position) = record { code = accepted; position = position }
sought_told (Err r) = record { code = refusal_code r; position = 0 }

abbrev pub saved_told : Result ℕ Refusal → TidSave
saved_told (Ok length) = record { code = accepted; length = length }
saved_told (Err r) = record { code = refusal_code r; length = 0 }

-- on a refusal the table is that of no files
abbrev pub loaded_told : Result Table Refusal → TidTable
loaded_told (Ok t) = record { code = accepted; table = t }
loaded_told (Err r) = record { code = refusal_code r; table = table_of [] }
