-- Records on a file: where a seek leads.
use Rattle.std.specs.Prelude.{Bool, true, false, List, [], ◌∷◌, ℕ, eqb}
use Rattle.layout.specs.Numbers.{null_block}
use Rattle.files.specs.declared.Table.{Table}
use Rattle.files.specs.Table.{table_of}
use Rattle.files.specs.Seek.{seek_of}
use Rattle.told_tables.specs.declared.TidSeek.{TidSeek}
use Rattle.told_tables.specs.Tables.{sought_told}
use Rattle.records.specs.Records.{word_of, signed_of}
use Rattle.records.specs.Agreement.{bare_of, told_of}

-- the position
abbrev pub sought_equal : List ℕ → ℕ → TidSeek → Bool
sought_equal list at a = told_of list at (bare_of a.code) a.position 0 0

-- a head that a file of this size can have
unfoldable pub some_head : ℕ → ℕ
some_head size = elim (eqb size 0) [ true ↦ null_block | false ↦ 3 ]

-- a table with file 7 alone
abbrev pub one_file : ℕ → Table
one_file size = table_of (record { number = 7; size = size; head = some_head size } ∷ [])

-- the question: the size of file 7, the position held, offset and whence
unfoldable pub seek_equal : List ℕ → ℕ → Bool
seek_equal list at =
    sought_equal list at
    (sought_told (seek_of (one_file (word_of list at 4)) (record { number = 7; position = (word_of list at 5); offset = (signed_of (word_of list at 6)); whence = (signed_of (word_of list at 7)) })))
