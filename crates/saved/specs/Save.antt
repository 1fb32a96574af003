-- The saved form of a table, and what save answers and leaves.
use Rattle.std.specs.Prelude.{Bool, true, false, ◌&&◌, List, [], ◌∷◌, ◌++◌, ℕ, zero, suc, ◌+◌, ◌/◌, ◌%◌, Result, Ok, Err, length, ltb, leb, eqb}
use Rattle.std.proofs.lemmas.List.Edits.{sets}
use Rattle.layout.specs.declared.Refusal.{Refusal}
use Rattle.layout.specs.declared.Refusal.TheVariants.{Invalid}
use Rattle.files.specs.declared.Entry.{Entry}
use Rattle.files.specs.declared.Table.{Table}
use Rattle.files.specs.Table.{held, table_ok}

-- a number in groups of seven bits, low group first, top bit set on all but the last: at most k groups before the last
unfoldable pub groups_by : ℕ → ℕ → List ℕ
groups_by zero n = n ∷ []
groups_by (suc k) n = elim (ltb n 128) [ true ↦ n ∷ [] | false ↦ (128 + n % 128) ∷ groups_by k (n / 128) ]

-- as many as it takes: n are always enough (from 128 on, n / 128 is below n)
unfoldable pub groups : ℕ → List ℕ
groups n = groups_by n n

-- the head unless the size is 0
unfoldable pub head_bytes : Entry → List ℕ
head_bytes e = elim (eqb e.size 0) [ true ↦ [] | false ↦ groups e.head ]

-- per file its number, size, and head unless the size is 0
unfoldable pub entry_bytes : Entry → List ℕ
entry_bytes e = groups e.number ++ (groups e.size ++ head_bytes e)

-- file after file
unfoldable pub files_bytes : List Entry → List ℕ
files_bytes [] = []
files_bytes (e ∷ es) = entry_bytes e ++ files_bytes es

-- the number of files, then the files
unfoldable pub save_of : Table → List ℕ
save_of t = groups t.count ++ files_bytes (held t)

-- a table, and room for its saved form
unfoldable pub savable : Table → ℕ → Bool
savable t room = table_ok t && leb (length (save_of t)) room

-- save answers the length; -22 table value, buffer too short
unfoldable pub saved_of : Table → List ℕ → Result ℕ Refusal
saved_of t buffer = elim (savable t (length buffer)) [ true ↦ Ok (length (save_of t)) | false ↦ Err Invalid ]

-- the buffer beyond keeps its bytes; on a refusal all of it does
unfoldable pub buffer_of : Table → List ℕ → List ℕ
buffer_of t buffer = elim (savable t (length buffer)) [ true ↦ sets buffer 0 (save_of t) | false ↦ buffer ]
