-- How create, remove and the store change a table.
use Rattle.std.specs.Prelude.{true, false, List, [], ◌∷◌, ℕ, Result, Ok, Err, set, ltb, eqb}
use Rattle.layout.specs.declared.Refusal.{Refusal}
use Rattle.layout.specs.declared.Refusal.TheVariants.{Missing, TableFull, Exists}
use Rattle.layout.specs.Layout.{BlockList}
use Rattle.layout.specs.Numbers.{files_max, null_block}
use Rattle.files.specs.declared.Entry.{Entry}
use Rattle.files.specs.declared.Table.{Table}
use Rattle.files.specs.declared.change.Changed.{Changed}
use Rattle.files.specs.Table.{held, file, table_of, find_of}

-- an empty file
abbrev pub empty_file : ℕ → Entry
empty_file number = record { number = number; size = 0; head = null_block }

-- these files with an empty file `number` put in, numbers rising
unfoldable pub insert_of : ℕ → List Entry → List Entry
insert_of number [] = empty_file number ∷ []
insert_of number (e ∷ es) =
    elim (ltb e.number number) [ true ↦ e ∷ insert_of number es | false ↦ empty_file number ∷ (e ∷ es) ]

-- these files without file `number`
unfoldable pub without_of : ℕ → List Entry → List Entry
without_of number [] = []
without_of number (e ∷ es) = elim (eqb e.number number) [ true ↦ es | false ↦ e ∷ without_of number es ]

-- a change, or a refusal that hands the table back as it came
abbrev pub changed : Result (Unit {0}) Refusal → Table → Changed
changed answer t = record { answer = answer; table = t }

-- an empty file made: -22, -17 if it exists, then -12 if 32 files are held
unfoldable pub create_of : Table → ℕ → Changed
create_of t number =
    elim (find_of t number) [
      | Ok i ↦ changed (Err Exists) t
      | Err Missing ↦ elim (ltb t.count files_max) [
        | true ↦ changed (Ok tt) (table_of (insert_of number (held t)))
        | false ↦ changed (Err TableFull) t
      ]
      | Err r ↦ changed (Err r) t
    ]

-- a file removed: -22, -2
unfoldable pub remove_of : Table → ℕ → Changed
remove_of t number =
    elim (find_of t number) [
      | Ok i ↦ changed (Ok tt) (table_of (without_of number (held t)))
      | Err r ↦ changed (Err r) t
    ]

-- the table with another list of the file at place i: the store's change
abbrev pub with_list : Table → ℕ → BlockList → Table
with_list t i list =
    record { files = set t.files i (record { number = (file t i).number; size = list.size; head = list.head }); count = t.count }
