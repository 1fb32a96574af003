-- The file table: which values are tables, where a file stands in one, and its size.
use Rattle.std.specs.Prelude.{Bool, true, false, ◌&&◌, List, [], ◌∷◌, ◌++◌, ℕ, suc, ◌-◌, Result, Ok, Err, length, take, get_or, replicate, leb, eqb}
use Rattle.layout.specs.declared.Refusal.{Refusal}
use Rattle.layout.specs.declared.Refusal.TheVariants.{Missing, Invalid}
use Rattle.layout.specs.Layout.{BlockList}
use Rattle.layout.specs.Numbers.{files_max, number_max, size_max, null_block, head_max}
use Rattle.files.specs.declared.Entry.{Entry}
use Rattle.files.specs.declared.Table.{Table}

-- what stands in a slot past the count
abbrev pub no_entry : Entry
no_entry = record { number = 0; size = 0; head = 0 }

-- the files of a table: slots past the count are not looked at
abbrev pub held : Table → List Entry
held t = take t.count t.files

-- file k of a table
abbrev pub file : Table → ℕ → Entry
file t k = get_or t.files k no_entry

-- the list of a file
abbrev pub list_of : Entry → BlockList
list_of e = record { head = e.head; size = e.size }

-- the table of these files, with zero entries past the count
abbrev pub table_of : List Entry → Table
table_of es = record { files = es ++ replicate (files_max - length es) no_entry; count = length es }

-- the head is null if the size is 0, else at most 65,535
unfoldable pub head_ok : Entry → Bool
head_ok e = elim (eqb e.size 0) [ true ↦ eqb e.head null_block | false ↦ leb e.head head_max ]

-- a file whose number is from `least` to 65,535, with a size up to the largest
unfoldable pub entry_ok : ℕ → Entry → Bool
entry_ok least e = leb least e.number && leb e.number number_max && leb e.size size_max && head_ok e

-- files whose numbers are held rising, the first from `least` on
unfoldable pub files_ok : ℕ → List Entry → Bool
files_ok least [] = true
files_ok least (e ∷ es) = entry_ok least e && files_ok (suc e.number) es

-- A table: at most 32 files, held rising. (That there are 32 slots holds of every value of the code's type.)
unfoldable pub table_ok : Table → Bool
table_ok t = eqb (length t.files) files_max && leb t.count files_max && files_ok 0 (held t)

-- the place of file `number` among these files, the first of which stands at place i
unfoldable pub search_of : ℕ → List Entry → ℕ → Result ℕ Refusal
search_of number [] i = Err Missing
search_of number (e ∷ es) i = elim (eqb e.number number) [ true ↦ Ok i | false ↦ search_of number es (suc i) ]

-- the table, then the file number, then whether there is such a file
unfoldable pub find_of : Table → ℕ → Result ℕ Refusal
find_of t number =
    elim (table_ok t) [
      | false ↦ Err Invalid
      | true ↦ elim (leb number number_max) [ false ↦ Err Invalid | true ↦ search_of number (held t) 0 ]
    ]

-- the size of a file
unfoldable pub size_of : Table → ℕ → Result ℕ Refusal
size_of t number =
    elim (find_of t number) [
      | Ok i ↦ Ok (file t i).size
      | Err r ↦ Err r
    ]
