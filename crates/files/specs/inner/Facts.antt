-- What inner functions ask for and give: facts of a valid table, the place of a new file, files put at the end.
use Rattle.std.specs.Prelude.{◌≡◌, true, false, List, [], ◌∷◌, ℕ, zero, suc, ◌+◌, ◌-◌, ◌≤◌, ◌<◌, length, ltb}
use Rattle.std.proofs.lemmas.List.Edits.{sets}
use Rattle.layout.specs.Numbers.{files_max, number_max, size_max, null_block, head_max}
use Rattle.files.specs.declared.Entry.{Entry}
use Rattle.files.specs.declared.Table.{Table}
use Rattle.files.specs.Table.{file}

-- a table that passes the test, as facts of each file
pub record ValidTable (t : Table) : Type 0 where
  pub slots : length t.files ≡ files_max
  pub count_le : t.count ≤ files_max
  pub number_le : (k : ℕ) → k < t.count → (file t k).number ≤ number_max
  pub rising : (j k : ℕ) → j < k → k < t.count → (file t j).number < (file t k).number
  pub size_le : (k : ℕ) → k < t.count → (file t k).size ≤ size_max
  pub head_null : (k : ℕ) → k < t.count → (file t k).size ≡ 0 → (file t k).head ≡ null_block
  pub head_le : (k : ℕ) → k < t.count → zero < (file t k).size → (file t k).head ≤ head_max

-- how many files stand before file `number`
unfoldable pub slot_for : ℕ → List Entry → ℕ
slot_for number [] = 0
slot_for number (e ∷ es) = elim (ltb e.number number) [ true ↦ suc (slot_for number es) | false ↦ 0 ]

-- a table with more files at its end
abbrev pub append_of : Table → List Entry → Table
append_of t es = record { files = sets t.files t.count es; count = t.count + length es }

-- that there is room in u for the files of t from place `from` to place `to`
pub record AppendRoom (u t : Table) (from to : ℕ) : Type 0 where
  pub slots : length t.files ≡ files_max
  pub in_order : from ≤ to
  pub to_le : to ≤ files_max
  pub fits : u.count + (to - from) ≤ files_max
