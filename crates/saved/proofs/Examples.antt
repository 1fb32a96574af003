-- The worked example of the rules, both ways, by computation: files 3 (size 300, head 7) and 200 (empty). Assumes nothing.
use mathlib.Core.Path.{◌≡◌, refl}
use mathlib.Core.List.{List, [], ◌∷◌}
use Prim.Native.Nat.{ℕ}
use Rattle.files.specs.declared.Table.{Table}
use Rattle.files.specs.Table.{table_of}
use Rattle.files.specs.Change.{empty_file}
use Rattle.std.specs.Prelude.{Ok}
use Rattle.saved.specs.Load.{read_number, up_to, read_up_to, read_head, read_size, read_entry, read_files, finish, load_of, file_before, group_before}
use Rattle.saved.specs.Save.{head_bytes, entry_bytes, files_bytes, save_of, groups, groups_by}

abbrev pub two : Table
two = table_of (record { number = 3; size = 300; head = 7 } ∷ empty_file 200 ∷ [])

abbrev pub bytes : List ℕ
bytes = 0x02 ∷ 0x03 ∷ 0xAC ∷ 0x02 ∷ 0x07 ∷ 0xC8 ∷ 0x01 ∷ 0x00 ∷ []

pub saves : save_of two ≡ bytes
unfolding save_of files_bytes entry_bytes head_bytes groups groups_by
saves = refl

pub loads : load_of bytes ≡ Ok two
unfolding load_of finish read_files file_before read_entry read_size read_head read_up_to up_to read_number group_before
loads = refl
