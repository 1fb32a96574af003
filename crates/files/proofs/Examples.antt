-- Worked examples, by computation: which refusal comes first, and seek at its limits. Assumes nothing.
use mathlib.Core.Path.{◌≡◌, refl}
use mathlib.Core.List.{List, [], ◌∷◌}
use Prim.Native.Nat.{ℕ, zero, suc}
use lib.IntN.{pos, negsuc}
use Rattle.layout.specs.Numbers.{files_max}
use Rattle.files.specs.declared.Entry.{Entry}
use Rattle.files.specs.declared.Table.{Table}
use Rattle.std.specs.Prelude.{Ok, Err}
use Rattle.layout.specs.declared.Refusal.TheVariants.{TableFull, Exists, Invalid}
use Rattle.files.specs.Table.{head_ok, entry_ok, files_ok, table_of, table_ok, search_of, find_of}
use Rattle.files.specs.Change.{empty_file, create_of}
use Rattle.files.specs.Seek.{within_of, whence_of, seek_of}
use Rattle.files.proofs.Cases.{seeking}

-- as many files as a table holds, numbers 0, 1, 2, ..
unfoldable pub upwards : ℕ → ℕ → List Entry
upwards zero n = []
upwards (suc k) n = empty_file n ∷ upwards k (suc n)

abbrev pub full : Table
full = table_of (upwards files_max 0)

-- in a full table -17 comes before -12
pub exists : (create_of full 7).answer ≡ Err Exists
unfolding upwards create_of find_of search_of table_ok files_ok entry_ok head_ok
exists = refl

pub no_room : (create_of full 700).answer ≡ Err TableFull
unfolding upwards create_of find_of search_of table_ok files_ok entry_ok head_ok
no_room = refl

-- a file number above 65,535 is refused before either
pub no_number : (create_of full 65536).answer ≡ Err Invalid
unfolding upwards create_of find_of search_of table_ok files_ok entry_ok head_ok
no_number = refl

-- file 3 of 300 bytes
abbrev pub one : Table
one = table_of (record { number = 3; size = 300; head = 7 } ∷ [])

pub to_start : seek_of one (seeking 3 0 (negsuc 299) (pos 2)) ≡ Ok 0
unfolding seek_of whence_of within_of find_of search_of table_ok files_ok entry_ok head_ok
to_start = refl

pub before_start : seek_of one (seeking 3 0 (negsuc 300) (pos 2)) ≡ Err Invalid
unfolding seek_of whence_of within_of find_of search_of table_ok files_ok entry_ok head_ok
before_start = refl

pub to_largest : seek_of one (seeking 3 0 (pos 2147483647) (pos 1)) ≡ Ok 2147483647
unfolding seek_of whence_of within_of find_of search_of table_ok files_ok entry_ok head_ok
to_largest = refl

pub past_largest : seek_of one (seeking 3 1 (pos 2147483647) (pos 1)) ≡ Err Invalid
unfolding seek_of whence_of within_of find_of search_of table_ok files_ok entry_ok head_ok
past_largest = refl

pub other_whence : seek_of one (seeking 3 41 (pos 1) (pos 7)) ≡ Ok 41
unfolding seek_of whence_of within_of find_of search_of table_ok files_ok entry_ok head_ok
other_whence = refl
