-- The numbers that the rules name (01, "The card and its numbers", "Store calls", "Refusal numbers"): each is said here and nowhere else.
use Rattle.std.specs.Prelude.{ℕ, ℤ, pos, negsuc}

-- constants of the geometry's type: the largest file size, the null block, the erased byte
abbrev pub size_max : ℕ
size_max = 2147483647

abbrev pub null_block : ℕ
null_block = 4294967295

abbrev pub erased_byte : ℕ
erased_byte = 255

-- at most 32 files, numbers 0 to 65,535; the largest block number that a head can be
abbrev pub files_max : ℕ
files_max = 32

abbrev pub number_max : ℕ
number_max = 65535

abbrev pub head_max : ℕ
head_max = 65535

-- 0 is an accepted call; the others are refusals: `negsuc n` is -(n + 1)
abbrev pub accepted : ℤ
accepted = pos 0

-- -2: no such file
abbrev pub no_file : ℤ
no_file = negsuc 1

-- -12: as many files held as there may be
abbrev pub table_full : ℤ
table_full = negsuc 11

-- -17: the file exists
abbrev pub file_exists : ℤ
file_exists = negsuc 16

-- -22: a geometry, slice, window, table, file number, position or whence that is none
abbrev pub invalid : ℤ
invalid = negsuc 21

-- -27: the file would pass the largest size
abbrev pub too_large : ℤ
too_large = negsuc 26

-- -28: no block is left
abbrev pub no_space : ℤ
no_space = negsuc 27

-- -84: a block number not below N, or a saved table that is not in exact form
abbrev pub damaged_card : ℤ
damaged_card = negsuc 83
