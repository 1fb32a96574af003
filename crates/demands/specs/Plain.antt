-- Plain files of bytes, and what the store calls do to them (01, "Store calls", "Refusal numbers"). Nothing here knows of blocks.
use Rattle.std.specs.Prelude.{Bool, true, false, List, [], ◌∷◌, ◌++◌, ℕ, ◌+◌, ◌-◌, ltb, leb, eqb, ℤ, length, take, drop}
use Rattle.layout.specs.Numbers.{files_max, number_max, size_max, accepted, file_exists, invalid, no_file, table_full, too_large}
use Rattle.reading.specs.Calls.{FilePosition}
use Rattle.old_list.specs.Write.{zeros}
use Rattle.store.specs.Asked.{WriteAsked}
use Rattle.demands.specs.Calls.{Call, create, remove, write, truncate, look}

-- a plain file: its number and its bytes; a plain store is a list of them, numbers rising
pub record PlainFile : Type 0 where
  pub number : ℕ
  pub bytes : List ℕ

-- whether there is a file of that number, and its bytes
unfoldable pub has_file : ℕ → List PlainFile → Bool
has_file number [] = false
has_file number (f ∷ fs) = elim (eqb f.number number) [ true ↦ true | false ↦ has_file number fs ]

unfoldable pub file_bytes : ℕ → List PlainFile → List ℕ
file_bytes number [] = []
file_bytes number (f ∷ fs) = elim (eqb f.number number) [ true ↦ f.bytes | false ↦ file_bytes number fs ]

-- an empty file put in, a file taken out, the bytes of a file changed
unfoldable pub plain_create : ℕ → List PlainFile → List PlainFile
plain_create number [] = record { number = number; bytes = [] } ∷ []
plain_create number (f ∷ fs) =
    elim (ltb f.number number) [ true ↦ f ∷ plain_create number fs | false ↦ record { number = number; bytes = [] } ∷ (f ∷ fs) ]

unfoldable pub plain_remove : ℕ → List PlainFile → List PlainFile
plain_remove number [] = []
plain_remove number (f ∷ fs) = elim (eqb f.number number) [ true ↦ fs | false ↦ f ∷ plain_remove number fs ]

unfoldable pub plain_change : ℕ → (List ℕ → List ℕ) → List PlainFile → List PlainFile
plain_change number change [] = []
plain_change number change (f ∷ fs) =
    elim (eqb f.number number)
    [ true ↦ record { number = f.number; bytes = change f.bytes } ∷ fs | false ↦ f ∷ plain_change number change fs ]

-- a write of at least one byte: "a gap is zeros" (none where the file reaches the position: `-` stops at 0), the written bytes, "the tail of the old file"
abbrev pub overwrite : WriteAsked → List ℕ → List ℕ
overwrite w old = take w.position (old ++ zeros (w.position - length old)) ++ (w.bytes ++ drop (w.position + length w.bytes) old)

-- a write of no bytes changes nothing, also past the end
abbrev pub plain_write : WriteAsked → List ℕ → List ℕ
plain_write w old = elim (ltb 0 (length w.bytes)) [ false ↦ old | true ↦ overwrite w old ]

-- cut, or zeros behind it
abbrev pub resized : ℕ → List ℕ → List ℕ
resized size old = take size (old ++ zeros (size - length old))

-- an accepted call
abbrev pub plain_after : Call → List PlainFile → List PlainFile
plain_after (create number) fs = plain_create number fs
plain_after (remove number) fs = plain_remove number fs
plain_after (write w) fs = plain_change w.number (plain_write w) fs
plain_after (truncate t) fs = plain_change t.number (resized t.size) fs
plain_after look fs = fs

-- which calls ask for blocks, and so may find none: a write of at least one byte, a growing truncate
abbrev pub grows : Call → List PlainFile → Bool
grows (create number) fs = false
grows (remove number) fs = false
grows (write w) fs = ltb 0 (length w.bytes)
grows (truncate t) fs = ltb (length (file_bytes t.number fs)) t.size
grows look fs = false

-- what a call meets there: -22 for a file number above 65,535, -2 for no such file, -22 for a position (a truncate: a
-- new size) above the largest size; or the file
pub data Met : Type 0 where
  refused : Met
  missing : Met
  met : Met

unfoldable pub meets : FilePosition → List PlainFile → Met
meets place fs =
    elim (leb place.number number_max) [
      | false ↦ refused
      | true ↦ elim (has_file place.number fs) [ false ↦ missing | true ↦ elim (leb place.position size_max) [ false ↦ refused | true ↦ met ] ]
    ]

-- the file alone
abbrev pub meets_file : ℕ → List PlainFile → Met
meets_file number fs = meets (record { number = number; position = 0 }) fs

-- 01's number, where it is `code` if the call meets the file
abbrev pub code_if : Met → ℤ → ℤ
code_if refused code = invalid
code_if missing code = no_file
code_if met code = code

-- 01's number for a call on plain files: -22, -2, -17, -12, -27, or 0. `fits`: health bytes and L are not refused.
abbrev pub plain_code : Bool → Call → List PlainFile → ℤ
plain_code fits (create number) fs =
    elim (meets_file number fs) [
      | refused ↦ invalid
      | missing ↦ elim (leb files_max (length fs)) [ true ↦ table_full | false ↦ accepted ]
      | met ↦ file_exists
    ]
plain_code fits (remove number) fs = code_if (meets_file number fs) accepted
plain_code fits (write w) fs =
    elim fits [
      | false ↦ invalid
      | true ↦ code_if (meets (record { number = w.number; position = w.position }) fs)
          (elim (ltb size_max (w.position + length w.bytes)) [ true ↦ too_large | false ↦ accepted ])
    ]
plain_code fits (truncate t) fs =
    elim fits [ false ↦ invalid | true ↦ code_if (meets (record { number = t.number; position = t.size }) fs) accepted ]
plain_code fits look fs = accepted
