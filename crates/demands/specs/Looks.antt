-- What size, seek, read and stretch answer on plain files (01, "Store calls").
use Rattle.std.specs.Prelude.{Result, Ok, Err, List, [], ℕ, ◌-◌, min, ℤ, length, take, drop}
use Rattle.std.proofs.lemmas.List.Edits.{sets}
use Rattle.layout.specs.declared.Refusal.{Refusal}
use Rattle.layout.specs.declared.Refusal.TheVariants.{Missing, Invalid}
use Rattle.layout.specs.Layout.{offset_at}
use Rattle.layout.specs.Numbers.{accepted}
use Rattle.files.specs.Seek.{Seek, whence_of}
use Rattle.reading.specs.Calls.{FilePosition, ReadOut}
use Rattle.demands.specs.Plain.{PlainFile, file_bytes, meets, meets_file, refused, missing, met, code_if}

abbrev pub plain_size : ℕ → List PlainFile → Result ℕ Refusal
plain_size number fs =
    elim (meets_file number fs) [ refused ↦ Err Invalid | missing ↦ Err Missing | met ↦ Ok (length (file_bytes number fs)) ]

-- the signed offset is added to 0, the position or the length, as whole numbers
abbrev pub plain_seek : Seek → List PlainFile → Result ℕ Refusal
plain_seek k fs =
    elim (meets (record { number = k.number; position = k.position }) fs) [
      | refused ↦ Err Invalid
      | missing ↦ Err Missing
      | met ↦ whence_of k (length (file_bytes k.number fs))
    ]

-- min(room, length - position) bytes from the position on go to the front of the buffer; none at or past the end: `-` stops at 0
abbrev pub read_from : List ℕ → ℕ → List ℕ → ReadOut
read_from bytes p buffer =
    record {
      answer = Ok (min (length buffer) (length bytes - p));
      buffer = sets buffer 0 (take (min (length buffer) (length bytes - p)) (drop p bytes));
    }

-- a refusal leaves the buffer as it came
abbrev pub plain_read : FilePosition → List ℕ → List PlainFile → ReadOut
plain_read place buffer fs =
    elim (meets place fs) [
      | refused ↦ record { answer = Err Invalid; buffer = buffer }
      | missing ↦ record { answer = Err Missing; buffer = buffer }
      | met ↦ read_from (file_bytes place.number fs) place.position buffer
    ]

-- the bytes from the position to the end of its block or of the file; none at or past the end
abbrev pub stretch_from : ℕ → List ℕ → ℕ → List ℕ
stretch_from B bytes p = take (min (B - offset_at B p) (length bytes - p)) (drop p bytes)

-- none where it is refused; and the companion call's number
abbrev pub plain_stretch : ℕ → FilePosition → List PlainFile → List ℕ
plain_stretch B place fs = elim (meets place fs) [ refused ↦ [] | missing ↦ [] | met ↦ stretch_from B (file_bytes place.number fs) place.position ]

abbrev pub stretch_code : FilePosition → List PlainFile → ℤ
stretch_code place fs = code_if (meets place fs) accepted
