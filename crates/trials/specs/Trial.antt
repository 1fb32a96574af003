-- What goes into a block from offset 0 on, when it is tried: one list of bytes.
use Rattle.std.specs.Prelude.{Bool, true, false, ◌&&◌, List, [], ◌++◌, ℕ, ltb, length}

-- how the list ends: with all that goes there; where a block number was due and there was none below N; or at a byte that the block refuses
pub data Ending : Type 0 where
  Whole : Ending
  Fault : Ending
  Refused : Ending

pub record Trial : Type 0 where
  pub bytes : List ℕ
  pub ending : Ending

abbrev pub ends : Ending → Trial
ends e = record { bytes = []; ending = e }

abbrev pub whole : List ℕ → Trial
whole vs = record { bytes = vs; ending = Whole }

-- vs before the bytes of t
abbrev pub more : List ℕ → Trial → Trial
more vs t = record { bytes = vs ++ t.bytes; ending = t.ending }

-- what a block takes: all, or nothing where it refuses its first program and there is a byte to program
unfoldable pub taken_by : Bool → Trial → Trial
taken_by refuses t = elim (refuses && ltb 0 (length t.bytes)) [ true ↦ ends Refused | false ↦ t ]
