-- What the inner steps promise. Where a step answers a place in the bytes, the definitions have the bytes that follow.
use Rattle.std.specs.Prelude.{◌≡◌, true, false, ◌&&◌, List, Option, Some, None, ℕ, ◌+◌, ◌*◌, ◌≤◌, ◌<◌, ◌^◌, length, drop, ltb, leb, eqb}
use Rattle.files.specs.declared.Entry.{Entry}
use Rattle.saved.specs.declared.read.NumberRead.{NumberRead}
use Rattle.saved.specs.declared.read.EntryRead.{EntryRead}
use Rattle.saved.specs.Load.{damaged, read, read_up_to, read_entry, Parsed}

-- as long as these bytes, which are at most `most`
pub record Counted (bytes : List ℕ) (most r : ℕ) : Type 0 where
  pub is : r ≡ length bytes
  pub small : r ≤ most

-- the groups so far: their value is below what the next group counts
pub record Scaled (value scale : ℕ) : Type 0 where
  pub below : value < scale
  pub scale_le : scale ≤ 2 ^ 32

-- a number, or a file, that was read, and the place after it
abbrev pub a_number : ℕ → ℕ → NumberRead
a_number value next = record { value = value; next = next }

abbrev pub an_entry : Entry → ℕ → EntryRead
an_entry e next = record { entry = e; next = next }

-- the last group: not 0 after others, and the whole number in range
unfoldable pub last_of : ℕ → ℕ → ℕ → ℕ → ℕ → Option NumberRead
last_of value scale b limit next =
    elim (ltb 1 scale && eqb b 0) [
      | true ↦ None
      | false ↦ elim (leb (value + scale * b) limit) [ true ↦ Some (a_number (value + scale * b) next) | false ↦ None ]
    ]

-- a number and its place, as what was read and the bytes that follow
abbrev pub number_told : List ℕ → Option NumberRead → Parsed ℕ
number_told bytes (Some r) = read r.value (drop r.next bytes)
number_told bytes None = damaged

-- the place after it
abbrev pub number_next : Option NumberRead → ℕ
number_next (Some r) = r.next
number_next None = 0

-- a number read at place `at`
pub record NumberPost (bytes : List ℕ) (at limit : ℕ) (r : Option NumberRead) : Type 0 where
  pub told : read_up_to limit (drop at bytes) ≡ number_told bytes r
  pub next_le : number_next r ≤ length bytes

-- the same of a file
abbrev pub entry_told : List ℕ → Option EntryRead → Parsed Entry
entry_told bytes (Some r) = read r.entry (drop r.next bytes)
entry_told bytes None = damaged

abbrev pub entry_next : Option EntryRead → ℕ
entry_next (Some r) = r.next
entry_next None = 0

pub record EntryPost (bytes : List ℕ) (at least : ℕ) (r : Option EntryRead) : Type 0 where
  pub told : read_entry least (drop at bytes) ≡ entry_told bytes r
  pub next_le : entry_next r ≤ length bytes
