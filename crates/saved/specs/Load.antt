-- Load: exact form only, else -84 and no table.
use Rattle.std.specs.Prelude.{true, false, List, [], ◌∷◌, ℕ, zero, suc, ◌+◌, ◌-◌, ◌*◌, Result, Ok, Err, ltb, leb, eqb}
use Rattle.layout.specs.declared.Refusal.{Refusal}
use Rattle.layout.specs.declared.Refusal.TheVariants.{Damaged}
use Rattle.layout.specs.Numbers.{files_max, number_max, size_max, head_max}
use Rattle.files.specs.declared.Entry.{Entry}
use Rattle.files.specs.declared.Table.{Table}
use Rattle.files.specs.Table.{table_of}
use Rattle.files.specs.Change.{empty_file}

-- what reading some bytes gives: bytes that are damaged, or what was read and the bytes that follow
pub data Parsed (A : Type 0) : Type 0 where
  damaged : Parsed A
  read : A → List ℕ → Parsed A

-- a reading, and another of the bytes that follow
abbrev pub then_read : {A C : Type 0} → Parsed A → (A → List ℕ → Parsed C) → Parsed C
then_read damaged f = damaged
then_read (read a rest) f = f a rest

-- a group and the number after it, which is not 0: else the form would not be the shortest
unfoldable pub group_before : ℕ → Parsed ℕ → Parsed ℕ
group_before b r = then_read r (λ v rest. elim (eqb v 0) [ true ↦ damaged | false ↦ read (b - 128 + 128 * v) rest ])

-- a number: its last group has no top bit
unfoldable pub read_number : List ℕ → Parsed ℕ
read_number [] = damaged
read_number (b ∷ bs) = elim (ltb b 128) [ true ↦ read b bs | false ↦ group_before b (read_number bs) ]

-- a number in range
unfoldable pub up_to : ℕ → Parsed ℕ → Parsed ℕ
up_to limit r = then_read r (λ v rest. elim (leb v limit) [ true ↦ read v rest | false ↦ damaged ])

unfoldable pub read_up_to : ℕ → List ℕ → Parsed ℕ
read_up_to limit bs = up_to limit (read_number bs)

-- the head of file e, at most 65,535
unfoldable pub read_head : Entry → List ℕ → Parsed Entry
read_head e bs = then_read (read_up_to head_max bs) (λ head rest. read (record { number = e.number; size = e.size; head = head }) rest)

-- the size, up to the largest, and the head unless it is 0
unfoldable pub read_size : ℕ → List ℕ → Parsed Entry
read_size number bs =
    then_read (read_up_to size_max bs)
    (λ size rest. elim (eqb size 0) [ true ↦ read (empty_file number) rest | false ↦ read_head (record { number = number; size = size; head = 0 }) rest ])

-- a file whose number is from `least` to 65,535
unfoldable pub read_entry : ℕ → List ℕ → Parsed Entry
read_entry least bs =
    then_read (read_up_to number_max bs) (λ number rest. elim (leb least number) [ true ↦ read_size number rest | false ↦ damaged ])

-- a file before those that follow
unfoldable pub file_before : Entry → Parsed (List Entry) → Parsed (List Entry)
file_before e r = then_read r (λ es rest. read (e ∷ es) rest)

-- k files, numbers rising from `least` on
unfoldable pub read_files : ℕ → List ℕ → ℕ → Parsed (List Entry)
read_files zero bs least = read [] bs
read_files (suc k) bs least = then_read (read_entry least bs) (λ e rest. file_before e (read_files k rest (suc e.number)))

-- the table of these files, if no bytes follow them
unfoldable pub finish : Parsed (List Entry) → Result Table Refusal
finish damaged = Err Damaged
finish (read es []) = Ok (table_of es)
finish (read es (b ∷ bs)) = Err Damaged

-- at most 32 files, then each of them, then nothing
unfoldable pub load_of : List ℕ → Result Table Refusal
load_of bytes = finish (then_read (read_up_to files_max bytes) (λ count rest. read_files count rest 0))
