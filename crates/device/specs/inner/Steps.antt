-- What an erase and a program answer and leave.
use Rattle.std.specs.Prelude.{◌≡◌, Bool, true, false, List, ℕ, Result, Ok, Err}
use Rattle.health.specs.Health.{refuses_erase, refuses_program}
use Rattle.device.specs.declared.Spoiled.{Spoiled}
use Rattle.device.specs.Device.{stored, wiped}
use Rattle.device.specs.inner.Bounds.{spot}

-- what a step answers: it was done, or the block refused
abbrev pub Answer : Type 0
Answer = Result (Unit {0}) Spoiled

abbrev pub done : Answer
done = Ok (tt {0})

abbrev pub refused : Answer
refused = Err (record {})

-- what a step leaves
pub record StepOut : Type 0 where
  pub answer : Answer
  pub image : List ℕ

-- a block that refuses keeps the image; else the step leaves `after`
unfoldable pub step_of : Bool → List ℕ → List ℕ → StepOut
step_of true img after = record { answer = refused; image = img }
step_of false img after = record { answer = done; image = after }

-- block k is erased, or refuses
abbrev pub erase_of : List ℕ → ℕ → ℕ → List ℕ → StepOut
erase_of health B k img = step_of (refuses_erase health k) img (wiped B img k)

-- vs are programmed into block k from offset o on, or the block refuses
abbrev pub program_of : List ℕ → ℕ → ℕ → ℕ → List ℕ → List ℕ → StepOut
program_of health B k o vs img = step_of (refuses_program health k) img (stored B img (spot k o) vs)

-- r is the answer and `after` the image that a definition gives
pub record StepGives (o : StepOut) (r : Answer) (after : List ℕ) : Type 0 where
  pub answer : r ≡ o.answer
  pub image : after ≡ o.image
