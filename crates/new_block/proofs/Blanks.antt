-- Gap, data and tail of a block go into erased bytes. Assumes nothing.
use mathlib.Core.Path.{◌≡◌}
use mathlib.Core.List.{List}
use Prim.Native.Nat.{ℕ, ◌+◌, ◌-◌, min, ◌≤◌, ◌<◌}
use native.Mathlib.Nat.{min-le_left, min-le_right}
use native.Mathlib.Omega.{arith}
use lib.ListN.{length, take, drop, replicate, length-take, length-drop, length-replicate}
use Rattle.device.specs.inner.Steps.{Answer, program_of, StepGives}
use Rattle.device.specs.inner.Bounds.{Blank}
use Rattle.device.proofs.Blanks.{blank_part, blank_stored, blank_programmed}
use Rattle.new_block.specs.inner.Fill.{fronted}

-- gap and data end where the data ends
front_ends : (pos s len gap run : ℕ) → gap ≤ pos - s → run ≤ len - (s - pos) → gap + run ≤ pos + len - s
front_ends pos s len gap run e f = omega arith

-- both runs of the front go into erased bytes
module _ {B k off n : ℕ} {img : List ℕ} (x gap : ℕ) (eg : gap ≡ min x n) (b : Blank B k off n img) where
  pub zeros_blank : Blank B k off gap img
  zeros_blank = blank_part off gap (omega arith) (omega (arith, min-le_right x n)) b

  pub data_blank : {r : Answer} {img₁ : List ℕ} (health : List ℕ) → StepGives (program_of health B k off (replicate gap 0) img) r img₁
      → (y run : ℕ) → run ≡ min (n - gap) y → Blank B k (off + gap) run img₁
  data_blank health g y run er =
      blank_programmed health off (replicate gap 0) g (omega (arith, length-replicate {A = ℕ} gap 0))
      (blank_part (off + gap) run (omega arith) (omega (arith, min-le_right x n, min-le_left (n - gap) y)) b)

-- behind the data the room stays erased
pub front_blank : {B k off n : ℕ} {img : List ℕ} (s pos : ℕ) (src : List ℕ) → Blank B k off n img → pos + length src - s < n
    → Blank B k (off + (pos + length src - s)) (n - (pos + length src - s)) (fronted B k off s n pos src img)
unfolding fronted
front_blank {off = off} {n = n} s pos src b l =
    let gap = min (pos - s) n in
    let run = take (n - gap) (drop (s - pos) src) in
    let short : length run ≤ length src - (s - pos)
    = omega (arith, length-take (n - gap) (drop (s - pos) src), min-le_right (n - gap) (length (drop (s - pos) src)), length-drop (s - pos) src) in
    let ends = front_ends pos s (length src) gap (length run) (min-le_left (pos - s) n) short in
    blank_stored (off + gap) run (omega arith)
    (blank_stored off (replicate gap 0) (omega (arith, length-replicate {A = ℕ} gap 0))
    (blank_part (off + (pos + length src - s)) (n - (pos + length src - s)) (omega arith) (omega arith) b))
