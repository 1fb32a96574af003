-- Filling one new block: what its two steps leave, and what they ask.
use Rattle.std.specs.Prelude.{◌≡◌, true, false, Result, Ok, Err, List, ℕ, ◌+◌, ◌-◌, min, ◌≤◌, ◌<◌, ltb, length, take, drop}
use Rattle.layout.specs.declared.Refusal.TheVariants.{Damaged}
use Rattle.layout.specs.Numbers.{size_max}
use Rattle.card.specs.inner.Cards.{CardFacts}
use Rattle.health.specs.Health.{refuses_program}
use Rattle.device.specs.Device.{stored}
use Rattle.device.specs.inner.Steps.{StepOut, step_of}
use Rattle.device.specs.inner.Bounds.{Blank, spot}
use Rattle.files.specs.declared.Entry.{Entry}
use Rattle.grow.specs.declared.Failed.{Failed}
use Rattle.grow.specs.declared.Failed.TheVariants as failed
use Rattle.grow.specs.inner.Grow.{part}
use Rattle.old_list.specs.Write.{zeros, Job, over, new, Look, job_of}

-- Block k holds the file up to position s, at offset off; n more positions go into it. First the gap's zeros, then the data:
unfoldable pub fronted : ℕ → ℕ → ℕ → ℕ → ℕ → ℕ → List ℕ → List ℕ → List ℕ
fronted B k off s n pos src img =
    stored B (stored B img (spot k off) (zeros (min (pos - s) n))) (spot k (off + min (pos - s) n)) (take (n - min (pos - s) n) (drop (s - pos) src))

-- then the tail of the old file, from position e on: it stands in the old block ob of the same index, at the same offsets
unfoldable pub tailed : ℕ → ℕ → ℕ → ℕ → ℕ → ℕ → ℕ → List ℕ → List ℕ
tailed B k off s n ob e img = stored B img (spot k (off + (e - s))) (part B ob (off + (e - s)) (n - (e - s)) img)

-- gap and data go into block k, or it refuses
abbrev pub front_of : List ℕ → ℕ → ℕ → ℕ → ℕ → ℕ → ℕ → List ℕ → List ℕ → StepOut
front_of health B k off s n pos src img = step_of (refuses_program health k) img (fronted B k off s n pos src img)

-- what filling a block answers: the size so far, that the block refuses, or -84
abbrev pub Filled : Type 0
Filled = Result ℕ Failed

abbrev pub lost : Filled
lost = Err (failed.Refused Damaged)

-- what filling a block leaves
pub record FillOut : Type 0 where
  pub answer : Filled
  pub image : List ℕ

-- how many positions from s on go into a block at offset off
abbrev pub share : ℕ → Job → ℕ → ℕ → ℕ
share B j off s = min (new j - s) (B - off)

-- The tail, behind the front: of the m positions from s on, those from `past` on come from the old block of the same index.
unfoldable pub tail_of : (List ℕ → ℕ → Look) → ℕ → ℕ → ℕ → ℕ → ℕ → ℕ → List ℕ → FillOut
tail_of look B k off s m past img =
    elim (ltb (past - s) m) [
      | false ↦ record { answer = Ok (s + m); image = img }
      | true ↦ elim (look img (s + (past - s))) [
        | Look.Lost ↦ record { answer = lost; image = img }
        | Look.Found ob ↦ record { answer = Ok (s + m); image = tailed B k off s m ob past img }
      ]
    ]

-- block k, grown at position s with offset off, is filled, or refuses
unfoldable pub fill_of : (List ℕ → ℕ → Look) → List ℕ → ℕ → Job → ℕ → ℕ → ℕ → List ℕ → FillOut
fill_of look health B j k off s img =
    elim (refuses_program health k) [
      | true ↦ record { answer = Err failed.Spoiled; image = img }
      | false ↦ tail_of look B k off s (share B j off s) (over j) (fronted B k off s (share B j off s) j.pos j.src img)
    ]

-- r is the answer and `after` the image that a definition gives
pub record FillGives (o : FillOut) (r : Filled) (after : List ℕ) : Type 0 where
  pub answer : r ≡ o.answer
  pub image : after ≡ o.image

-- what a filling asks: a card with a health byte for each block, a block with room that is erased, and something left to write
pub record Filling (B N : ℕ) (e : Entry) (pos : ℕ) (src : List ℕ) (k off s : ℕ) (image health : List ℕ) : Type 0 where
  pub card : CardFacts B N (length image)
  pub known : N ≤ length health
  pub most : e.size ≤ size_max
  pub fits : pos + length src ≤ size_max
  pub block : k < N
  pub room : off < B
  pub left : s < new (job_of e pos src)
  pub clean : Blank B k off (B - off) image

-- what the tail asks: a card with a health byte for each block, a block that takes it, and that it lies in the old file and in erased bytes of the block
pub record Tailing (B N : ℕ) (e : Entry) (k off s m past : ℕ) (image health : List ℕ) : Type 0 where
  pub card : CardFacts B N (length image)
  pub known : N ≤ length health
  pub most : e.size ≤ size_max
  pub block : k < N
  pub takes : refuses_program health k ≡ false
  pub fits : off + m ≤ B
  pub whole : s + m ≤ size_max
  pub below : past - s < m → s + (past - s) < e.size
  pub clean : past - s < m → Blank B k (off + (past - s)) (m - (past - s)) image
