-- A write as one loop: allocate, erase, store the block's bytes, until the size is reached; over any allocator, and whatever the blocks are to hold.
use Rattle.std.specs.Prelude.{true, false, List, [], ◌∷◌, ℕ, zero, suc, ltb}
use Rattle.health.specs.Health.{refuses_erase, refuses_program}
use Rattle.device.specs.Device.{wiped}
use Rattle.trials.specs.Steps.{Erase, series, programs, DeviceStep}
use Rattle.trials.specs.Trial.{Trial, Whole, Fault, Refused, taken_by}

-- what an allocator answers, whatever its state W is: a block and what is left; -28; -84
pub data Took (W : Type 0) : Type 0 where
  Block : ℕ → W → Took W
  None : W → Took W
  Bad : W → Took W

-- N blocks of B bytes, a health byte for each, and an allocator
pub record Flash (W : Type 0) : Type 0 where
  pub B : ℕ
  pub N : ℕ
  pub health : List ℕ
  pub alloc : W → List ℕ → Took W

-- block k of the card, tried as the next block of the list (head, size)
pub record Candidate : Type 0 where
  pub B : ℕ
  pub N : ℕ
  pub k : ℕ
  pub head : ℕ
  pub size : ℕ

-- What is written: up to which size; the bytes of a block, on the image where it has just been erased; and the size behind a block that took them all.
pub record Plan : Type 0 where
  pub until : ℕ
  pub trial : Candidate → List ℕ → Trial
  pub reach : ℕ → ℕ

-- where a write stands between two blocks: the list so far, the image, and the allocator
pub record Standing (W : Type 0) : Type 0 where
  pub head : ℕ
  pub size : ℕ
  pub image : List ℕ
  pub rest : W

-- the written list's head and size; -28; -84
pub data Writing : Type 0 where
  Written : (head size : ℕ) → Writing
  NoRoom : Writing
  Corrupt : Writing

-- what a write leaves: its answer, the image, and the allocator
pub record WriteOut (W : Type 0) : Type 0 where
  pub answer : Writing
  pub image : List ℕ
  pub rest : W

abbrev pub write_out : {W : Type 0} → Writing → List ℕ → W → WriteOut W
write_out a img w = record { answer = a; image = img; rest = w }

-- how a write goes on: block k is the list's new head; another block is tried; or it ends
pub data Next : Type 0 where
  Longer : (head : ℕ) → Next
  Again : Next
  Ends : Writing → Next

-- one turn: its steps, the allocator behind it, and how the write goes on
pub record Turn (W : Type 0) : Type 0 where
  pub steps : List DeviceStep
  pub rest : W
  pub next : Next

-- block k was erased and took these bytes
unfoldable pub tried : {W : Type 0} → ℕ → W → Trial → Turn W
tried k w t = record {
  steps = Erase k ∷ programs k 0 t.bytes;
  rest = w;
  next = elim t.ending [ Whole ↦ Longer k | Refused ↦ Again | Fault ↦ Ends Corrupt ];
}

module _ {W : Type 0} (c : Flash W) (p : Plan) where
  -- Allocate, erase, store: the plan's bytes, or what block k takes of them. A refused erase moves on to another block.
  unfoldable pub turn_of : Standing W → Turn W
  turn_of st =
      elim (c.alloc st.rest st.image) [
        | None w ↦ record { steps = []; rest = w; next = Ends NoRoom }
        | Bad w ↦ record { steps = []; rest = w; next = Ends Corrupt }
        | Block k w ↦ elim (refuses_erase c.health k) [
          | true ↦ record { steps = []; rest = w; next = Again }
          | false ↦
              tried k w
              (taken_by (refuses_program c.health k)
              (p.trial (record { B = c.B; N = c.N; k = k; head = st.head; size = st.size }) (wiped c.B st.image k)))
        ]
      ]

  -- what follows a turn, on the image that its steps leave
  unfoldable pub followed : Standing W → Turn W → (Standing W → WriteOut W) → WriteOut W
  followed st t go =
      elim t.next [
        | Longer k ↦ go (record { head = k; size = p.reach st.size; image = series c.B t.steps st.image; rest = t.rest })
        | Again ↦ go (record { head = st.head; size = st.size; image = series c.B t.steps st.image; rest = t.rest })
        | Ends a ↦ write_out a (series c.B t.steps st.image) t.rest
      ]

  -- The write from there on, until its size is reached. m bounds the turns: one for each block that may be handed out, and one more.
  unfoldable pub write_by : ℕ → Standing W → WriteOut W
  write_by zero st = write_out NoRoom st.image st.rest
  write_by (suc m) st =
      elim (ltb st.size p.until) [
        | false ↦ write_out (Written st.head st.size) st.image st.rest
        | true ↦ followed st (turn_of st) (λ st'. write_by m st')
      ]
