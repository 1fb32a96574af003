-- A write of at least one byte (01, "Store calls"): what goes into its blocks, and where it looks before it allocates. Over any lookup in the old list.
use Rattle.std.specs.Prelude.{Bool, true, false, Result, Ok, Err, List, [], ◌∷◌, ◌++◌, ℕ, zero, suc, ◌+◌, ◌-◌, min, max, ltb, length, replicate, take, drop}
use Rattle.layout.specs.declared.Refusal.{Refusal}
use Rattle.layout.specs.Numbers.{null_block}
use Rattle.layout.specs.Layout.{BlockSize, Index, Position, index_at, offset_at, start}
use Rattle.card.specs.Card.{block_of}
use Rattle.ctz.specs.declared.Found as ctz
use Rattle.files.specs.declared.Entry.{Entry}
use Rattle.trials.specs.Trial.{Trial, Whole, Fault, Refused, ends, whole, more}
use Rattle.trials.specs.Loop.{Plan, Candidate}
use Rattle.grow.specs.Growth.{offset, with, growth}

abbrev pub zeros : ℕ → List ℕ
zeros n = replicate n 0

-- the old list, and what is written where
pub record Job : Type 0 where
  pub head : ℕ
  pub old : ℕ
  pub pos : ℕ
  pub src : List ℕ

-- a write to this file of the table
abbrev pub job_of : Entry → ℕ → List ℕ → Job
job_of e p src = record { head = e.head; old = e.size; pos = p; src = src }

-- the end of the written bytes, the new size, and q: what stays of the old file in front of them
abbrev pub over : Job → ℕ
over j = j.pos + length j.src

abbrev pub new : Job → ℕ
new j = max j.old (over j)

abbrev pub kept : Job → ℕ
kept j = min j.pos j.old

-- what a lookup of a position of the old list finds, or -84
pub data Look : Type 0 where
  Found : ℕ → Look
  Lost : Look

-- a lookup in a list, as a write asks for it
abbrev pub look_of : Result ctz.Found Refusal → Look
look_of (Ok found) = Look.Found found.block
look_of (Err refusal) = Look.Lost

-- ---- what goes into a block

-- The file from position s to the end of the written bytes: the gap's zeros, then data. Where s lies behind pos `-` stops at 0 and there is no gap.
unfoldable pub ahead : Job → ℕ → List ℕ
ahead j s = zeros (j.pos - s) ++ drop (s - j.pos) j.src

-- so many positions are ahead: none where s lies behind the written bytes
abbrev pub lead : Job → ℕ → ℕ
lead j s = over j - s

-- so many positions from s on go into a block: those that are left, or those that it has room for
abbrev pub width : BlockSize → Job → ℕ → ℕ
width B j s = min (new j - s) (B - offset_at B s)

-- the bytes of t, and those that follow on the image with them
unfoldable pub then : Candidate → List ℕ → Trial → (List ℕ → Trial) → Trial
then q img t go = elim t.ending [ Whole ↦ more t.bytes (go (with q img 0 t.bytes)) | Fault ↦ t | Refused ↦ t ]

-- Where bytes of the old file follow the data, they stand in its block of the same index, at the same offsets; that block is looked up only then.
unfoldable pub tail : (List ℕ → ℕ → Look) → Job → Candidate → List ℕ → Trial
tail look j q img =
    let a : ℕ = lead j q.size in
    let n : ℕ = width q.B j q.size in
    elim (ltb a n) [
      | false ↦ whole []
      | true ↦ elim (look img (q.size + a)) [
        | Lost ↦ ends Fault
        | Found b ↦ whole (take (n - a) (drop (offset q + a) (block_of q.B img b)))
      ]
    ]

-- the growth; gap and data; the tail
unfoldable pub trial_of : (List ℕ → ℕ → Look) → Job → Candidate → List ℕ → Trial
trial_of look j q img =
    then q img (then q img (growth q img) (λ i. whole (take (width q.B j q.size) (ahead j q.size)))) (λ i. tail look j q i)

abbrev pub plan_of : (List ℕ → ℕ → Look) → ℕ → Job → Plan
plan_of look B j = record { until = new j; trial = trial_of look j; reach = λ s. s + width B j s }

-- ---- the lookups

-- the first positions of n blocks from index i on
unfoldable pub starts : BlockSize → Index → ℕ → List Position
starts B i zero = []
starts B i (suc n) = start B i ∷ starts B (suc i) n

abbrev pub when : Bool → List ℕ → List ℕ
when true ps = ps
when false ps = []

-- Where a write looks before it allocates: the last kept block, then each old block whose bytes it copies, index rising.
unfoldable pub wanted : BlockSize → Job → List ℕ
wanted B j =
    let i : ℕ = index_at B (kept j) in
    let o : ℕ = index_at B (over j) in
    when (ltb 0 i) (start B (i - 1) ∷ [])
    ++ (when (ltb (start B i) (kept j)) (start B i ∷ [])
    ++ when (ltb (over j) j.old) (starts B o (index_at B (j.old - 1) - o + 1)))

-- each of these positions is found
unfoldable pub looked : (ℕ → Look) → List ℕ → Bool
looked look [] = true
looked look (p ∷ ps) = elim (look p) [ Found k ↦ looked look ps | Lost ↦ false ]

abbrev pub found_or : Look → ℕ
found_or (Found k) = k
found_or Lost = null_block

-- the first growth is from the block of byte q - 1, or from size 0
unfoldable pub first_head : (ℕ → Look) → ℕ → ℕ
first_head look zero = null_block
first_head look (suc p) = found_or (look p)
