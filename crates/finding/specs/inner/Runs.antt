-- What a read knows of the blocks of a run of indexes.
use Rattle.std.specs.Prelude.{◌≡◌, Result, Ok, Err, List, [], ℕ, ◌+◌, ◌-◌, ◌^◌, ◌≤◌, ◌<◌, length, get_or}
use Rattle.layout.specs.declared.Refusal.{Refusal}
use Rattle.layout.specs.declared.Refusal.TheVariants.{Invalid, Damaged}
use Rattle.layout.specs.Layout.{index_at}
use Rattle.layout.specs.inner.Served.{block_list}
use Rattle.card.specs.Card.{pointer}
use Rattle.card.specs.inner.Cards.{card_with}
use Rattle.ctz.specs.inner.Bounds.{Walks}
use Rattle.ctz.specs.inner.Runs.{seek, Finds}
use Rattle.plain.specs.Reading.{Bytes, gather, Gathered}
use Rattle.plain.specs.inner.Forms.{range}
use Rattle.finding.specs.inner.Bounds.{Ranged}

-- whether every lookup found its block, or what one met
abbrev pub clean : Gathered → Result (Unit {0}) Refusal
clean (Bytes bytes) = Ok tt
clean Gathered.Damaged = Err Damaged
clean Gathered.Refused = Err Invalid

abbrev pub got_bytes : Gathered → List ℕ
got_bytes (Bytes bytes) = bytes
got_bytes Gathered.Damaged = []
got_bytes Gathered.Refused = []

-- the lookup of every index from `first` to `last` finds its block
abbrev pub Reached : (ℕ → ℕ → ℕ) → ℕ → ℕ → ℕ → ℕ → ℕ → Type 0
Reached ptr N head top first last = (i : ℕ) → first ≤ i → i ≤ last → (k : ℕ) × Finds ptr N head top i k

-- the lookup of one of them meets -84
abbrev pub Missed : (ℕ → ℕ → ℕ) → ℕ → ℕ → ℕ → ℕ → ℕ → Type 0
Missed ptr N head top first last = (i : ℕ) × ((first ≤ i) × (i ≤ last) × (seek ptr N head top i ≡ Err Damaged))

-- Whether they do: or one of them meets -84.
pub record Tested (ptr : ℕ → ℕ → ℕ) (N head top first last : ℕ) (whole : Result (Unit {0}) Refusal) : Type 0 where
  pub found : whole ≡ Ok tt → Reached ptr N head top first last
  pub lost : (e : Refusal) → whole ≡ Err e → (e ≡ Damaged) × Missed ptr N head top first last

-- Indexes of a list that can be walked.
pub record Indexed (B top last : ℕ) : Type 0 where
  pub walks : Walks B top
  pub below : last ≤ top
  pub short : top < 2 ^ 26

-- The blocks of the indexes from `base` on: 1,024 of them, or those up to `last`.
pub record Held (ptr : ℕ → ℕ → ℕ) (N head top base last : ℕ) (blocks : List ℕ) : Type 0 where
  pub long : length blocks ≡ 1024
  pub block : (m : ℕ) → m < 1024 → base + m ≤ last → Finds ptr N head top (base + m) (get_or blocks m 0)

-- Indexes that are found, to be noted from `base` on.
pub record Notable (image : List ℕ) (B N head top base last room : ℕ) : Type 0 where
  pub list : Indexed B top last
  pub inside : base ≤ last
  pub reached : Reached (pointer B image) N head top base last
  pub long : room ≡ 1024

-- Those noted from `base` on, and an index for which they are asked.
pub record Turning (image : List ℕ) (B N head top base i last : ℕ) (blocks : List ℕ) : Type 0 where
  pub list : Indexed B top last
  pub from : base ≤ i
  pub inside : i ≤ last
  pub reached : Reached (pointer B image) N head top i last
  pub held : Held (pointer B image) N head top base last blocks

-- Its block is among them.
pub record Turned (ptr : ℕ → ℕ → ℕ) (N head top base i last : ℕ) (blocks : List ℕ) : Type 0 where
  pub from : base ≤ i
  pub among : i < base + 1024
  pub held : Held ptr N head top base last blocks

-- ---- a run of n positions from p on

-- Some positions of a list, with room for the blocks of 1,024 indexes.
pub record RunSought (size p n room : ℕ) : Type 0 where
  pub run : Ranged size p n
  pub some : 0 < n
  pub long : room ≡ 1024

-- the first of their blocks are noted
abbrev pub Noted : List ℕ → ℕ → ℕ → ℕ → ℕ → ℕ → ℕ → List ℕ → Type 0
Noted image B N head size p n blocks = Held (pointer B image) N head (index_at B (size - 1)) (index_at B p) (index_at B (p + (n - 1))) blocks

-- Whether the lookups of all their blocks find them; then the first are noted.
pub record Answered (image : List ℕ) (B N head size p n : ℕ) (whole : Result (Unit {0}) Refusal) (blocks : List ℕ) : Type 0 where
  pub is : whole ≡ clean (gather n (card_with B N image) (block_list head size) (range p n))
  pub noted : whole ≡ Ok tt → Noted image B N head size p n blocks
