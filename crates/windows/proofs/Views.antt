-- Views of an allocation and of the allocations of one call, for theorems. The circle: the k-th block from base on is (base + k) % n.
use mathlib.Core.Path.{◌≡◌}
use mathlib.Core.Bool.{Bool, true, false}
use mathlib.Core.List.{List, [], ◌∷◌}
use Prim.Native.Nat.{ℕ, suc, ◌+◌, ◌-◌, ◌%◌, ◌<◌, ◌≤◌}
use Rattle.layout.specs.declared.Refusal.TheVariants as refusal
use Rattle.span.specs.Members.{has, bit_in}
use Rattle.std.specs.Prelude.{Ok, Err}
use Rattle.window.specs.declared.Lookahead.{Lookahead}
use Rattle.window.specs.Allocate.{alloc_of, Answer, Allocated}
use Rattle.window.specs.Scan.{Seen}
use Rattle.window.specs.Value.{checkpoint_of, fresh_of}
use Rattle.window.specs.inner.Facts.{ValidWindow, scope}

-- every number of a list is a block's: each visit tests a number against N just before it hands it over
abbrev pub Below : ℕ → List ℕ → Type 0
Below n bs = (b : ℕ) → has bs b ≡ true → b < n

-- what is said of a block and its mark
abbrev pub Claim : Type 1
Claim = ℕ → Bool → Type 0

-- R holds of each block that the window still has, and its mark
abbrev pub Says : Claim → ℕ → Lookahead → Type 0
Says R n w = (o : ℕ) → w.next ≤ o → o < w.size → R ((w.start + o) % n) (bit_in w.map o)

-- an unmarked block is not listed
abbrev pub cleanly : List ℕ → Claim
cleanly bs b t = t ≡ false → has bs b ≡ false

-- a block is marked exactly if it is used
abbrev pub exactly : (ℕ → Bool) → Claim
exactly used b t = t ≡ used b

-- THE INVARIANT. Each block that the window still has and that is not marked is not listed.
abbrev pub CleanWindow : ℕ → List ℕ → Lookahead → Type 0
CleanWindow n bs w = Says (cleanly bs) n w

-- the window stands n - ckpoint blocks on from base
abbrev pub On : ℕ → ℕ → Lookahead → Type 0
On base n w = (w.start + w.next) % n ≡ (base + (n - w.ckpoint)) % n

-- the places from a up to b were passed as marked ones
abbrev pub PassedMarked : Claim → ℕ → ℕ → ℕ → ℕ → Type 0
PassedMarked R base n a b = (k : ℕ) → a ≤ k → k < b → R ((base + k) % n) true

-- block b was handed out at place k, between the counts c and d: all else between was marked
pub record Handed (R : Claim) (base n c b d : ℕ) : Type 0 where
  pub place : ℕ
  pub is : b ≡ (base + place) % n
  pub from : n - c ≤ place
  pub below : place < n - d
  pub says : R b false
  pub before : PassedMarked R base n (n - c) place
  pub after : PassedMarked R base n (suc place) (n - d)

-- what one allocation can answer, from the count c; ok says whether no visit fails
pub data View (R : Claim) (base n : ℕ) (ok : Bool) (c : ℕ) : Answer → Lookahead → Type 0 where
  handed : {b : ℕ} {v : Lookahead} → Handed R base n c b v.ckpoint → On base n v → View R base n ok c (Ok b) v
  full : {v : Lookahead} → v.ckpoint ≡ 0 → PassedMarked R base n (n - c) n → On base n v → View R base n ok c (Err refusal.NoSpace) v
  bad : {v : Lookahead} → ok ≡ false → v.size ≡ 0 → v.ckpoint ≡ n → View R base n ok c (Err refusal.Damaged) v

-- the same with what stays true of the window
pub record Result (R : Claim) (base n l : ℕ) (ok : Bool) (c : ℕ) (a : Allocated) : Type 0 where
  pub valid : ValidWindow a.window n l
  pub says : Says R n a.window
  pub view : View R base n ok c a.answer a.window

-- the visits against what is listed: each number handed over is below N, and if no visit failed, what was not handed over is not listed
pub record Tells (n : ℕ) (listed : List ℕ) (seen : Seen) : Type 0 where
  pub low : Below n seen.blocks
  pub cover : seen.ok ≡ true → (b : ℕ) → has seen.blocks b ≡ false → has listed b ≡ false

-- no visit fails, and what they hand over is exactly what is listed
pub record Lists (n : ℕ) (listed : List ℕ) (seen : Seen) : Type 0 where
  pub low : Below n seen.blocks
  pub ok : seen.ok ≡ true
  pub same : (b : ℕ) → has seen.blocks b ≡ has listed b

-- a visit may fail; if none does, what they hand over is exactly what is listed
pub record Shows (n : ℕ) (listed : List ℕ) (seen : Seen) : Type 0 where
  pub low : Below n seen.blocks
  pub same : seen.ok ≡ true → (b : ℕ) → has seen.blocks b ≡ has listed b

-- blocks handed out, the last first, at places of the circle that fall and are below d
pub data Places (base n : ℕ) : ℕ → List ℕ → Type 0 where
  none : {d : ℕ} → Places base n d []
  one : {d b : ℕ} {bs : List ℕ} (k : ℕ) → k < d → b ≡ (base + k) % n → Places base n k bs → Places base n d (b ∷ bs)

-- no number comes twice
pub data Different : List ℕ → Type 0 where
  none : Different []
  one : {b : ℕ} {bs : List ℕ} → has bs b ≡ false → Different bs → Different (b ∷ bs)

-- WITHIN ONE CALL, after the checkpoint: the blocks `out` (the last first) were handed out, and w is the window now
pub record During (n l : ℕ) (listed : List ℕ) (w : Lookahead) (out : List ℕ) : Type 0 where
  pub base : ℕ
  pub base_lt : base < n
  pub valid : ValidWindow w n l
  pub clean : CleanWindow n listed w
  pub on : On base n w
  pub places : Places base n (n - w.ckpoint) out
  pub unlisted : (b : ℕ) → has out b ≡ true → has listed b ≡ false

-- what is listed afterwards was listed before or was handed out
abbrev pub Became : List ℕ → List ℕ → List ℕ → Type 0
Became listed out now = (b : ℕ) → has listed b ≡ false → has out b ≡ false → has now b ≡ false

-- what a caller wants to know of the block just handed out
pub record New (n : ℕ) (listed out : List ℕ) (b : ℕ) : Type 0 where
  pub below : b < n
  pub unlisted : has listed b ≡ false
  pub other : has out b ≡ false

abbrev pub is_block : Answer → Bool
is_block (Ok b) = true
is_block (Err e) = false

-- allocations one after the other from w, each of which handed out a block (the last first); the visits may be told anew each time
pub data Allocations (n l : ℕ) (listed : List ℕ) (w : Lookahead) : List ℕ → Lookahead → Type 0 where
  start : Allocations n l listed w [] w
  more : {out : List ℕ} {v : Lookahead} (b : ℕ) (seen : Seen) → Allocations n l listed w out v → Tells n listed seen → (alloc_of (scope n l) seen v).answer ≡ Ok b
      → Allocations n l listed w (b ∷ out) (alloc_of (scope n l) seen v).window

-- CAME FROM STORE CALLS, as the window sees it: what is listed now, and the window
pub data WindowCame (n l : ℕ) : List ℕ → Lookahead → Type 0 where
  -- a fresh window, whatever is listed
  fresh : (s : ℕ) (listed : List ℕ) → s < n → WindowCame n l listed (fresh_of (scope n l) s)
  -- a call that leaves the window as it was and lists no more than before: create, remove, size, read, seek, shrinking truncate, a refused call
  fewer : {listed : List ℕ} {w : Lookahead} (now : List ℕ) → WindowCame n l listed w → Became listed [] now → WindowCame n l now w
  -- a write or growing truncate: checkpoint, allocations, then what is listed was so before or was handed out (also one that stopped at -84 between them)
  wrote : {listed out : List ℕ} {w v : Lookahead} (now : List ℕ) → WindowCame n l listed w → Allocations n l listed (checkpoint_of n w) out v → Became listed out now → WindowCame n l now v
  -- one that stopped at an allocation, with -28 or -84: the table is as it came
  stopped : {listed out : List ℕ} {w v : Lookahead} (seen : Seen) → WindowCame n l listed w → Allocations n l listed (checkpoint_of n w) out v → Tells n listed seen
      → is_block (alloc_of (scope n l) seen v).answer ≡ false → WindowCame n l listed (alloc_of (scope n l) seen v).window
