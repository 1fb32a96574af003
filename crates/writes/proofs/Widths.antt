-- A new block's share: from position s of its index on, the rest of the block or of the file to be, n bytes in all. Assumes nothing.
use mathlib.Core.Path.{◌≡◌}
use mathlib.Core.Logic.{◌⊎◌, inl, inr}
use mathlib.Core.Bool.{true, false}
use Prim.Native.Nat.{ℕ, suc, ◌+◌, ◌-◌, ◌*◌, ◌^◌, ◌≤◌, ◌<◌, min}
use native.Mathlib.Omega.{arith}
use borrow.Author.Tests.{lt-ltb, le-ltb}
use lib.Dec.{ltb}
use Rattle.layout.specs.Layout.{pointers, start, index_at, offset_at}
use Rattle.layout.specs.inner.Served.{BlockSized}
use Rattle.layout.proofs.Places.{start_suc}
use Rattle.layout.proofs.InBlock.{InBlock}
use Rattle.old_list.specs.Write.{Job, new}
use Rattle.writes.proofs.Index.{in_block, roomy, index_is, index_le, offset_is, start_index}
use Rattle.writes.proofs.Holds.{either}

-- how many of n bytes go into the block of position s
abbrev pub share : ℕ → ℕ → ℕ → ℕ
share B n s = min (n - s) (B - offset_at B s)

module _ (B : ℕ) (sized : BlockSized B) (n s : ℕ) (more : s < n) (fits : n < 2 ^ 32) where
  abbrev i : ℕ
  i = index_at B s

  abbrev off : ℕ
  off = offset_at B s

  s32 : s < 2 ^ 32
  s32 = omega arith

  -- position s lies in its index
  pub is : InBlock B s (index_at B s)
  is = in_block B sized s s32

  -- the rest of the block is the rest of its positions
  rest_is : B - off ≡ start B (suc i) - s
  rest_is =
      omega (arith, is.from, is.until, start_suc B i, roomy B sized s i s32 is.from, offset_is B sized s i s32 is.from is.until)

  off_in : off < B
  off_in =
      omega (arith, is.from, is.until, start_suc B i, roomy B sized s i s32 is.from, offset_is B sized s i s32 is.from is.until)

  -- the share lies in the block
  pub room : offset_at B s + share B n s ≤ B
  room = room_of off (n - s) B off_in
    where
      room_of : (o m b : ℕ) → o < b → o + min m (b - o) ≤ b
      room_of o m b l = omega arith

  -- it is one byte at least
  pub width : 0 < share B n s
  width = width_of n s off B more off_in
    where
      width_of : (n s o b : ℕ) → s < n → o < b → 0 < min (n - s) (b - o)
      width_of n s o b l m = omega arith

  -- its positions are of the block's index
  pub ends : s + share B n s ≤ start B (suc (index_at B s))
  ends = ends_of n s (B - off) (start B (suc i)) rest_is is.until
    where
      ends_of : (n s b e : ℕ) → b ≡ e - s → s < e → s + min (n - s) b ≤ e
      ends_of n s b e q l = omega arith

  -- and of the file
  pub within : s + share B n s ≤ n
  within = within_of_lem n s (B - off) more
    where
      within_of_lem : (n s b : ℕ) → s < n → s + min (n - s) b ≤ n
      within_of_lem n s b l = omega arith

  -- a position of the share, by index and offset
  pub index_at_lem : (p : ℕ) → s ≤ p → p < s + share B n s → index_at B p ≡ index_at B s
  index_at_lem p l m = index_is B sized p i (omega (arith, within)) (omega (arith, is.from)) (omega (arith, ends))

  -- and at the offset that far behind
  pub offset_at_lem : (p : ℕ) → s ≤ p → p < s + share B n s → offset_at B p ≡ offset_at B s + (p - s)
  offset_at_lem p l m =
      further (4 * pointers i) (start B i) s p off (offset_at B p) is.from l (offset_is B sized s i s32 is.from is.until)
      (offset_is B sized p i (omega (arith, within)) (omega (arith, is.from)) (omega (arith, ends)))
    where
      further : (a st s p os op : ℕ) → st ≤ s → s ≤ p → os ≡ a + (s - st) → op ≡ a + (p - st) → op ≡ os + (p - s)
      further a st s p os op x y u v = omega arith

  -- the last of them is the block's
  pub last_index : index_at B (s + share B n s - 1) ≡ index_at B s
  last_index = index_at_lem (s + share B n s - 1) (omega (arith, width)) (omega (arith, width))

  -- where the share ends before the file does, the next index starts
  full : s + share B n s < n → s + share B n s ≡ start B (suc i)
  full = full_of n s (B - off) (start B (suc i)) rest_is is.until
    where
      full_of : (n s b e : ℕ) → b ≡ e - s → s < e → s + min (n - s) b < n → s + min (n - s) b ≡ e
      full_of n s b e q l g = omega arith

  last : n ≤ s + share B n s → n ≤ start B (suc i)
  last g = omega (arith, ends)

-- How many blocks a write has yet to fill from position s on: at its first position that is what 01 says it needs, and none at its end.
unfoldable pub need : ℕ → Job → ℕ → ℕ
need B j s = elim (ltb s (new j)) [ true ↦ index_at B (new j - 1) - index_at B s + 1 | false ↦ 0 ]

-- one block less to go
pub needs : (B : ℕ) → BlockSized B → (j : Job) (s : ℕ) → s < new j → new j < 2 ^ 32 → need B j s ≡ suc (need B j (s + share B (new j) s))
unfolding need
needs B sized j s more fits = rw (need, lt-ltb s (new j) more) (go (either (s + share B (new j) s) (new j)))
  where
    go : (s + share B (new j) s < new j) ⊎ (new j ≤ s + share B (new j) s) → index_at B (new j - 1) - index_at B s + 1 ≡ suc (need B j (s + share B (new j) s))
    go (inl l) =
        let e : s + share B (new j) s ≡ start B (suc (index_at B s)) = full B sized (new j) s more fits l in
        let ge : suc (index_at B s) ≤ index_at B (new j - 1) = index_le B sized (new j - 1) (suc (index_at B s)) (omega arith) (omega arith) in
        let ie : index_at B (s + share B (new j) s) ≡ suc (index_at B s) = start_index B sized (s + share B (new j) s) (suc (index_at B s)) (omega arith) e in
        rw (need, lt-ltb (s + share B (new j) s) (new j) l, ie) (omega arith)
    go (inr l) =
        let e : new j ≤ start B (suc (index_at B s)) = last B sized (new j) s more fits l in
        let ie : index_at B (new j - 1) ≡ index_at B s = index_is B sized (new j - 1) (index_at B s) (omega arith) (omega (arith, (is B sized (new j) s more fits).from)) (omega arith) in
        rw (need, le-ltb (s + share B (new j) s) (new j) l, ie) (omega arith)
