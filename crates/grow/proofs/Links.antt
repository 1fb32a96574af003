-- Linking an erased block, by cases: over any allocator's state, and as `link` meets them.
use mathlib.Core.Path.{◌≡◌, refl, sym, ap, ◌∙◌}
use mathlib.Core.Logic.{◌⊎◌, inl, inr}
use mathlib.Core.Bool.{Bool, true, false}
use mathlib.Core.List.{List}
use Prim.Native.Nat.{ℕ, zero, suc, ◌+◌, ◌*◌, ◌^◌, ◌≤◌, ◌<◌}
use native.Mathlib.Numerals.{add-one}
use native.Mathlib.Omega.{arith}
use borrow.Author.Tests.{lt-ltb, le-ltb, eq-eqb, ne_eqb}
use lib.Dec.{ltb, eqb}
use lib.ListN.{take, drop}
use Rattle.std.specs.Prelude.{Err}
use Rattle.layout.specs.Layout.{pointers, index_at, offset_at}
use Rattle.layout.specs.Numbers.{size_max}
use Rattle.layout.specs.inner.Served.{BlockSized, Served}
use Rattle.layout.proofs.Places.{Same, Next, next_place, offset_inside}
use Rattle.layout.proofs.Laws.{pointers_pos}
use Rattle.layout.proofs.Served.{served, index_in, index_below, pointers_fit}
use Rattle.layout.specs.declared.Refusal.TheVariants as refusal
use Rattle.health.specs.Health.{refuses_program}
use Rattle.device.specs.Device.{stored}
use Rattle.device.specs.inner.Bounds.{spot}
use Rattle.device.specs.inner.Steps.{Answer, done, refused, program_of, StepGives}
use Rattle.device.proofs.Steps.{told_done, told_refused}
use Rattle.grow.specs.declared.Failed.TheVariants as failed
use Rattle.grow.specs.Extend.{grown_at, grow_out}
use Rattle.grow.specs.inner.Attempt.{tried_of, attempt_of, put_pointers}
use Rattle.grow.specs.inner.Grow.{part, pointers_of, link_of, spoils}
use Rattle.grow.proofs.Spoils.{spoils_stored, spoils_empty, spoils_damaged, spoils_refused, spoils_some}
use Rattle.grow.proofs.Pointers.{pointers_rest}

module _ {W : Type 0} (B N k head : ℕ) (img : List ℕ) (w : W) where
  -- size 0 stops there with offset 0
  pub link_empty : link_of B N k head 0 img w ≡ grow_out (grown_at k 0) img w
  unfolding link_of
  link_empty = refl

  module _ (p : ℕ) where
    pub link_damaged : N ≤ head → link_of B N k head (suc p) img w ≡ grow_out (Err refusal.Damaged) img w
    unfolding link_of
    link_damaged h = rw (link_of, le-ltb head N h)

    -- an incomplete last block has its bytes copied
    pub link_copied : head < N → (suc (offset_at B p) ≡ B → ⊥)
        → link_of B N k head (suc p) img w
        ≡ grow_out (grown_at k (suc (offset_at B p))) (stored B img (spot k 0) (part B head 0 (suc (offset_at B p)) img)) w
    unfolding link_of
    link_copied h n = rw (link_of, lt-ltb head N h, ne_eqb (suc (offset_at B p)) B n)

    -- a full one gets pointers
    pub link_pointers : head < N → suc (offset_at B p) ≡ B
        → link_of B N k head (suc p) img w
        ≡ pointers_of (pointers (suc (index_at B p))) B N k (4 * pointers (suc (index_at B p))) 0 head img w
    unfolding link_of
    link_pointers h e = rw (link_of, lt-ltb head N h, eq-eqb (suc (offset_at B p)) B e)

-- the code's count of pointers of the next index
pub next_count : (B p index count : ℕ) → index ≡ index_at B p → count ≡ pointers (index + 1) → count ≡ pointers (suc (index_at B p))
next_count B p index count i u = u ∙ ap pointers (add-one index ∙ ap suc i)

-- the allocator's state is handed on as it came, and changes nothing
pub link_rest : {W U : Type 0} (B N k head s : ℕ) (img : List ℕ) (w : W) (v : U)
    → link_of B N k head s img w ≡ grow_out (link_of B N k head s img v).answer (link_of B N k head s img v).image w
unfolding link_of
link_rest B N k head zero img w v = refl
link_rest B N k head (suc p) img w v = go (ltb head N) refl (eqb (suc (offset_at B p)) B) refl
  where
    go : (t : Bool) → ltb head N ≡ t → (f : Bool) → eqb (suc (offset_at B p)) B ≡ f
        → link_of B N k head (suc p) img w
        ≡ grow_out (link_of B N k head (suc p) img v).answer (link_of B N k head (suc p) img v).image w
    go true e true g =
        rw (link_of, e, g) (pointers_rest (pointers (suc (index_at B p))) B N k (4 * pointers (suc (index_at B p))) 0 head img w v)
    go true e false g = rw (link_of, e, g)
    go false e f g = rw (link_of, e)

-- ---- the numbers of a list's last byte, at position p

module _ {B : ℕ} (z : BlockSized B) (p : ℕ) (w : suc p ≤ size_max) where
  last : Served B p
  last = served z (omega arith)

  next : Served B (suc p)
  next = served z (omega arith)

  pub used_fits : suc (offset_at B p) ≤ B
  used_fits = offset_inside B p (index_in last)

  pub index_fits : suc (index_at B p) < 2 ^ 32
  index_fits = omega (arith, index_below last)

  -- behind a full last block the next byte goes to the next index, whose pointers fit
  pub full_next : suc (offset_at B p) ≡ B → index_at B (suc p) ≡ suc (index_at B p)
  full_next e = go (next_place B p (index_in last))
    where
      go : Same B p ⊎ Next B p → index_at B (suc p) ≡ suc (index_at B p)
      go (inl s) = absurd (omega (arith, s.offset, offset_inside B (suc p) (index_in next)))
      go (inr n) = n.index

  pub next_room : suc (offset_at B p) ≡ B → 4 * pointers (suc (index_at B p)) < B
  next_room e = rw (full_next e) at (pointers_fit next)

  pub next_fits : (index count : ℕ) → index ≡ index_at B p → count ≡ pointers (index + 1) → suc (offset_at B p) ≡ B → 4 * count ≤ B
  next_fits index count i u e = omega (arith, next_room e, next_count B p index count i u)

-- ---- as `link` meets them

module _ (health : List ℕ) (B N k head s : ℕ) (img : List ℕ) where
  pub attempt_empty : s ≡ 0 → attempt_of health B N k head s img ≡ record { answer = tried_of (grown_at k 0); image = img }
  unfolding attempt_of link_of
  attempt_empty e = rw (attempt_of, spoils_empty health N k head s e, e)

  module _ (p : ℕ) (e : s ≡ suc p) where
    pub attempt_damaged : N ≤ head → attempt_of health B N k head s img ≡ record { answer = Err (failed.Refused refusal.Damaged); image = img }
    unfolding attempt_of
    attempt_damaged h = rw (attempt_of, spoils_damaged health N k head s h, e, link_damaged B N k head img (tt {0}) p h)

    -- a copy was asked: r is the device's answer, img' the image that it left
    module _ {r : Answer} {img' : List ℕ} (used : ℕ) (h : head < N)
        (g : StepGives (program_of health B k 0 (take used (drop (head * B + 0) img)) img) r img') where
      pub attempt_spoiled : r ≡ refused → attempt_of health B N k head s img ≡ record { answer = Err failed.Spoiled; image = img' }
      unfolding attempt_of
      attempt_spoiled q =
          let t = told_refused (refuses_program health k) img (stored B img (spot k 0) (take used (drop (head * B + 0) img))) (sym g.answer ∙ q) in
          let l : 0 < s = omega arith in
          rw (attempt_of, spoils_refused health N k head s t.0 l h, g.image, t.1)

      pub attempt_copied : used ≡ suc (offset_at B p) → (used ≡ B → ⊥) → r ≡ done
          → attempt_of health B N k head s img ≡ record { answer = tried_of (grown_at k used); image = img' }
      unfolding attempt_of part
      attempt_copied u n q =
          let t = told_done (refuses_program health k) img (stored B img (spot k 0) (take used (drop (head * B + 0) img))) (sym g.answer ∙ q) in
          rw (
            attempt_of,
            spoils_stored health N k head s t.0,
            e,
            link_copied B N k head img (tt {0}) p h (rw u at n),
            ← u,
            g.image,
            t.1,
          )

    pub attempt_pointers : (index count : ℕ) → head < N → suc (offset_at B p) ≡ B → index ≡ index_at B p → count ≡ pointers (index + 1)
        → attempt_of health B N k head s img ≡ put_pointers health B N k (4 * count) count 0 head img
    unfolding attempt_of put_pointers
    attempt_pointers index count h f i u =
        let c : count ≡ pointers (suc (index_at B p)) = next_count B p index count i u in
        let l : 0 < count = omega (arith, u, pointers_pos (index + 1) (λ n. omega arith)) in
        let t : spoils health N k head s ≡ spoils health N k head count = spoils_some health N k head s count (omega arith) l in
        rw (attempt_of, put_pointers, t, e, link_pointers B N k head img (tt {0}) p h f, ← c)
