-- The pointers of a new block, turn by turn: over any allocator's state, and as the loop of `put_pointers` meets them.
use mathlib.Core.Path.{◌≡◌, refl, sym, ap, ◌∙◌}
use mathlib.Core.Bool.{Bool, true, false}
use mathlib.Core.List.{List}
use Prim.Native.Nat.{ℕ, zero, suc, ◌+◌, ◌*◌, ◌-◌, ◌≤◌, ◌<◌}
use native.Mathlib.Numerals.{add-one}
use native.Mathlib.Omega.{arith}
use borrow.Author.Tests.{lt-ltb, le-ltb}
use lib.Dec.{ltb}
use Rattle.std.specs.Prelude.{Err}
use Rattle.layout.specs.declared.Refusal.TheVariants as refusal
use Rattle.span.specs.Words.{bytes32}
use Rattle.span.proofs.Words.{length_bytes32}
use Rattle.card.specs.Card.{pointer}
use Rattle.health.specs.Health.{refuses_program}
use Rattle.device.specs.Device.{stored}
use Rattle.device.specs.inner.Bounds.{spot, Blank}
use Rattle.device.specs.inner.Steps.{Answer, done, refused, program_of, StepGives}
use Rattle.device.proofs.Steps.{told_done, told_refused}
use Rattle.device.proofs.Blanks.{blank_part, blank_programmed}
use Rattle.grow.specs.declared.Failed.TheVariants as failed
use Rattle.grow.specs.Extend.{grown_at, grow_out}
use Rattle.grow.specs.inner.Grow.{pointers_of}
use Rattle.grow.specs.inner.Attempt.{tried_of, put_pointers}
use Rattle.grow.proofs.Spoils.{spoils_stored, spoils_empty, spoils_damaged, spoils_refused}

module _ {W : Type 0} (m B N k off x cur : ℕ) (img : List ℕ) (w : W) where
  -- all pointers are there
  pub pointers_done : m ≡ 0 → pointers_of m B N k off x cur img w ≡ grow_out (grown_at k off) img w
  unfolding pointers_of
  pointers_done e = rw e

  -- a number that is not below N is not programmed
  pub pointers_damaged : (r : ℕ) → m ≡ suc r → N ≤ cur → pointers_of m B N k off x cur img w ≡ grow_out (Err refusal.Damaged) img w
  unfolding pointers_of
  pointers_damaged r e h = rw (e, pointers_of, le-ltb cur N h)

  -- a pointer is programmed, and the next number read
  pub pointers_turn : (r cur' : ℕ) (img' : List ℕ) → m ≡ suc r → cur < N → img' ≡ stored B img (spot k (4 * x)) (bytes32 cur)
      → cur' ≡ pointer B img' cur x → pointers_of m B N k off x cur img w ≡ pointers_of r B N k off (suc x) cur' img' w
  unfolding pointers_of
  pointers_turn r cur' img' e h p q = rw (e, pointers_of, lt-ltb cur N h, q, p)

-- the allocator's state is handed on as it came, and changes nothing
pub pointers_rest : {W U : Type 0} (m B N k off x cur : ℕ) (img : List ℕ) (w : W) (v : U)
    → pointers_of m B N k off x cur img w ≡ grow_out (pointers_of m B N k off x cur img v).answer (pointers_of m B N k off x cur img v).image w
unfolding pointers_of
pointers_rest zero B N k off x cur img w v = refl
pointers_rest (suc m) B N k off x cur img w v =
    go (ltb cur N) refl
    (pointers_rest m B N k off (suc x) (pointer B (stored B img (spot k (4 * x)) (bytes32 cur)) cur x) (stored B img (spot k (4 * x)) (bytes32 cur)) w v)
  where
    go : (t : Bool) → ltb cur N ≡ t
        → pointers_of m B N k off (suc x) (pointer B (stored B img (spot k (4 * x)) (bytes32 cur)) cur x) (stored B img (spot k (4 * x)) (bytes32 cur)) w
        ≡ grow_out
        (pointers_of m B N k off (suc x) (pointer B (stored B img (spot k (4 * x)) (bytes32 cur)) cur x) (stored B img (spot k (4 * x)) (bytes32 cur)) v).answer
        (pointers_of m B N k off (suc x) (pointer B (stored B img (spot k (4 * x)) (bytes32 cur)) cur x) (stored B img (spot k (4 * x)) (bytes32 cur)) v).image
        w
        → pointers_of (suc m) B N k off x cur img w
        ≡ grow_out (pointers_of (suc m) B N k off x cur img v).answer (pointers_of (suc m) B N k off x cur img v).image w
    go true e ih = rw (pointers_of, e) ih
    go false e ih = rw (pointers_of, e)

-- ---- as the loop meets them

pub put_start : (health : List ℕ) (B N k off count cur : ℕ) (img : List ℕ)
    → put_pointers health B N k off count 0 cur img ≡ put_pointers health B N k off (count - 0) 0 cur img
put_start health B N k off count cur img = ap (λ (m : ℕ). put_pointers health B N k off m 0 cur img) (omega arith)

-- the room behind a pointer that is programmed stays erased
pub words_blank : {B k : ℕ} {img img' : List ℕ} {r : Answer} (health : List ℕ) (count x cur : ℕ) → x < count
    → StepGives (program_of health B k (4 * x) (bytes32 cur) img) r img' → Blank B k (4 * x) (4 * (count - x)) img
    → Blank B k (4 * (x + 1)) (4 * (count - (x + 1))) img'
words_blank health count x cur l g b =
    blank_programmed health (4 * x) (bytes32 cur) g (omega (arith, length_bytes32 cur))
    (blank_part (4 * (x + 1)) (4 * (count - (x + 1))) (omega arith) (omega arith) b)

module _ (health : List ℕ) (B N k off count x cur : ℕ) (img : List ℕ) where
  pub put_done : count ≤ x → put_pointers health B N k off (count - x) x cur img ≡ record { answer = tried_of (grown_at k off); image = img }
  unfolding put_pointers
  put_done h =
      let e : count - x ≡ 0 = omega arith in
      rw (put_pointers, spoils_empty health N k cur (count - x) e, pointers_done (count - x) B N k off x cur img (tt {0}) e)

  pub put_damaged : x < count → N ≤ cur → put_pointers health B N k off (count - x) x cur img ≡ record { answer = Err (failed.Refused refusal.Damaged); image = img }
  unfolding put_pointers
  put_damaged l h =
      let e : count - x ≡ suc (count - (x + 1)) = omega arith in
      rw (put_pointers, spoils_damaged health N k cur (count - x) h, pointers_damaged (count - x) B N k off x cur img (tt {0}) _ e h)

  -- a program was asked: r is the device's answer, img' the image that it left
  module _ {r : Answer} {img' : List ℕ} (l : x < count) (h : cur < N)
      (g : StepGives (program_of health B k (4 * x) (bytes32 cur) img) r img') where
    pub put_spoiled : r ≡ refused → put_pointers health B N k off (count - x) x cur img ≡ record { answer = Err failed.Spoiled; image = img' }
    unfolding put_pointers
    put_spoiled e =
        let t = told_refused (refuses_program health k) img (stored B img (spot k (4 * x)) (bytes32 cur)) (sym g.answer ∙ e) in
        let p : 0 < count - x = omega arith in
        rw (put_pointers, spoils_refused health N k cur (count - x) t.0 p h, g.image, t.1)

    pub put_turn : (cur' : ℕ) → r ≡ done → cur' ≡ pointer B img' cur x
        → put_pointers health B N k off (count - x) x cur img ≡ put_pointers health B N k off (count - (x + 1)) (x + 1) cur' img'
    unfolding put_pointers
    put_turn cur' e q =
        let t = told_done (refuses_program health k) img (stored B img (spot k (4 * x)) (bytes32 cur)) (sym g.answer ∙ e) in
        let s : count - x ≡ suc (count - (x + 1)) = omega arith in
        rw (
          put_pointers,
          spoils_stored health N k cur (count - x) t.0,
          spoils_stored health N k cur' (count - (x + 1)) t.0,
          pointers_turn (count - x) B N k off x cur img (tt {0}) (count - (x + 1)) cur' img' s h (g.image ∙ t.1) q,
          add-one x,
        )
