-- What a growth tells, on any card and list, damaged ones too: the window stays valid; a block that it answers is below N, with room
-- in it that is erased, and the checkpoint count fell. Assumes nothing.
use mathlib.Core.Path.{◌≡◌, refl, ap, ◌∙◌}
use mathlib.Core.Logic.{◌⊎◌, inl, inr}
use mathlib.Core.Bool.{Bool, true, false}
use mathlib.Core.List.{List}
use Prim.Native.Nat.{ℕ, zero, suc, ◌+◌, ◌-◌, ◌*◌, ◌≤◌, ◌<◌}
use native.Mathlib.Nat.{min-le_left}
use native.Mathlib.Omega.{arith}
use borrow.Author.Tests.{ltb-true, ltb-false, eqb-true, eqb-false}
use lib.Dec.{ltb, eqb}
use lib.ListN.{length, drop, length-take}
use Rattle.span.specs.Words.{bytes32}
use Rattle.span.proofs.Words.{length_bytes32}
use Rattle.layout.specs.Layout.{pointers, index_at, offset_at}
use Rattle.layout.specs.Numbers.{size_max}
use Rattle.layout.specs.inner.Served.{BlockSized}
use Rattle.layout.proofs.Served.{wide}
use Rattle.layout.specs.declared.Refusal.TheVariants as refusal
use Rattle.layout.specs.declared.Refusal.{Refusal}
use Rattle.card.specs.Card.{pointer}
use Rattle.card.specs.inner.Cards.{card_with}
use Rattle.health.specs.Health.{refuses_erase}
use Rattle.device.specs.Device.{stored, wiped}
use Rattle.device.specs.inner.Bounds.{spot, Blank}
use Rattle.device.proofs.Blanks.{blank_wiped, blank_part, blank_stored}
use Rattle.files.specs.declared.Table.{Table}
use Rattle.std.specs.Prelude.{Ok, Err}
use Rattle.window.specs.declared.Lookahead.{Lookahead}
use Rattle.window.specs.Allocate.{alloc_of, Answer, Allocated}
use Rattle.window.specs.inner.Facts.{ValidWindow, scope}
use Rattle.alloc.specs.Visits.{seen_in}
use Rattle.trials.specs.Loop.{Block}
use Rattle.grow.specs.declared.Grown.{Grown}
use Rattle.grow.specs.Extend.{Growth, grown_at, GrowOut, grow_out}
use Rattle.grow.specs.inner.Grow.{part, pointers_of, link_of, spoils, grow_of}
use Rattle.grow.specs.inner.Extend.{window_alloc, extend_in, Extending}
use Rattle.grow.proofs.Links.{link_empty, link_damaged, link_copied, link_pointers, link_rest, used_fits, next_room}
use Rattle.grow.proofs.Turns.{grow_none, grow_bad, grow_kept, grow_spoiled, grow_linked}
use Rattle.grow.proofs.Takes.{Outcome, allocated, took_block, took_none, took_bad}

-- the ways of an answer that a link gives for block k, with its image: made, with erased room in the block, or -84
pub data Ends (B k : ℕ) : Growth → List ℕ → Type 0 where
  made : {off : ℕ} {img : List ℕ} → off < B → Blank B k off (B - off) img → Ends B k (grown_at k off) img
  broken : {img : List ℕ} → Ends B k (Err refusal.Damaged) img

pointers_ends : {W : Type 0} (m B N k off x cur : ℕ) (img : List ℕ) (w : W) → off < B → off ≡ 4 * (x + m) → Blank B k (4 * x) (B - 4 * x) img
    → Ends B k (pointers_of m B N k off x cur img w).answer (pointers_of m B N k off x cur img w).image
unfolding pointers_of
pointers_ends zero B N k off x cur img w h e b = made h (blank_part off (B - off) (omega arith) (omega arith) b)
pointers_ends (suc m) B N k off x cur img w h e b =
    go (ltb cur N) refl
    (pointers_ends m B N k off (suc x) (pointer B (stored B img (spot k (4 * x)) (bytes32 cur)) cur x) (stored B img (spot k (4 * x)) (bytes32 cur)) w h (omega arith)
    (blank_stored (4 * x) (bytes32 cur) (omega (arith, length_bytes32 cur)) (blank_part (4 * suc x) (B - 4 * suc x) (omega arith) (omega arith) b)))
  where
    go : (t : Bool) → ltb cur N ≡ t
        → Ends B k
        (pointers_of m B N k off (suc x) (pointer B (stored B img (spot k (4 * x)) (bytes32 cur)) cur x) (stored B img (spot k (4 * x)) (bytes32 cur)) w).answer
        (pointers_of m B N k off (suc x) (pointer B (stored B img (spot k (4 * x)) (bytes32 cur)) cur x) (stored B img (spot k (4 * x)) (bytes32 cur)) w).image
        → Ends B k (pointers_of (suc m) B N k off x cur img w).answer (pointers_of (suc m) B N k off x cur img w).image
    go true e ih = rw (pointers_of, e) ih
    go false e ih = rw (pointers_of, e) broken

part_short : (B f o n : ℕ) (img : List ℕ) → 0 + length (part B f o n img) ≤ n
unfolding part
part_short B f o n img = omega (arith, length-take n (drop (f * B + o) img), min-le_left n (length (drop (f * B + o) img)))

-- in a block that is erased
link_ends : {W : Type 0} (B N k head s : ℕ) (img : List ℕ) (w : W) → BlockSized B → s ≤ size_max → Blank B k 0 B img
    → Ends B k (link_of B N k head s img w).answer (link_of B N k head s img w).image
link_ends B N k head zero img w z h b =
    rw (link_empty B N k head img w) (made {off = 0} (omega (arith, wide z)) (blank_part 0 (B - 0) (omega arith) (omega arith) b))
link_ends B N k head (suc p) img w z h b = go (ltb head N) refl (eqb (suc (offset_at B p)) B) refl
  where
    go : (t : Bool) → ltb head N ≡ t → (f : Bool) → eqb (suc (offset_at B p)) B ≡ f
        → Ends B k (link_of B N k head (suc p) img w).answer (link_of B N k head (suc p) img w).image
    go false e f g = rw (link_damaged B N k head img w p (ltb-false head N e)) broken
    go true e true g =
        let u = eqb-true (suc (offset_at B p)) B g in
        rw (link_pointers B N k head img w p (ltb-true head N e) u)
        (pointers_ends (pointers (suc (index_at B p))) B N k (4 * pointers (suc (index_at B p))) 0 head img w (next_room z p h u) (omega arith)
        (blank_part (4 * 0) (B - 4 * 0) (omega arith) (omega arith) b))
    go true e false g =
        let u = eqb-false (suc (offset_at B p)) B g in
        let off = suc (offset_at B p) in
        let f = used_fits z p h in
        rw (link_copied B N k head img w p (ltb-true head N e) u)
        (made {off = off} (omega arith) (blank_stored 0 (part B head 0 off img) (part_short B head 0 off img) (blank_part off (B - off) (omega arith) (omega arith) b)))

-- what a growth from that count leaves and tells
pub record Grows (B N l count : ℕ) (o : GrowOut Lookahead) : Type 0 where
  pub valid : ValidWindow o.rest N l
  pub below : (k off : ℕ) → o.answer ≡ grown_at k off → k < N
  pub room : (k off : ℕ) → o.answer ≡ grown_at k off → off < B
  pub falls : (k off : ℕ) → o.answer ≡ grown_at k off → o.rest.ckpoint < count
  pub clean : (k off : ℕ) → o.answer ≡ grown_at k off → Blank B k off (B - off) o.image
  pub refused : (r : Refusal) → o.answer ≡ Err r → (r ≡ refusal.NoSpace) ⊎ (r ≡ refusal.Damaged)

nothing : {B N l count : ℕ} {o : GrowOut Lookahead} → ValidWindow o.rest N l → (r : Refusal) → (r ≡ refusal.NoSpace) ⊎ (r ≡ refusal.Damaged)
    → o.answer ≡ Err r → Grows B N l count o
nothing {o = o} g r x e =
    let never : (k off : ℕ) → o.answer ≡ grown_at k off → ⊥ = λ k off d. let z : ◌≡◌ {A = ℕ} 0 1 = cc in omega arith in
    record {
      valid = g;
      below = λ k off d. absurd (never k off d);
      room = λ k off d. absurd (never k off d);
      falls = λ k off d. absurd (never k off d);
      clean = λ k off d. absurd (never k off d);
      refused = λ q d. let i : r ≡ q = cc in rw (← i) x;
    }

fewer : {B N l c d : ℕ} {o : GrowOut Lookahead} → d ≤ c → Grows B N l d o → Grows B N l c o
fewer h g =
    record { valid = g.valid; below = g.below; room = g.room; falls = λ k off e. omega (arith, g.falls k off e); clean = g.clean; refused = g.refused }

-- a growth's answer tells its block and its offset
same_place : {k j off o : ℕ} → grown_at k off ≡ grown_at j o → (k ≡ j) × (off ≡ o)
same_place {k} {j} {off} {o} e =
    let r : ◌≡◌ {A = Grown} (record { block = k; offset = off }) (record { block = j; offset = o }) = cc in
    (ap (λ (g : Grown). g.block) r, ap (λ (g : Grown). g.offset) r)

-- a link that ended so, after an allocation
linked : {B N l count k : ℕ} {a : Growth} (img : List ℕ) (v : Lookahead) → ValidWindow v N l → k < N → v.ckpoint < count → Ends B k a img
    → Grows B N l count (grow_out a img v)
linked img v g h f broken = nothing g refusal.Damaged (inr refl) refl
linked {B} {k = k} img v g h f (made {off} r b) =
    record {
      valid = g;
      below = λ j o e. let i : k ≡ j = (same_place e).0 in omega arith;
      room = λ j o e. let i : off ≡ o = (same_place e).1 in omega arith;
      falls = λ j o e. f;
      clean = λ j o e.
          let i : k ≡ j = (same_place e).0 in
          let q : off ≡ o = (same_place e).1 in
          rw (← i, ← q) b;
      refused = λ q d. let z : ◌≡◌ {A = ℕ} 0 1 = cc in absurd (omega arith);
    }

module _ (B N l : ℕ) (health : List ℕ) (t : Table) (head s : ℕ) (z : BlockSized B) (fits : s ≤ size_max) where
  -- of every growth with that many tries
  abbrev Tries : ℕ → Type 0
  Tries m = (w : Lookahead) (img : List ℕ) → ValidWindow w N l
      → Grows B N l w.ckpoint (grow_of (window_alloc B N l t) m w health B N head s img)

  module _ (m : ℕ) (again : Tries m) (w : Lookahead) (img : List ℕ) where
    tried : (k : ℕ) (v : Lookahead) → window_alloc B N l t w img ≡ Block k v → ValidWindow v N l → k < N → v.ckpoint < w.ckpoint
        → (x : Bool) → refuses_erase health k ≡ x → (y : Bool) → spoils health N k head s ≡ y
        → Grows B N l w.ckpoint (grow_of (window_alloc B N l t) (suc m) w health B N head s img)
    tried k v e g b f true p y q =
        rw (grow_kept (window_alloc B N l t) m w v health B N head s img k e p) (fewer (omega arith) (again v img g))
    tried k v e g b f false p true q =
        rw (grow_spoiled (window_alloc B N l t) m w v health B N head s img k e p q) (fewer (omega arith) (again v (wiped B img k) g))
    tried k v e g b f false p false q =
        rw (grow_linked (window_alloc B N l t) m w v health B N head s img k e p q, link_rest B N k head s (wiped B img k) v (tt {0}))
        (linked _ v g b f (link_ends B N k head s (wiped B img k) (tt {0}) z fits (blank_wiped B k img)))

    answered : (a : Allocated) → a ≡ alloc_of (scope N l) (seen_in (card_with B N img) t) w → Outcome N l w.ckpoint a → (q : Answer) → a.answer ≡ q
        → Grows B N l w.ckpoint (grow_of (window_alloc B N l t) (suc m) w health B N head s img)
    answered a p o (Ok k) e =
        tried k a.window (took_block B N l t w img p e) o.valid (o.below k e) (o.falls k e) (refuses_erase health k) refl (spoils health N k head s) refl
    answered a p o (Err r) e =
        elim (o.refused r e) [
          | inl n ↦
              rw (grow_none (window_alloc B N l t) m w a.window health B N head s img (took_none B N l t w img p (e ∙ ap Err n)))
              (nothing o.valid refusal.NoSpace (inl refl) refl)
          | inr d ↦
              rw (grow_bad (window_alloc B N l t) m w a.window health B N head s img (took_bad B N l t w img p (e ∙ ap Err d)))
              (nothing o.valid refusal.Damaged (inr refl) refl)
        ]

  tries : (m : ℕ) → Tries m
  unfolding grow_of
  tries zero = λ w img g. nothing g refusal.NoSpace (inl refl) refl
  tries (suc m) = λ w img g.
      answered m (tries m) w img (alloc_of (scope N l) (seen_in (card_with B N img) t) w) refl (allocated N l (seen_in (card_with B N img) t) w g) (alloc_of (scope N l) (seen_in (card_with B N img) t) w).answer refl

-- one growth behind the tests
pub extend_grows : {B N l : ℕ} {health : List ℕ} {t : Table} {w : Lookahead} {s : ℕ} {img : List ℕ} (head : ℕ) → Extending B N l img health t w s
    → Grows B N l w.ckpoint (extend_in B N l health t w head s img)
unfolding extend_in
extend_grows {B} {N} {l} {health} {t} {w} {s} {img} head x =
    tries B N l health t head s x.ready.card.sized x.fits (suc w.ckpoint) w img x.ready.window
