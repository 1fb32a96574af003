-- How many blocks a growth and a write take on any list, sound or not: only blocks that the allocator hands out are touched, so its laws hold throughout. Assumes nothing.
use mathlib.Core.Path.{◌≡◌, refl, sym, ap, ◌∙◌}
use mathlib.Core.Logic.{◌≢◌, ◌⊎◌, inl, inr}
use mathlib.Core.Bool.{Bool, true, false, and-eq-true_iff}
use mathlib.Core.List.{List}
use Prim.Native.Nat.{ℕ, zero, suc, ◌+◌, ◌*◌, ◌^◌, ◌≤◌, ◌<◌}
use native.Mathlib.Nat.{add-suc, suc-add, zero-add}
use native.Mathlib.Omega.{arith}
use borrow.Author.Tests.{eq-eqb, ne_eqb}
use lib.Dec.{ltb}
use lib.ListN.{length, drop, length-take}
use Rattle.std.specs.Prelude.{Err}
use Rattle.span.specs.Words.{bytes32}
use Rattle.span.proofs.Words.{length_bytes32}
use Rattle.layout.specs.Layout.{pointers, start, index_at, offset_at}
use Rattle.layout.proofs.Laws.{pointers_zero}
use Rattle.layout.proofs.Places.{offset_inside, offset_of, next_place, Same, Next}
use Rattle.layout.proofs.InBlock.{InBlock}
use Rattle.layout.specs.declared.Refusal.TheVariants as refusal
use Rattle.card.specs.Card.{pointer}
use Rattle.card.specs.inner.Cards.{CardFacts}
use Rattle.health.specs.Health.{refuses_erase, refuses_program}
use Rattle.device.specs.Device.{stored, wiped}
use Rattle.device.specs.inner.Bounds.{spot}
use Rattle.trials.specs.Loop.{Took, Block, None, Bad}
use Rattle.grow.specs.Extend.{grown_at, GrowOut}
use Rattle.grow.specs.inner.Grow.{part, pointers_of, link_of, spoils, grow_of}
use Rattle.writes.proofs.Cells.{stored_card, stored_other, cell}
use Rattle.writes.proofs.Index.{in_block, roomy}
use Rattle.writes.proofs.Grows.{wiped_card, wiped_other}
use Rattle.writes.proofs.Links.{at_zero}
use Rattle.writes.proofs.Allocators.{Drawn, Counter}

-- only block k of the card changes
pub record Only (B N k : ℕ) (img img' : List ℕ) : Type 0 where
  pub card : CardFacts B N (length img')
  pub others : (k' o' : ℕ) → k ≢ k' → o' < B → cell B img' k' o' ≡ cell B img k' o'

pub part_short : (B f o n : ℕ) (img : List ℕ) → length (part B f o n img) ≤ n
unfolding part
part_short B f o n img = rw (length-take n (drop (f * B + o) img)) (omega arith)

module _ (B N k : ℕ) where
  none_of : (img : List ℕ) → CardFacts B N (length img) → Only B N k img img
  none_of img c = record { card = c; others = λ k' o' ne l. refl }

  pub store_only : (o : ℕ) (vs img : List ℕ) → CardFacts B N (length img) → o + length vs ≤ B → Only B N k img (stored B img (spot k o) vs)
  store_only o vs img c r = record { card = stored_card B k o vs img N c; others = stored_other B k o vs img r }

  pub both : {img img₁ img₂ : List ℕ} → Only B N k img img₁ → Only B N k img₁ img₂ → Only B N k img img₂
  both a b = record { card = b.card; others = λ k' o' ne l. b.others k' o' ne l ∙ a.others k' o' ne l }

-- ---- one try

-- what a try with block k leaves: it is grown at the offset of position s, or the list is damaged
record Tried {W : Type 0} (B N : ℕ) (ks : W) (img : List ℕ) (k off : ℕ) (o : GrowOut W) : Type 0 where
  only : Only B N k img o.image
  rest : o.rest ≡ ks
  answer : (o.answer ≡ grown_at k off) ⊎ (o.answer ≡ Err refusal.Damaged)

module _ {W : Type 0} (B N : ℕ) (ks : W) (k : ℕ) where
  points : (m off x cur : ℕ) (img : List ℕ) → CardFacts B N (length img) → 4 * (x + m) ≤ B → Tried B N ks img k off (pointers_of m B N k off x cur img ks)
  unfolding pointers_of
  points zero off x cur img c r = record { only = none_of B N k img c; rest = refl; answer = inl refl }
  points (suc m) off x cur img c r = go (ltb cur N) refl (points m off (suc x))
    where
      go : (t : Bool) → ltb cur N ≡ t
          → ((cur : ℕ) (img : List ℕ) → CardFacts B N (length img) → 4 * (suc x + m) ≤ B → Tried B N ks img k off (pointers_of m B N k off (suc x) cur img ks))
          → Tried B N ks img k off (pointers_of (suc m) B N k off x cur img ks)
      go false e ih = rw (pointers_of, e) (record { only = none_of B N k img c; rest = refl; answer = inr refl })
      go true e ih =
          let img₁ = stored B img (spot k (4 * x)) (bytes32 cur) in
          let a = store_only B N k (4 * x) (bytes32 cur) img c (omega (arith, length_bytes32 cur)) in
          let t = ih (pointer B img₁ cur x) img₁ a.card (omega (arith, suc-add x m, add-suc x m)) in
          rw (pointers_of, e) (record { only = both B N k a t.only; rest = t.rest; answer = t.answer })

  links : (head : ℕ) (img : List ℕ) → CardFacts B N (length img) → (s : ℕ) → s < 2 ^ 32 → Tried B N ks img k (offset_at B s) (link_of B N k head s img ks)
  unfolding link_of
  links head img c zero l =
      record { only = none_of B N k img c; rest = refl; answer = inl (ap (grown_at k) (sym (offset_of B 0 0 (at_zero B) ∙ omega (arith, pointers_zero)))) }
  links head img c (suc p) l = go (ltb head N) refl (next_place B p ip)
    where
      ip : InBlock B p (index_at B p)
      ip = in_block B c.sized p (omega arith)

      go : (t : Bool) → ltb head N ≡ t → Same B p ⊎ Next B p → Tried B N ks img k (offset_at B (suc p)) (link_of B N k head (suc p) img ks)
      go false e w = rw (link_of, e) (record { only = none_of B N k img c; rest = refl; answer = inr refl })
      go true e (inl w) =
          let ne : suc (offset_at B p) ≢ B = λ q. omega (arith, q, w.offset, offset_inside B (suc p) (in_block B c.sized (suc p) l)) in
          rw (link_of, e, ne_eqb (suc (offset_at B p)) B ne)
          (record {
            only = store_only B N k 0 (part B head 0 (suc (offset_at B p)) img) img c (omega (arith, part_short B head 0 (suc (offset_at B p)) img, offset_inside B p ip));
            rest = refl;
            answer = inl (ap (grown_at k) (sym w.offset));
          })
      go true e (inr w) =
          let i = suc (index_at B p) in
          let is = in_block B c.sized (suc p) l in
          let st : start B i ≤ suc p = rw w.index at is.from in
          let r = roomy B c.sized (suc p) i l st in
          let t = points (pointers i) (4 * pointers i) 0 head img c (omega (arith, zero-add (pointers i))) in
          rw (link_of, e, eq-eqb (suc (offset_at B p)) B w.full, w.offset) t

-- ---- over an allocator

-- a block that spoils a growth refuses its first program
spoilt_two : (health : List ℕ) (N k head s : ℕ) → spoils health N k head s ≡ true → refuses_program health k ≡ true
unfolding spoils
spoilt_two health N k head s q = ((and-eq-true_iff _ _).0 ((and-eq-true_iff _ _).0 q).0).0

module _ {W : Type 0} (B N : ℕ) (health : List ℕ) (tries : W → ℕ) (alloc : W → List ℕ → Took W)
    (L : ℕ → Type 0) (Ok : W → List ℕ → Type 0) (goods : W → ℕ) (End : W → List ℕ → Type 0)
    (al : Counter B N health tries alloc L Ok goods End) where
  -- a block was grown, which is none of L
  pub record Gets (w : W) (s k : ℕ) (o : GrowOut W) : Type 0 where
    pub answer : o.answer ≡ grown_at k (offset_at B s)
    pub low : k < N
    pub mine : (k' : ℕ) → L k' → k ≢ k'
    pub card : CardFacts B N (length o.image)
    pub ok : Ok o.rest o.image
    pub fewer : tries o.rest < tries w
    pub good : refuses_program health k ≡ false → goods w ≡ suc (goods o.rest)
    pub spoilt : refuses_program health k ≡ true → goods w ≡ goods o.rest

  -- how a growth ends, on any list
  pub data Grew (m : ℕ) (w : W) (s : ℕ) (o : GrowOut W) : Type 0 where
    hurt : o.answer ≡ Err refusal.Damaged → Grew m w s o
    none : o.answer ≡ Err refusal.NoSpace → (tries w < m → (goods w ≡ 0) × End o.rest o.image) → Grew m w s o
    gets : (k : ℕ) → Gets w s k o → Grew m w s o

  -- a block that was passed
  later : (m k s : ℕ) (w w' : W) (img : List ℕ) (o : GrowOut W) → Drawn N health tries L Ok goods w w' img k → goods w ≡ goods w'
      → Grew m w' s o → Grew (suc m) w s o
  later m k s w w' img o t ge (hurt a) = hurt a
  later m k s w w' img o t ge (none a x) = none a (λ l. let y = x (omega (arith, t.fewer)) in (ge ∙ y.0, y.1))
  later m k s w w' img o t ge (gets k' g) =
      gets k' (record {
        answer = g.answer;
        low = g.low;
        mine = g.mine;
        card = g.card;
        ok = g.ok;
        fewer = omega (arith, g.fewer, t.fewer);
        good = λ q. ge ∙ g.good q;
        spoilt = λ q. ge ∙ g.spoilt q;
      })

  module _ (head s : ℕ) (short : s < 2 ^ 32) where
    pub grew : (m : ℕ) (w : W) (img : List ℕ) → CardFacts B N (length img) → Ok w img → Grew m w s (grow_of alloc m w health B N head s img)
    unfolding grow_of
    grew zero w img c ok = none refl (λ l. absurd (omega arith))
    grew (suc m) w img c ok = by (alloc w img) refl (grew m)
      where
        by : (a : Took W) → alloc w img ≡ a
            → ((w : W) (img : List ℕ) → CardFacts B N (length img) → Ok w img → Grew m w s (grow_of alloc m w health B N head s img))
            → Grew (suc m) w s (grow_of alloc (suc m) w health B N head s img)
        by (None w') e ih = rw (grow_of, e) (none refl (λ l. al.none w w' img ok e))
        by (Bad w') e ih = rw (grow_of, e) (hurt refl)
        by (Block k w') e ih = step (refuses_erase health k) refl (spoils health N k head s) refl
          where
            tk : Drawn N health tries L Ok goods w w' img k
            tk = al.taken w w' img k ok e

            wo : Only B N k img (wiped B img k)
            wo = record { card = wiped_card B k img N c; others = wiped_other B k img }

            -- an image on which only block k changed
            moved : (img' : List ℕ) → Only B N k img img' → Ok w' img'
            moved img' a = al.frame w' img img' tk.ok a.card (λ k' o' u l. a.others k' o' (tk.new k' u) l)

            last : refuses_erase health k ≡ false → (o : GrowOut W) → Tried B N w' (wiped B img k) k (offset_at B s) o → Grew (suc m) w s o
            last q o t = end t.answer
              where
                end : (o.answer ≡ grown_at k (offset_at B s)) ⊎ (o.answer ≡ Err refusal.Damaged) → Grew (suc m) w s o
                end (inr a) = hurt a
                end (inl a) =
                    gets k (record {
                      answer = a;
                      low = tk.low;
                      mine = tk.new;
                      card = t.only.card;
                      ok = rw t.rest (moved o.image (both B N k wo t.only));
                      fewer = rw t.rest tk.fewer;
                      good = λ y. rw t.rest (tk.good q y);
                      spoilt = λ y. rw t.rest (tk.spoilt q y);
                    })

            step : (x : Bool) → refuses_erase health k ≡ x → (y : Bool) → spoils health N k head s ≡ y
                → Grew (suc m) w s (grow_of alloc (suc m) w health B N head s img)
            step true q y r = rw (grow_of, e, q) (later m k s w w' img _ tk (tk.refused q) (ih w' img c tk.ok))
            step false q true r =
                rw (grow_of, e, q, r)
                (later m k s w w' img _ tk (tk.spoilt q (spoilt_two health N k head s r)) (ih w' (wiped B img k) wo.card (moved (wiped B img k) wo)))
            step false q false r = rw (grow_of, e, q, r) (last q _ (links B N w' k head (wiped B img k) wo.card s short))
