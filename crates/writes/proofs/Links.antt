-- A block that was just erased becomes the last of a list: empty, copied, or behind a full one. Assumes nothing.
use mathlib.Core.Path.{◌≡◌, refl, sym, ap, ◌∙◌, subst}
use mathlib.Core.Logic.{◌≢◌, ◌⊎◌, inl, inr}
use mathlib.Core.List.{List}
use Prim.Native.Nat.{ℕ, zero, suc, ◌+◌, ◌-◌, ◌*◌, ◌^◌, ◌≤◌, ◌<◌}
use native.Mathlib.Nat.{zero-add, add-suc, suc-add}
use native.Mathlib.Omega.{arith}
use borrow.Author.Tests.{lt-ltb, eq-eqb, ne_eqb}
use lib.ListN.{length, get_or}
use lib.Pow.{pow_pos}
use Rattle.span.specs.Words.{bytes32}
use Rattle.span.proofs.Words.{length_bytes32}
use Rattle.layout.specs.Layout.{pointers, start, index_at, offset_at}
use Rattle.layout.proofs.Laws.{pointers_zero}
use Rattle.layout.proofs.Places.{offset_inside, offset_past, offset_of, next_place, Same, Next}
use Rattle.layout.proofs.InBlock.{InBlock}
use Rattle.card.specs.Card.{pointer}
use Rattle.card.specs.inner.Cards.{CardFacts}
use Rattle.device.specs.Device.{stored}
use Rattle.device.specs.inner.Bounds.{spot}
use Rattle.grow.specs.Extend.{grown_at, GrowOut}
use Rattle.grow.specs.inner.Grow.{part, pointers_of, link_of}
use Rattle.writes.proofs.Cells.{stored_card, stored_other, stored_out, stored_in_lem, part_length, part_at, pointer_same, pointer_stored, cell}
use Rattle.writes.proofs.Index.{in_block, roomy, start_lt, offset_is, pow_le, pow_next}
use Rattle.writes.proofs.Holds.{either, moves, Holds}
use Rattle.writes.proofs.Grown.{Made}

-- what linking block k to a list of s bytes leaves: k is the block of the next position, whose offset is answered; the allocator is untouched
pub record Linked {W : Type 0} (B N : ℕ) (ks : W) (img : List ℕ) (f : ℕ → ℕ) (k s : ℕ) (o : GrowOut W) : Type 0 where
  pub answer : o.answer ≡ grown_at k (offset_at B s)
  pub rest : o.rest ≡ ks
  pub card : CardFacts B N (length o.image)
  pub made : Made B img o.image f k (index_at B s) s

record Pointed {W : Type 0} (B N : ℕ) (ks : W) (img : List ℕ) (f : ℕ → ℕ) (k i x m off : ℕ) (o : GrowOut W) : Type 0 where
  answer : o.answer ≡ grown_at k off
  rest : o.rest ≡ ks
  card : CardFacts B N (length o.image)
  others : (k' o' : ℕ) → k ≢ k' → o' < B → cell B o.image k' o' ≡ cell B img k' o'
  before : (o' : ℕ) → o' < 4 * x → cell B o.image k o' ≡ cell B img k o'
  named : (y : ℕ) → x ≤ y → y < x + m → pointer B o.image k y ≡ f (i - 2 ^ y)

pub at_zero : (B : ℕ) → index_at B 0 ≡ 0
unfolding index_at
at_zero B = refl

module _ {W : Type 0} (B N : ℕ) (ks : W) (f : ℕ → ℕ) (k s : ℕ) (low : k < N) (free : (j : ℕ) → start B j < s → k ≢ f j) where
  -- the pointers of a new block: each is the block 2 ^ y below, read from the block just named
  pointed : (m i x cur off : ℕ) (img : List ℕ) → CardFacts B N (length img) → Holds B N img f s → start B i ≤ s → x + m ≡ pointers i → (0 < m → cur ≡ f (i - 2 ^ x))
      → Pointed B N ks img f k i x m off (pointers_of m B N k off x cur img ks)
  unfolding pointers_of
  pointed zero i x cur off img c h st e cu = record {
    answer = refl;
    rest = refl;
    card = c;
    others = λ k' o' ne l. refl;
    before = λ o' l. refl;
    named = λ y l g. absurd (omega arith);
  }
  pointed (suc m) i x cur off img c h st e cu =
      let sized = c.sized in
      let xs : x < pointers i = omega arith in
      let le = pow_le i x xs in
      let pp = pow_pos x in
      let rm = roomy B sized s i h.short st in
      let us : start B (i - 2 ^ x) < s = omega (arith, start_lt B sized s (i - 2 ^ x) i h.short st (omega arith)) in
      let ce : cur ≡ f (i - 2 ^ x) = cu (omega arith) in
      let cl : cur < N = rw ce (h.low (i - 2 ^ x) us) in
      let img₁ = stored B img (spot k (4 * x)) (bytes32 cur) in
      let fit : 4 * x + 4 ≤ B = omega arith in
      let oth : (k' o' : ℕ) → k ≢ k' → o' < B → cell B img₁ k' o' ≡ cell B img k' o' = stored_other B k (4 * x) (bytes32 cur) img (omega (arith, length_bytes32 cur)) in
      let c₁ : CardFacts B N (length img₁) = stored_card B k (4 * x) (bytes32 cur) img N c in
      let h₁ : Holds B N img₁ f s = moves B N sized img img₁ f s h (λ j o' u l. oth (f j) o' (free j u) l) in
      let nx : 0 < m → pointer B img₁ cur x ≡ f (i - 2 ^ suc x) = λ p.
      (let n = pow_next i x (omega arith) in
      ap (λ (z : ℕ). pointer B img₁ z x) ce ∙ h₁.points (i - 2 ^ x) x us n.0 ∙ ap f n.1) in
      let r = pointed m i (suc x) (pointer B img₁ cur x) off img₁ c₁ h₁ st (omega (arith, add-suc x m, suc-add x m)) nx in
      rw (pointers_of, lt-ltb cur N cl) (record {
        answer = r.answer;
        rest = r.rest;
        card = r.card;
        others = λ k' o' ne l. r.others k' o' ne l ∙ oth k' o' ne l;
        before = λ o' l. r.before o' (omega arith) ∙ stored_out B k (4 * x) (bytes32 cur) img o' (inl l);
        named = λ y l g. step m i x off img₁ _ r fit (pointer_stored B N k x cur img c low fit cl ∙ ce) y l g (either x y);
      })
    where
      step : (m i x off : ℕ) (img₁ : List ℕ) (o : GrowOut W) → Pointed B N ks img₁ f k i (suc x) m off o → 4 * x + 4 ≤ B
          → pointer B img₁ k x ≡ f (i - 2 ^ x) → (y : ℕ) → x ≤ y → y < x + suc m → (x < y) ⊎ (y ≤ x) → pointer B o.image k y ≡ f (i - 2 ^ y)
      step m i x off img₁ o r fit e y l g (inl p) = r.named y p (omega (arith, add-suc x m, suc-add x m))
      step m i x off img₁ o r fit e y l g (inr p) =
          let q : x ≡ y = omega arith in
          subst (λ (z : ℕ). pointer B o.image k z ≡ f (i - 2 ^ z)) q
          (pointer_same B img₁ o.image k k x fit (λ o' a b. r.before o' (omega arith)) ∙ e)

  -- n bytes copied from another block
  copied : (a n : ℕ) (img : List ℕ) → CardFacts B N (length img) → a < N → n ≤ B → (o : ℕ) → o < n → cell B (stored B img (spot k 0) (part B a 0 n img)) k o ≡ cell B img a o
  copied a n img c la ln o l =
      let le = part_length B N a 0 n img c la (omega arith) in
      let i : cell B (stored B img (spot k 0) (part B a 0 n img)) k (0 + o) ≡ get_or (part B a 0 n img) o 0 =
      stored_in_lem B k 0 (part B a 0 n img) img N c low (omega arith) o (omega arith) in
      (rw (zero-add o) at i) ∙ part_at B a 0 n img o l ∙ ap (cell B img a) (zero-add o)

  module _ (head : ℕ) (img : List ℕ) (c : CardFacts B N (length img)) (h : Holds B N img f s) where
    link_empty : s ≡ 0 → (o : GrowOut W) → o.answer ≡ grown_at k 0 → o.rest ≡ ks → o.image ≡ img → Linked B N ks img f k s o
    link_empty z o a r e =
        let i0 : index_at B s ≡ 0 = index_zero s z in
        record {
          answer = a ∙ ap (grown_at k) (sym (offset_of B s 0 i0 ∙ omega (arith, pointers_zero)));
          rest = r;
          card = rw e c;
          made = record {
            others = λ k' o' ne l. rw e;
            heads = λ x g. absurd (omega (arith, pointers_zero, subst (λ (j : ℕ). x < pointers j) i0 g));
            front = λ p l g. absurd (omega arith);
          };
        }
      where
        index_zero : (s : ℕ) → s ≡ 0 → index_at B s ≡ 0
        index_zero s z = rw z (at_zero B)

    -- an incomplete last block is copied
    link_copied : (p : ℕ) → s ≡ suc p → f (index_at B p) ≡ head → Same B p → (o : GrowOut W) → o.answer ≡ grown_at k (suc (offset_at B p)) → o.rest ≡ ks
        → o.image ≡ stored B img (spot k 0) (part B head 0 (suc (offset_at B p)) img) → Linked B N ks img f k s o
    link_copied p z t w o a r e =
        let sized = c.sized in
        let n = suc (offset_at B p) in
        let ix : index_at B s ≡ index_at B p = ap (index_at B) z ∙ w.index in
        let os : offset_at B s ≡ n = ap (offset_at B) z ∙ w.offset in
        let ip = in_block B sized p (omega (arith, h.short)) in
        let is = in_block B sized s h.short in
        let nb : n ≤ B = omega (arith, offset_inside B p ip) in
        let us : start B (index_at B p) < s = omega (arith, ip.from) in
        let hl : head < N = rw (← t) (h.low (index_at B p) us) in
        let cp : (o' : ℕ) → o' < n → cell B o.image k o' ≡ cell B img (f (index_at B p)) o' = λ o' l. rw (e, t) (copied head n img c hl nb o' l) in
        let ps = offset_past B p in
        record {
          answer = a ∙ ap (grown_at k) (sym os);
          rest = r;
          card = rw e (stored_card B k 0 (part B head 0 n img) img N c);
          made = record {
            others = λ k' o' ne l. rw e (stored_other B k 0 (part B head 0 n img) img (omega (arith, part_length B N head 0 n img c hl (omega arith))) k' o' ne l);
            heads = λ x g.
                let g' : x < pointers (index_at B p) = rw ix at g in
                rw ix (pointer_same B img o.image (f (index_at B p)) k x (omega (arith, ps, nb)) (λ o' u v. cp o' (omega arith)) ∙ h.points (index_at B p) x us g');
            front = λ q l g.
                rw ix (cp (offset_at B q)
                (let l' : start B (index_at B p) ≤ q = rw ix at l in
                let oq = offset_is B sized q (index_at B p) (omega (arith, h.short)) l' (omega (arith, ip.until)) in
                omega (arith, ip.until, oq, offset_is B sized p (index_at B p) (omega (arith, h.short)) ip.from ip.until)));
          };
        }

    -- a full one is followed by a block with pointers
    link_full : (p off : ℕ) → s ≡ suc p → f (index_at B p) ≡ head → Next B p → off ≡ 4 * pointers (suc (index_at B p)) → (o : GrowOut W)
        → o ≡ pointers_of (pointers (suc (index_at B p))) B N k off 0 head img ks → Linked B N ks img f k s o
    link_full p off z t w eo o e =
        let sized = c.sized in
        let i = suc (index_at B p) in
        let ix : index_at B s ≡ i = ap (index_at B) z ∙ w.index in
        let is = in_block B sized s h.short in
        let ip = in_block B sized p (omega (arith, h.short)) in
        let st : start B i ≤ s = subst (λ (j : ℕ). start B j ≤ s) ix is.from in
        let cu : 0 < pointers i → head ≡ f (i - 2 ^ 0) = λ l. (sym t ∙ ap f (omega arith)) in
        let r = pointed (pointers i) i 0 head off img c h st (zero-add (pointers i)) cu in
        rw e (record {
          answer = r.answer ∙ ap (grown_at k) (eo ∙ sym (ap (offset_at B) z ∙ w.offset));
          rest = r.rest;
          card = r.card;
          made = record {
            others = r.others;
            heads = λ x g. rw ix (r.named x (omega arith) (rw (zero-add (pointers i)) (rw ix at g)));
            front = λ q l g. absurd (let l' : start B i ≤ q = rw ix at l in omega (arith, ip.until));
          };
        })

  -- An erased block that is none of the list's is linked to it: size 0, an incomplete last block and a full one alike.
  pub linked : (head : ℕ) (img : List ℕ) → CardFacts B N (length img) → Holds B N img f s → (0 < s → f (index_at B (s - 1)) ≡ head)
      → (n : ℕ) → s ≡ n → Linked B N ks img f k s (link_of B N k head n img ks)
  unfolding link_of
  linked head img c h t zero z = link_empty head img c h z _ refl refl refl
  linked head img c h t (suc p) z = go (next_place B p ip)
    where
      ip : InBlock B p (index_at B p)
      ip = in_block B c.sized p (omega (arith, h.short))

      tp : f (index_at B p) ≡ head
      tp = let e : s - 1 ≡ p = omega arith in rw e at (t (omega arith))

      hl : head < N
      hl = rw (← tp) (h.low (index_at B p) (omega (arith, ip.from)))

      go : Same B p ⊎ Next B p → Linked B N ks img f k s (link_of B N k head (suc p) img ks)
      go (inl w) =
          let ne : suc (offset_at B p) ≢ B = λ q. omega (arith, q, w.offset, offset_inside B (suc p) (in_block B c.sized (suc p) (omega (arith, h.short)))) in
          rw (link_of, lt-ltb head N hl, ne_eqb (suc (offset_at B p)) B ne) (link_copied head img c h p z tp w _ refl refl refl)
      go (inr w) =
          rw (link_of, lt-ltb head N hl, eq-eqb (suc (offset_at B p)) B w.full) (link_full head img c h p (4 * pointers (suc (index_at B p))) z tp w refl _ refl)
