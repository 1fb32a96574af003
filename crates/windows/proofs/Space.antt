-- -28 exactly, from any window. Assumes nothing.
use mathlib.Core.Path.{◌≡◌, refl, ap, ◌∙◌, sym}
use mathlib.Core.Bool.{Bool, true, false, ◌&&◌, ◌||◌, and-eq-true_iff, and-false, or-false}
use mathlib.Core.List.{List, [], ◌∷◌}
use Prim.Native.Nat.{ℕ, suc, ◌+◌, ◌-◌, ◌%◌, ◌≤◌, ◌<◌}
use native.Mathlib.Nat.{mod-lt, mod-add-mod, add-mod_right}
use native.Mathlib.Omega.{arith}
use borrow.Author.Tests.{le-leb, lt-leb, leb-true, lt-ltb, le-ltb, ltb-true}
use lib.Dec.{leb, ltb}
use Rattle.layout.specs.declared.Refusal.TheVariants as refusal
use Rattle.span.specs.Members.{has, bit_in}
use Rattle.std.specs.Prelude.{Ok, Err}
use Rattle.window.specs.declared.Lookahead.{Lookahead}
use Rattle.window.specs.Allocate.{alloc_of, Answer}
use Rattle.window.specs.Scan.{Seen, offset_in}
use Rattle.window.specs.Value.{checkpoint_of, fresh_of}
use Rattle.window.specs.inner.Facts.{ValidWindow, GoodScope, scope}
use Rattle.window.proofs.Cases.{ltb_cases, no_both}
use Rattle.window.proofs.Kept.{checkpoint_valid, fresh_valid}
use Rattle.windows.specs.Space.{left_in, used_for, marked_in, good_unused}
use Rattle.windows.proofs.Views.{Lists, On, Shows, View, bad, exactly, full, handed, is_block, CleanWindow}
use Rattle.windows.proofs.Asking.{Knows, ask_of, bit, good_in, spare, unused_from, ExactCall, SpentWindow, good_unlisted}
use Rattle.windows.proofs.Answers.{block_eq, not_block, not_damaged, not_full}
use Rattle.windows.proofs.Circle.{block_offset, offset_block}
use Rattle.windows.proofs.Exact.{view, asked, full_none, good_cons, good_nil, handed_first, spent}
use Rattle.windows.proofs.Has.{or_right}
use Rattle.windows.proofs.Rotate.{tally_same, whole_circle}

-- ---- what is used, from a window

-- the block at offset o, inside what is left and outside
used_inside : (n : ℕ) (listed : List ℕ) (w : Lookahead) (b o : ℕ) → offset_in n w b ≡ o → w.next ≤ o → o < w.size → bit_in w.map o ≡ used_for n listed w b
unfolding used_for
used_inside n listed w b o e lo hi = rw (used_for, e, le-leb w.next o lo, lt-ltb o w.size hi) (ap (λ (x : ℕ). bit_in w.map x) (sym e))

pub used_outside : (n : ℕ) (listed : List ℕ) (w : Lookahead) (b : ℕ) → left_in n w b ≡ false → has listed b ≡ used_for n listed w b
unfolding used_for
used_outside n listed w b e = rw (used_for, e)

-- a place beyond what is left of a window is outside it
beyond : (n l : ℕ) (w : Lookahead) (k : ℕ) → ValidWindow w n l → w.size - w.next ≤ k → k < n → left_in n w (((w.start + w.next) % n + k) % n) ≡ false
beyond n l w k g a b =
    let e : ((w.start + w.next) % n + k) % n ≡ (w.start + (w.next + k)) % n = mod-add-mod (w.start + w.next) n k ∙ ap (λ (x : ℕ). x % n) (omega arith) in
    rw e (ltb_cases (w.next + k) n (λ _. left_in n w ((w.start + (w.next + k)) % n) ≡ false) near far)
  where
    near : w.next + k < n → left_in n w ((w.start + (w.next + k)) % n) ≡ false
    near h = rw (offset_block n w.start (w.next + k) g.start_lt h, le-ltb (w.next + k) w.size (omega arith)) (and-false (leb w.next (w.next + k)))

    far : n ≤ w.next + k → left_in n w ((w.start + (w.next + k)) % n) ≡ false
    far h =
        let o = w.next + k - n in
        let e : (w.start + (w.next + k)) % n ≡ (w.start + o) % n = ap (λ (x : ℕ). x % n) (omega arith) ∙ add-mod_right (w.start + o) n in
        rw (e, offset_block n w.start o g.start_lt (omega (arith, g.next_le, g.size_le_n)), lt-leb w.next o (omega arith))

-- THEOREM. A call from any valid window
pub knows : (n l : ℕ) (listed : List ℕ) (w : Lookahead) → ValidWindow w n l → Knows n l listed (used_for n listed w) ((w.start + w.next) % n) (checkpoint_of n w)
knows n l listed w g =
    let e : w.start + w.next + (n - n) ≡ w.start + w.next = omega arith in
    record {
      valid = checkpoint_valid g;
      says = λ o a b. used_inside n listed w _ o (offset_block n w.start o g.start_lt (omega (arith, g.size_le_n))) a b;
      on = sym (mod-add-mod (w.start + w.next) n (n - n) ∙ ap (λ (x : ℕ). x % n) e);
      later = λ k a b. used_outside n listed w _ (beyond n l w k g (omega arith) b);
    }

pub exact_begins : (n l : ℕ) (listed : List ℕ) (w : Lookahead) → ValidWindow w n l → ExactCall n l listed (used_for n listed w) (checkpoint_of n w) []
exact_begins n l listed w g =
    let b_lt : (w.start + w.next) % n < n = mod-lt _ (omega (arith, g.start_lt)) in
    record {
      base = (w.start + w.next) % n;
      base_lt = b_lt;
      knows = knows n l listed w g;
      all = λ good. sym (whole_circle good ((w.start + w.next) % n) n (used_for n listed w) b_lt) ∙ omega (arith, good_nil good);
    }

-- as many, where as much is used
pub same_used : (good p q : ℕ → Bool) (n : ℕ) → ((b : ℕ) → b < n → p b ≡ q b) → good_unused good n p ≡ good_unused good n q
same_used good p q n h = tally_same (spare good p) (spare good q) n (λ i l. ap (λ (t : Bool). elim t [ true ↦ false | false ↦ good i ]) (h i l))

-- THEOREM. With nothing left of the window, what is used is what is listed, whatever its map.
pub none_left : (n : ℕ) (listed : List ℕ) (w : Lookahead) → w.size ≤ w.next → (b : ℕ) → used_for n listed w b ≡ has listed b
none_left n listed w h b = sym (used_outside n listed w b (out (offset_in n w b)))
  where
    out : (o : ℕ) → (leb w.next o && ltb o w.size) ≡ false
    out o = ltb_cases o w.size (λ t. (leb w.next o && t) ≡ false) (λ a. rw (lt-leb w.next o (omega arith))) (λ a. and-false (leb w.next o))

-- THEOREM. For a clean window, what is used is what is listed or marked in what is left of it.
pub clean_used : (n l : ℕ) (listed : List ℕ) (w : Lookahead) → ValidWindow w n l → CleanWindow n listed w → (b : ℕ) → b < n → used_for n listed w b ≡ (has listed b || marked_in n w b)
unfolding used_for
clean_used n l listed w g c b h = go (left_in n w b) refl (bit_in w.map (offset_in n w b)) refl
  where
    unmarked : left_in n w b ≡ true → bit_in w.map (offset_in n w b) ≡ false → has listed b ≡ false
    unmarked e f =
        let p = (and-eq-true_iff (leb w.next (offset_in n w b)) (ltb (offset_in n w b) w.size)).0 e in
        rw (block_offset n w.start b g.start_lt h) at (c (offset_in n w b) (leb-true _ _ p.0) (ltb-true _ _ p.1) f)

    go : (t : Bool) → left_in n w b ≡ t → (m : Bool) → bit_in w.map (offset_in n w b) ≡ m → used_for n listed w b ≡ (has listed b || marked_in n w b)
    go false e m f = rw (used_for, e) (sym (or-false (has listed b)))
    go true e true f = rw (used_for, e, f) (sym (or_right (has listed b) true refl))
    go true e false f = rw (used_for, e, f, unmarked e f)

-- so each listed block is used
pub listed_used : (n l : ℕ) (listed : List ℕ) (w : Lookahead) → ValidWindow w n l → CleanWindow n listed w → (b : ℕ) → b < n → has listed b ≡ true → used_for n listed w b ≡ true
listed_used n l listed w g c b h e = clean_used n l listed w g c b h ∙ ap (λ (t : Bool). (t || marked_in n w b)) e

module _ (n l : ℕ) (listed : List ℕ) (used : ℕ → Bool) (seen : Seen) (z : GoodScope n l) (t : Shows n listed seen) where
  pub exact_goes : {w : Lookahead} {out : List ℕ} (b : ℕ) → ExactCall n l listed used w out → (alloc_of (scope n l) seen w).answer ≡ Ok b
      → ExactCall n l listed used (alloc_of (scope n l) seen w).window (b ∷ out)
  exact_goes {w} {out} b s e = let r = view n l listed used seen z t s.base w s.knows in go r.0 (r.1 (ap is_block e)) e
    where
      go : {q : Answer} {v : Lookahead} → View (exactly used) s.base n seen.ok w.ckpoint q v → (On s.base n v → Knows n l listed used s.base v) → q ≡ Ok b
          → ExactCall n l listed used v (b ∷ out)
      go {v = v} (handed {b = b'} h o) kv e =
          let same : b' ≡ b = block_eq b' b e in
          record {
            base = s.base;
            base_lt = s.base_lt;
            knows = kv o;
            all = λ good.
                let i = handed_first s.base n used w.ckpoint b' v.ckpoint s.knows.valid.ck_le h in
                let j : good_in good (unused_from s.base n used w.ckpoint) ≡ bit (good b) + good_in good (unused_from s.base n used v.ckpoint) =
                ap (λ (x : List ℕ). good_in good x) i ∙ good_cons good b' _ ∙ ap (λ (x : ℕ). bit (good x) + good_in good (unused_from s.base n used v.ckpoint)) same in
                omega (arith, s.all good, good_cons good b out, j);
          }
      go (full _ _ _) kv e = absurd (not_block b ⊥ e)
      go (bad _ _ _) kv e = absurd (not_damaged b ⊥ e)

  -- THEOREM. At -28 all the good blocks of the card that were not used were handed out, whichever are good.
  pub exact_full : {w : Lookahead} {out : List ℕ} (good : ℕ → Bool) → ExactCall n l listed used w out → (alloc_of (scope n l) seen w).answer ≡ Err refusal.NoSpace
      → good_unused good n used ≡ good_in good out
  exact_full {w} {out} good s e = go (view n l listed used seen z t s.base w s.knows).0 e
    where
      go : {q : Answer} {v : Lookahead} → View (exactly used) s.base n seen.ok w.ckpoint q v → q ≡ Err refusal.NoSpace → good_unused good n used ≡ good_in good out
      go (handed {b = b} h o) e = absurd (not_full b ⊥ e)
      go (full c p o) e =
          let i : good_in good (unused_from s.base n used w.ckpoint) ≡ 0 =
          ap (λ (x : List ℕ). good_in good x) (full_none s.base n used w.ckpoint s.knows.valid.ck_le p) ∙ good_nil good in
          omega (arith, s.all good, i)
      go (bad _ _ _) e = let y : ◌≡◌ {A = ℕ} 0 1 = cc in absurd (omega arith)

  -- where no visit fails, no allocation is -84
  pub never_damaged : {w : Lookahead} {out : List ℕ} → seen.ok ≡ true → ExactCall n l listed used w out → (alloc_of (scope n l) seen w).answer ≡ Err refusal.Damaged → ⊥
  never_damaged {w} ok s e = go (view n l listed used seen z t s.base w s.knows).0 e
    where
      go : {q : Answer} {v : Lookahead} → View (exactly used) s.base n seen.ok w.ckpoint q v → q ≡ Err refusal.Damaged → ⊥
      go (handed h o) e = let y : ◌≡◌ {A = ℕ} 0 1 = cc in omega arith
      go (full c p o) e = let y : ◌≡◌ {A = ℕ} 0 1 = cc in omega arith
      go (bad f _ _) e = no_both seen.ok ok f

  -- and no more are handed out than there are
  pub exact_most : {w : Lookahead} {out : List ℕ} (good : ℕ → Bool) → ExactCall n l listed used w out → good_in good out ≤ good_unused good n used
  exact_most good s = omega (arith, s.all good)

module _ (n l : ℕ) (listed : List ℕ) (seen : Seen) (z : GoodScope n l) (t : Lists n listed seen) where
  -- THEOREM. From any valid window: exactly the blocks that are not used, in circular order from where it stands, each once, then -28.
  pub any_spent : (w : Lookahead) → ValidWindow w n l
      → (v : Lookahead) × SpentWindow n l seen (checkpoint_of n w) (unused_from ((w.start + w.next) % n) n (used_for n listed w) n) v
  any_spent w g = spent n l listed (used_for n listed w) seen z t (suc n) ((w.start + w.next) % n) (checkpoint_of n w) (omega arith) (knows n l listed w g)

  -- THEOREM. From any valid window, asking until m good ones were handed out fails exactly if fewer than m good blocks are not used.
  pub any_asked : (w : Lookahead) (good : ℕ → Bool) (m : ℕ) → ValidWindow w n l → ask_of (suc n) good n l seen m (checkpoint_of n w) ≡ leb m (good_unused good n (used_for n listed w))
  any_asked w good m g =
      asked n l listed (used_for n listed w) seen z t (suc n) ((w.start + w.next) % n) good m (checkpoint_of n w) (omega arith) (knows n l listed w g)
      ∙ ap (λ (x : ℕ). leb m x) (whole_circle good ((w.start + w.next) % n) n (used_for n listed w) (mod-lt _ (omega (arith, g.start_lt))))

  fresh_on : (s : ℕ) → On s n (fresh_of (scope n l) s)
  fresh_on s = let e : s + 0 ≡ s + (n - n) = omega arith in ap (λ (x : ℕ). x % n) e

  fresh_knows : (s : ℕ) → s < n → Knows n l listed (has listed) s (fresh_of (scope n l) s)
  fresh_knows s h = record { valid = fresh_valid n l s h; says = λ o a b. absurd (omega arith); on = fresh_on s; later = λ k a b. refl }

  -- THEOREM. From a fresh window: exactly the unlisted blocks in circular order from start, then -28.
  pub fresh_spent : (s : ℕ) → s < n → (v : Lookahead) × SpentWindow n l seen (fresh_of (scope n l) s) (unused_from s n (has listed) n) v
  fresh_spent s h = spent n l listed (has listed) seen z t (suc n) s (fresh_of (scope n l) s) (omega arith) (fresh_knows s h)

  -- THEOREM. From a fresh window, asking until m good ones were handed out fails exactly if fewer than m good unlisted blocks exist.
  pub fresh_asked : (s : ℕ) (good : ℕ → Bool) (m : ℕ) → s < n → ask_of (suc n) good n l seen m (fresh_of (scope n l) s) ≡ leb m (good_unlisted good n listed)
  fresh_asked s good m h =
      asked n l listed (has listed) seen z t (suc n) s good m (fresh_of (scope n l) s) (omega arith) (fresh_knows s h)
      ∙ ap (λ (x : ℕ). leb m x) (whole_circle good s n (has listed) h)
