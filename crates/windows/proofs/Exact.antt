-- Asked again and again, allocation hands out the blocks that are left and not used, in circular order, then answers -28. Assumes nothing.
use mathlib.Core.Path.{◌≡◌, refl, ap, ap₂, ◌∙◌, sym}
use mathlib.Core.Bool.{Bool, true, false}
use mathlib.Core.List.{List, [], ◌∷◌}
use Prim.Native.Nat.{ℕ, zero, suc, ◌+◌, ◌-◌, ◌%◌, ◌≤◌, ◌<◌}
use native.Mathlib.Omega.{arith}
use borrow.Author.Tests.{le-leb, lt-leb, leb-true, leb-false}
use lib.Dec.{leb}
use Rattle.window.specs.declared.Lookahead.{Lookahead}
use Rattle.window.specs.Allocate.{alloc_of, Answer}
use Rattle.window.specs.Scan.{Seen}
use Rattle.window.specs.inner.Facts.{GoodScope, scope}
use Rattle.window.proofs.Cases.{no_both}
use Rattle.windows.proofs.Views.{Handed, Lists, On, Shows, View, bad, exactly, full, handed, is_block, PassedMarked}
use Rattle.windows.proofs.Asking.{Knows, ask_of, bit, enough, good_in, last, more, on_answer, unused_from, SpentWindow, unless_used}
use Rattle.windows.proofs.Alloc.{alloc_from}
use Rattle.windows.proofs.Answers.{block_eq, not_block, not_full}

module _ (base n : ℕ) (used : ℕ → Bool) where
  -- one place of the circle
  from_at : (c k : ℕ) → k < n → c ≡ n - k → unused_from base n used c ≡ unless_used (used ((base + k) % n)) ((base + k) % n) (unused_from base n used (n - suc k))
  unfolding unused_from
  from_at c k h e =
      let f : c ≡ suc (n - suc k) = omega arith in
      let g : n - suc (n - suc k) ≡ k = omega arith in
      rw (f, g)

  -- used places fall out
  from_skip : (d a : ℕ) → a + d ≤ n → PassedMarked (exactly used) base n a (a + d) → unused_from base n used (n - a) ≡ unused_from base n used (n - (a + d))
  from_skip zero a h p = ap (λ (x : ℕ). unused_from base n used (n - x)) (omega arith)
  from_skip (suc d) a h p =
      let e : suc a + d ≡ a + suc d = omega arith in
      from_at (n - a) a (omega arith) refl
      ∙ ap (λ (t : Bool). unless_used t ((base + a) % n) (unused_from base n used (n - suc a))) (sym (p a (omega arith) (omega arith)))
      ∙ from_skip d (suc a) (omega arith) (λ k lo hi. p k (omega arith) (omega arith))
      ∙ ap (λ (x : ℕ). unused_from base n used (n - x)) e

  from_to : (a b : ℕ) → a ≤ b → b ≤ n → PassedMarked (exactly used) base n a b → unused_from base n used (n - a) ≡ unused_from base n used (n - b)
  from_to a b h l p =
      let e : a + (b - a) ≡ b = omega arith in
      from_skip (b - a) a (omega arith) (λ k lo hi. p k lo (omega arith)) ∙ ap (λ (x : ℕ). unused_from base n used (n - x)) e

  -- a block handed out is the first of them
  pub handed_first : (c b d : ℕ) → c ≤ n → Handed (exactly used) base n c b d → unused_from base n used c ≡ b ∷ unused_from base n used d
  handed_first c b d cn h =
      let k = h.place in
      let kn : k < n = omega (arith, h.below) in
      let ec : n - (n - c) ≡ c = omega arith in
      let ed : n - (n - d) ≡ d = omega (arith, h.below) in
      ap (λ (x : ℕ). unused_from base n used x) (sym ec)
      ∙ from_to (n - c) k h.from (omega arith) h.before
      ∙ from_at (n - k) k kn refl
      ∙ ap (λ (x : ℕ). unless_used (used x) x (unused_from base n used (n - suc k))) (sym h.is)
      ∙ ap (λ (t : Bool). unless_used t b (unused_from base n used (n - suc k))) (sym h.says)
      ∙ ap (λ (x : List ℕ). b ∷ x) (from_to (suc k) (n - d) h.below (omega arith) h.after ∙ ap (λ (x : ℕ). unused_from base n used x) ed)

  pub full_none : (c : ℕ) → c ≤ n → PassedMarked (exactly used) base n (n - c) n → unused_from base n used c ≡ []
  unfolding unused_from
  full_none c h p =
      let ec : n - (n - c) ≡ c = omega arith in
      let ez : n - n ≡ 0 = omega arith in
      ap (λ (x : ℕ). unused_from base n used x) (sym ec) ∙ from_to (n - c) n (omega arith) (omega arith) p ∙ ap (λ (x : ℕ). unused_from base n used x) ez

leb_shift : (m e x : ℕ) → leb (m - e) x ≡ leb m (e + x)
leb_shift m e x = go (leb m (e + x)) refl
  where
    go : (t : Bool) → leb m (e + x) ≡ t → leb (m - e) x ≡ t
    go true q = le-leb (m - e) x (omega (arith, leb-true m (e + x) q))
    go false q = lt-leb (m - e) x (omega (arith, leb-false m (e + x) q))

pub good_nil : (good : ℕ → Bool) → good_in good [] ≡ 0
unfolding good_in
good_nil good = refl

pub good_cons : (good : ℕ → Bool) (b : ℕ) (bs : List ℕ) → good_in good (b ∷ bs) ≡ bit (good b) + good_in good bs
unfolding good_in
good_cons good b bs = refl

-- visits none of which fails
pub lists_shows : {n : ℕ} {listed : List ℕ} {seen : Seen} → Lists n listed seen → Shows n listed seen
lists_shows t = record { low = t.low; same = λ _ b. t.same b }

-- THEOREM. One allocation, and with a block handed out the window knows what it knew.
pub view : (n l : ℕ) (listed : List ℕ) (used : ℕ → Bool) (seen : Seen) → GoodScope n l → Shows n listed seen → (base : ℕ) (w : Lookahead) → Knows n l listed used base w
    → View (exactly used) base n seen.ok w.ckpoint (alloc_of (scope n l) seen w).answer (alloc_of (scope n l) seen w).window
    × (is_block (alloc_of (scope n l) seen w).answer ≡ true → On base n (alloc_of (scope n l) seen w).window → Knows n l listed used base (alloc_of (scope n l) seen w).window)
view n l listed used seen z t base w k =
    let r = alloc_from (exactly used) base n l seen z t.low (n - w.ckpoint + (w.size - w.next)) (λ ok p lo hi. t.same ok _ ∙ k.later p lo hi)
    w k.valid k.says k.on (omega arith) in
    (r.0.view, λ b o. record { valid = r.0.valid; says = r.0.says; on = o; later = λ p lo hi. k.later p (omega (arith, r.1 b)) hi })

module _ (n l : ℕ) (listed : List ℕ) (used : ℕ → Bool) (seen : Seen) (z : GoodScope n l) (t : Lists n listed seen) where
  abbrev all : ℕ → ℕ → List ℕ
  all base c = unused_from base n used c

  -- THEOREM. Asked again and again, allocation hands out the blocks that are left and not used, in circular order, and then answers -28.
  pub spent : (f base : ℕ) (w : Lookahead) → w.ckpoint < f → Knows n l listed used base w → (v : Lookahead) × SpentWindow n l seen w (all base w.ckpoint) v
  spent zero base w lt k = absurd (omega arith)
  spent (suc f) base w lt k =
      let r = view n l listed used seen z (lists_shows t) base w k in
      go r.0 refl (λ b lower o. spent f base (alloc_of (scope n l) seen w).window lower (r.1 b o))
    where
      u : Lookahead
      u = (alloc_of (scope n l) seen w).window

      go : {q : Answer} → View (exactly used) base n seen.ok w.ckpoint q u → (alloc_of (scope n l) seen w).answer ≡ q
          → (is_block (alloc_of (scope n l) seen w).answer ≡ true → u.ckpoint < f → On base n u → (v : Lookahead) × SpentWindow n l seen u (all base u.ckpoint) v)
          → (v : Lookahead) × SpentWindow n l seen w (all base w.ckpoint) v
      go (handed {b = b} p o) e ih =
          let r = ih (ap is_block e) (omega (arith, p.from, p.below)) o in
          (r.0, rw (handed_first base n used w.ckpoint b u.ckpoint k.valid.ck_le p) (more b e r.1))
      go (full c p o) e ih = (u, rw (full_none base n used w.ckpoint k.valid.ck_le p) (last e))
      go (bad f _ _) e ih = absurd (no_both seen.ok t.ok f)

  -- THEOREM. Asked until m good ones were handed out, it fails exactly if fewer than m good ones are left.
  pub asked : (f base : ℕ) (good : ℕ → Bool) (m : ℕ) (w : Lookahead) → w.ckpoint < f → Knows n l listed used base w
      → ask_of f good n l seen m w ≡ leb m (good_in good (all base w.ckpoint))
  unfolding ask_of
  asked zero base good m w lt k = absurd (omega arith)
  asked (suc f) base good m w lt k =
      let r = view n l listed used seen z (lists_shows t) base w k in
      go m r.0 (λ b x lower o. asked f base good x (alloc_of (scope n l) seen w).window lower (r.1 b o))
    where
      u : Lookahead
      u = (alloc_of (scope n l) seen w).window

      go : (m : ℕ) {q : Answer} → View (exactly used) base n seen.ok w.ckpoint q u
          → (is_block q ≡ true → (x : ℕ) → u.ckpoint < f → On base n u → ask_of f good n l seen x u ≡ leb x (good_in good (all base u.ckpoint)))
          → enough m (on_answer q (λ b. ask_of f good n l seen (m - bit (good b)) u)) ≡ leb m (good_in good (all base w.ckpoint))
      go zero v ih = sym (le-leb 0 (good_in good (all base w.ckpoint)) (omega arith))
      go (suc m) (handed {b = b} p o) ih =
          ih refl (suc m - bit (good b)) (omega (arith, p.from, p.below)) o
          ∙ leb_shift (suc m) (bit (good b)) _
          ∙ ap (λ (x : ℕ). leb (suc m) x) (sym (good_cons good b _) ∙ ap (λ (x : List ℕ). good_in good x) (sym (handed_first base n used w.ckpoint b u.ckpoint k.valid.ck_le p)))
      go (suc m) (full c p o) ih =
          sym (ap (λ (x : List ℕ). leb (suc m) (good_in good x)) (full_none base n used w.ckpoint k.valid.ck_le p) ∙ lt-leb (suc m) (good_in good []) (omega (arith, good_nil good)))
      go (suc m) (bad f _ _) ih = absurd (no_both seen.ok t.ok f)

-- there is one such sequence only
pub one_spent : {n l : ℕ} {seen : Seen} {w u v : Lookahead} {bs cs : List ℕ} → SpentWindow n l seen w bs u → SpentWindow n l seen w cs v → bs ≡ cs
one_spent (last e) (last e') = refl
one_spent (last e) (more b e' r) = not_block b _ (sym e ∙ e')
one_spent (more b e r) (last e') = not_full b _ (sym e ∙ e')
one_spent (more b e r) (more b' e' r') = ap₂ (λ (x : ℕ) (xs : List ℕ). x ∷ xs) (block_eq b b' (sym e ∙ e')) (one_spent r r')
