-- Within one call: all blocks handed out are different, below N and unlisted, and the window has none of them any more. Assumes nothing.
use mathlib.Core.Path.{◌≡◌, refl, ap, ◌∙◌, sym}
use mathlib.Core.Bool.{true, false}
use mathlib.Core.List.{List, [], ◌∷◌}
use Prim.Native.Nat.{ℕ, ◌+◌, ◌-◌, ◌%◌, ◌≤◌, ◌<◌}
use native.Mathlib.Nat.{mod-lt, mod-add-mod}
use native.Mathlib.Omega.{arith}
use Rattle.layout.specs.declared.Refusal.TheVariants as refusal
use Rattle.span.specs.Members.{has}
use Rattle.std.specs.Prelude.{Ok, Err}
use Rattle.window.specs.declared.Lookahead.{Lookahead}
use Rattle.window.specs.Allocate.{alloc_of, Answer}
use Rattle.window.specs.Scan.{Seen}
use Rattle.window.specs.Value.{checkpoint_of}
use Rattle.window.specs.inner.Facts.{ValidWindow, GoodScope, scope}
use Rattle.window.proofs.Cases.{no_both}
use Rattle.windows.proofs.Views.{Became, Different, During, New, Places, Result, Tells, View, bad, cleanly, full, handed, is_block, more, start, Allocations, CleanWindow, Below}
use Rattle.windows.proofs.Alloc.{alloc_view, on_place}
use Rattle.windows.proofs.Answers.{block_eq, not_block, not_damaged}
use Rattle.windows.proofs.Circle.{same_place}
use Rattle.windows.proofs.Has.{else_false, has_cases, has_head, has_none}

-- where a block that was handed out lies
pub place_of : {base n d : ℕ} {out : List ℕ} → Places base n d out → (b : ℕ) → has out b ≡ true → (k : ℕ) × (k < d) × (b ≡ (base + k) % n)
place_of Places.none b e = absurd (has_none b e)
place_of {base} {n} {d} (Places.one {b = x} {bs = xs} k h q p) b e =
    has_cases x xs b ((k : ℕ) × (k < d) × (b ≡ (base + k) % n)) e
    (λ s. (k, h, sym s ∙ q))
    (λ s. let r = place_of p b s in (r.0, omega arith, r.2))

pub places_below : {base n d : ℕ} {out : List ℕ} → 0 < n → Places base n d out → Below n out
places_below {base} {n} z p b e = let r = place_of p b e in rw r.2 (mod-lt _ z)

-- places that are later than all of a list are none of its blocks
pub later_other : {base n d : ℕ} {out : List ℕ} → base < n → d ≤ n → Places base n d out → (k : ℕ) → d ≤ k → k < n → has out ((base + k) % n) ≡ false
later_other {base} {n} {d} {out} h l p k a b = else_false (has out ((base + k) % n)) (λ e.
    let r = place_of p ((base + k) % n) e in
    let q : k ≡ r.0 = same_place n base k r.0 h b (omega arith) r.2 in
    omega arith)

pub places_different : {base n d : ℕ} {out : List ℕ} → base < n → d ≤ n → Places base n d out → Different out
places_different h l Places.none = Different.none
places_different {base} {n} {d} h l (Places.one {bs = xs} k a q p) =
    Different.one (ap (λ (x : ℕ). has xs x) q ∙ later_other h (omega arith) p k (omega arith) (omega arith)) (places_different h (omega arith) p)

places_wider : {base n d e : ℕ} {out : List ℕ} → d ≤ e → Places base n d out → Places base n e out
places_wider h Places.none = Places.none
places_wider {e = e} h (Places.one k a q p) = Places.one {d = e} k (omega arith) q p

-- THEOREM. The blocks handed out in a call are all different.
pub all_different : {n l : ℕ} {listed : List ℕ} {w : Lookahead} {out : List ℕ} → During n l listed w out → Different out
all_different s = places_different s.base_lt (omega arith) s.places

-- THEOREM. They are blocks of the card.
pub all_below : {n l : ℕ} {listed : List ℕ} {w : Lookahead} {out : List ℕ} → During n l listed w out → Below n out
all_below s = places_below (omega (arith, s.base_lt)) s.places

-- THEOREM. No block that the window still has is one of them.
pub window_other : {n l : ℕ} {listed : List ℕ} {w : Lookahead} {out : List ℕ} → During n l listed w out
    → (o : ℕ) → w.next ≤ o → o < w.size → has out ((w.start + o) % n) ≡ false
window_other {n} {w = w} {out = out} s o a b =
    ap (λ (x : ℕ). has out x) (on_place s.base n w s.on o a)
    ∙ later_other s.base_lt (omega arith) s.places (n - w.ckpoint + (o - w.next)) (omega arith) (omega (arith, s.valid.left_le, s.valid.ck_le))

-- THEOREM. So the window is clean for what is listed afterwards.
pub clean_after : {n l : ℕ} {listed : List ℕ} {w : Lookahead} {out : List ℕ} (now : List ℕ) → During n l listed w out → Became listed out now → CleanWindow n now w
clean_after now s h o a b e = h _ (s.clean o a b e) (window_other s o a b)

told_clean : {n : ℕ} {listed : List ℕ} {seen : Seen} → Tells n listed seen → seen.ok ≡ true → (b : ℕ) → cleanly listed b (has seen.blocks b)
told_clean t ok b e = t.cover ok b e

-- THEOREM. A call begins with a checkpoint.
pub begins : (n l : ℕ) (listed : List ℕ) (w : Lookahead) → ValidWindow w n l → CleanWindow n listed w → During n l listed (checkpoint_of n w) []
begins n l listed w g c =
    let e : w.start + w.next + (n - n) ≡ w.start + w.next = omega arith in
    record {
      base = (w.start + w.next) % n;
      base_lt = mod-lt _ (omega (arith, g.start_lt));
      valid = record { start_lt = g.start_lt; next_le = g.next_le; size_le = g.size_le; size_le_n = g.size_le_n; left_le = omega (arith, g.left_le, g.ck_le); ck_le = omega arith };
      clean = c;
      on = sym (mod-add-mod (w.start + w.next) n (n - n) ∙ ap (λ (x : ℕ). x % n) e);
      places = Places.none;
      unlisted = λ b e. absurd (has_none b e);
    }

module _ (n l : ℕ) (listed : List ℕ) (seen : Seen) (z : GoodScope n l) (t : Tells n listed seen) where
  result : {w : Lookahead} {out : List ℕ} → (s : During n l listed w out) → Result (cleanly listed) s.base n l seen.ok w.ckpoint (alloc_of (scope n l) seen w)
  result {w} s = alloc_view (cleanly listed) s.base n l seen z t.low (told_clean t) w s.valid s.clean s.on

  -- THEOREM. It goes on with each block handed out ..
  pub goes_on : {w : Lookahead} {out : List ℕ} (b : ℕ) → During n l listed w out → (alloc_of (scope n l) seen w).answer ≡ Ok b
      → During n l listed (alloc_of (scope n l) seen w).window (b ∷ out)
  goes_on {w} {out} b s e = let r = result s in go r.valid r.says r.view e
    where
      go : {q : Answer} {v : Lookahead} → ValidWindow v n l → CleanWindow n listed v → View (cleanly listed) s.base n seen.ok w.ckpoint q v → q ≡ Ok b → During n l listed v (b ∷ out)
      go gv cv (handed {b = b'} h o) e =
          let same : b' ≡ b = block_eq b' b e in
          record {
            base = s.base;
            base_lt = s.base_lt;
            valid = gv;
            clean = cv;
            on = o;
            places = Places.one h.place h.below (sym same ∙ h.is) (places_wider h.from s.places);
            unlisted = λ x i. has_cases b out x (has listed x ≡ false) i (λ q. ap (λ (y : ℕ). has listed y) (sym q ∙ sym same) ∙ h.says refl) (λ q. s.unlisted x q);
          }
      go gv cv (full _ _ _) e = not_block b _ e
      go gv cv (bad _ _ _) e = not_damaged b _ e

  -- .. each of which is new ..
  pub new_block : {w : Lookahead} {out : List ℕ} (b : ℕ) → During n l listed w out → (alloc_of (scope n l) seen w).answer ≡ Ok b → New n listed out b
  new_block {w} {out} b s e = go (goes_on b s e) (all_different (goes_on b s e))
    where
      here : has (b ∷ out) b ≡ true
      here = has_head b out

      go : {v : Lookahead} → During n l listed v (b ∷ out) → Different (b ∷ out) → New n listed out b
      go d (Different.one h r) = record { below = all_below d b here; unlisted = d.unlisted b here; other = h }

  -- .. up to an answer that is no block, which leaves a window that has nothing left
  pub ends : {w : Lookahead} {out : List ℕ} → During n l listed w out → is_block (alloc_of (scope n l) seen w).answer ≡ false
      → (alloc_of (scope n l) seen w).window.size ≤ (alloc_of (scope n l) seen w).window.next
  ends {w} s e = let r = result s in go r.valid r.view e
    where
      go : {q : Answer} {v : Lookahead} → ValidWindow v n l → View (cleanly listed) s.base n seen.ok w.ckpoint q v → is_block q ≡ false → v.size ≤ v.next
      go g (handed _ _) e = absurd (no_both true refl e)
      go g (full c _ _) e = omega (arith, g.left_le)
      go g (bad _ c _) e = omega arith

  -- after -28 all that was said still holds
  pub stays : {w : Lookahead} {out : List ℕ} → During n l listed w out → (alloc_of (scope n l) seen w).answer ≡ Err refusal.NoSpace → During n l listed (alloc_of (scope n l) seen w).window out
  stays {w} {out} s e = let r = result s in go r.valid r.says r.view e
    where
      go : {q : Answer} {v : Lookahead} → ValidWindow v n l → CleanWindow n listed v → View (cleanly listed) s.base n seen.ok w.ckpoint q v → q ≡ Err refusal.NoSpace → During n l listed v out
      go gv cv (handed _ _) e = let y : ◌≡◌ {A = ℕ} 0 1 = cc in absurd (omega arith)
      go gv cv (full c _ o) e =
          record { base = s.base; base_lt = s.base_lt; valid = gv; clean = cv; on = o; places = places_wider (omega arith) s.places; unlisted = s.unlisted }
      go gv cv (bad _ _ _) e = let y : ◌≡◌ {A = ℕ} 0 1 = cc in absurd (omega arith)

  -- whatever the answer, the window is valid and clean
  pub still_valid : {w : Lookahead} {out : List ℕ} → During n l listed w out → ValidWindow (alloc_of (scope n l) seen w).window n l
  still_valid s = (result s).valid

  pub still_clean : {w : Lookahead} {out : List ℕ} → During n l listed w out → CleanWindow n listed (alloc_of (scope n l) seen w).window
  still_clean s = (result s).says

-- THEOREM. Every run of a call, from a valid and clean window.
pub running : {n l : ℕ} {listed : List ℕ} {w : Lookahead} {out : List ℕ} {v : Lookahead} → GoodScope n l → ValidWindow w n l → CleanWindow n listed w → Allocations n l listed (checkpoint_of n w) out v → During n l listed v out
running {n} {l} {listed} {w = w} z g c start = begins n l listed w g c
running {n} {l} {listed} z g c (more b seen r t e) = goes_on n l listed seen z t b (running z g c r) e
