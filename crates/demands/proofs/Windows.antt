-- The window is an allocator in the sense of the write's theory, as long as the visits hand over what is listed. Assumes nothing.
use mathlib.Core.Path.{◌≡◌, refl, sym, ap, ap₂, ◌∙◌, subst}
use mathlib.Core.Logic.{inl, inr}
use mathlib.Core.Bool.{Bool, true, false, not, ◌&&◌}
use mathlib.Core.List.{List, [], ◌∷◌}
use Prim.Native.Nat.{ℕ, ◌+◌, ◌-◌, ◌%◌, ◌≤◌, ◌<◌}
use native.Mathlib.Nat.{mod-lt}
use native.Mathlib.Omega.{arith}
use lib.ListN.{length}
use Rattle.layout.specs.declared.Refusal.TheVariants as refusal
use Rattle.span.specs.Members.{has}
use Rattle.card.specs.inner.Cards.{CardFacts, card_with}
use Rattle.health.specs.Health.{refuses_erase, refuses_program}
use Rattle.files.specs.declared.Table.{Table}
use Rattle.std.specs.Prelude.{Ok, Err}
use Rattle.window.specs.declared.Lookahead.{Lookahead}
use Rattle.window.specs.Allocate.{alloc_of, Answer}
use Rattle.window.specs.Scan.{Seen}
use Rattle.window.specs.inner.Facts.{ValidWindow, GoodScope, scope}
use Rattle.window.proofs.Cases.{no_both}
use Rattle.windows.proofs.Views.{Claim, cleanly, exactly, On, Handed, View, handed, full, bad, Result, Lists, Shows, During, New, is_block}
use Rattle.windows.proofs.Asking.{Knows, unused_from, good_in, bit}
use Rattle.windows.proofs.Has.{has_head, has_tail}
use Rattle.windows.proofs.Alloc.{alloc_view, none_after}
use Rattle.windows.proofs.InCall as incall
use Rattle.windows.proofs.Exact.{view, handed_first, full_none, good_nil, good_cons}
use Rattle.windows.proofs.Listed.{lists_tells}
use Rattle.alloc.specs.Visits.{seen_in}
use Rattle.trials.specs.Loop.{Took, Block, None, Bad}
use Rattle.grow.specs.Extend.{took_of}
use Rattle.grow.specs.inner.Extend.{window_alloc}
use Rattle.writes.proofs.Allocators.{In, Stays, Allotted, Allocator, Drawn, Counter, MustStand}
use Rattle.demands.specs.Space.{good_block}

-- ---- what an answer tells

took_block : (a : Answer) (v w : Lookahead) (k : ℕ) → took_of a v ≡ Block k w → (a ≡ Ok k) × (v ≡ w)
took_block (Ok b) v w k e = (let q : b ≡ k = cc in ap Ok q, cc)
took_block (Err refusal.NoSpace) v w k e = let z : ◌≡◌ {A = ℕ} 0 1 = cc in absurd (omega arith)
took_block (Err r) v w k e = let z : ◌≡◌ {A = ℕ} 0 1 = cc in absurd (omega arith)

took_none : (a : Answer) (v w : Lookahead) → took_of a v ≡ None w → (a ≡ Err refusal.NoSpace) × (v ≡ w)
took_none (Ok b) v w e = let z : ◌≡◌ {A = ℕ} 0 1 = cc in absurd (omega arith)
took_none (Err refusal.NoSpace) v w e = (refl, cc)
took_none (Err r) v w e = let z : ◌≡◌ {A = ℕ} 0 1 = cc in absurd (omega arith)

view_block : {R : Claim} {base n : ℕ} {ok : Bool} {c : ℕ} {q : Answer} {v : Lookahead} (k : ℕ) → View R base n ok c q v → q ≡ Ok k
    → Handed R base n c k v.ckpoint × On base n v
view_block {R} {base} {n} {ok} {c} {v = v} k (handed {b = b} h o) e =
    let q : b ≡ k = cc in (subst (λ (x : ℕ). Handed R base n c x v.ckpoint) q h, o)
view_block k (full _ _ _) e = let z : ◌≡◌ {A = ℕ} 0 1 = cc in absurd (omega arith)
view_block k (bad _ _ _) e = let z : ◌≡◌ {A = ℕ} 0 1 = cc in absurd (omega arith)

view_none : {R : Claim} {base n : ℕ} {ok : Bool} {c : ℕ} {q : Answer} {v : Lookahead} → View R base n ok c q v → q ≡ Err refusal.NoSpace
    → ((k : ℕ) → n - c ≤ k → k < n → R ((base + k) % n) true) × On base n v
view_none (handed _ _) e = let z : ◌≡◌ {A = ℕ} 0 1 = cc in absurd (omega arith)
view_none (full c p o) e = (p, o)
view_none (bad _ _ _) e = let z : ◌≡◌ {A = ℕ} 0 1 = cc in absurd (omega arith)

-- an allocation that ends a write as damaged: a visit failed
view_bad : {R : Claim} {base n : ℕ} {ok : Bool} {c : ℕ} {q : Answer} {v w : Lookahead} → View R base n ok c q v → took_of q v ≡ Bad w → ok ≡ false
view_bad (handed _ _) e = let z : ◌≡◌ {A = ℕ} 0 1 = cc in absurd (omega arith)
view_bad (full _ _ _) e = let z : ◌≡◌ {A = ℕ} 0 1 = cc in absurd (omega arith)
view_bad (bad f _ _) e = f

-- ---- membership

-- a block that was handed out is among those
pub in_has : (k : ℕ) (out : List ℕ) → In k out → has out k ≡ true
in_has k [] u = absurd u
in_has k (x ∷ xs) (inl e) = subst (λ (z : ℕ). has (x ∷ xs) z ≡ true) e (has_head x xs)
in_has k (x ∷ xs) (inr u) = has_tail x xs k (in_has k xs u)

good_is : (health : List ℕ) (k : ℕ) (s t : Bool) → refuses_erase health k ≡ s → refuses_program health k ≡ t → good_block health k ≡ (not s && not t)
good_is health k s t q y = ap₂ (λ (a b : Bool). not a && not b) q y

-- ---- the allocator

-- the listed blocks
abbrev pub Listed : List ℕ → ℕ → Type 0
Listed listed k = has listed k ≡ true

-- within a call that began on the image img₀, from the place base of the circle
pub record InCall (B n l : ℕ) (listed img₀ : List ℕ) (base : ℕ) (w : Lookahead) (out img : List ℕ) : Type 0 where
  pub during : During n l listed w out
  pub on : On base n w
  pub card : CardFacts B n (length img)
  pub stays : Stays B (Listed listed) img₀ img

-- what a scan is told
abbrev see : ℕ → ℕ → Table → List ℕ → Seen
see B n t img = seen_in (card_with B n img) t

took : (B n l : ℕ) (t : Table) (w : Lookahead) (img : List ℕ) (r : Took Lookahead) → window_alloc B n l t w img ≡ r
    → took_of (alloc_of (scope n l) (see B n t img) w).answer (alloc_of (scope n l) (see B n t img) w).window ≡ r
unfolding window_alloc
took B n l t w img r e = e

module _ (B n l : ℕ) (listed : List ℕ) (t : Table) (z : GoodScope n l) (img₀ : List ℕ) (base : ℕ)
    (told : (img : List ℕ) → CardFacts B n (length img) → Stays B (Listed listed) img₀ img → Lists n listed (seen_in (card_with B n img) t)) where
  result : (w : Lookahead) (out img : List ℕ) → InCall B n l listed img₀ base w out img
      → Result (cleanly listed) base n l (see B n t img).ok w.ckpoint (alloc_of (scope n l) (see B n t img) w)
  result w out img o =
      let tl = lists_tells (told img o.card o.stays) in
      alloc_view (cleanly listed) base n l (see B n t img) z tl.low (λ ok b e. tl.cover ok b e) w o.during.valid o.during.clean o.on

  -- The window keeps the laws of an allocator: what it hands out is unlisted and new.
  pub windowed : Allocator B n (λ (w : Lookahead). w.ckpoint) (window_alloc B n l t) (Listed listed) (InCall B n l listed img₀ base)
  windowed = record { taken = taken; none = none; never = never; frame = frame }
    where
      frame : (w : Lookahead) (out img img' : List ℕ) → InCall B n l listed img₀ base w out img → CardFacts B n (length img')
          → Stays B (Listed listed) img img' → InCall B n l listed img₀ base w out img'
      frame w out img img' o c s = record { during = o.during; on = o.on; card = c; stays = λ k p u h. s k p u h ∙ o.stays k p u h }

      taken : (w w' : Lookahead) (out img : List ℕ) (k : ℕ) → InCall B n l listed img₀ base w out img → window_alloc B n l t w img ≡ Block k w'
          → Allotted n (λ (w : Lookahead). w.ckpoint) (Listed listed) (InCall B n l listed img₀ base)
          w w' out img k
      taken w w' out img k o e =
          let a = took_block (alloc_of (scope n l) (see B n t img) w).answer (alloc_of (scope n l) (see B n t img) w).window w' k (took B n l t w img _ e) in
          let tl = lists_tells (told img o.card o.stays) in
          let nw = incall.new_block n l listed (see B n t img) z tl k o.during a.0 in
          let v = view_block k (result w out img o).view a.0 in
          rw (← a.1) (record {
            low = nw.below;
            new = λ k' u q. other nw k' u q;
            ok = record { during = incall.goes_on n l listed (see B n t img) z tl k o.during a.0; on = v.1; card = o.card; stays = o.stays };
            fewer = omega (arith, v.0.from, v.0.below);
          })
        where
          other : New n listed out k → (k' : ℕ) → MustStand (Listed listed) out k' → k ≡ k' → ⊥
          other nw k' (inl u) q = no_both (has listed k') u (subst (λ (x : ℕ). has listed x ≡ false) q nw.unlisted)
          other nw k' (inr u) q = no_both (has out k') (in_has k' out u) (subst (λ (x : ℕ). has out x ≡ false) q nw.other)

      none : (w w' : Lookahead) (out img : List ℕ) → InCall B n l listed img₀ base w out img → window_alloc B n l t w img ≡ None w'
          → InCall B n l listed img₀ base w' out img
      none w w' out img o e =
          let a = took_none (alloc_of (scope n l) (see B n t img) w).answer (alloc_of (scope n l) (see B n t img) w).window w' (took B n l t w img _ e) in
          let tl = lists_tells (told img o.card o.stays) in
          let v = view_none (result w out img o).view a.0 in
          subst (λ (u : Lookahead). InCall B n l listed img₀ base u out img) a.1
          (record { during = incall.stays n l listed (see B n t img) z tl o.during a.0; on = v.1; card = o.card; stays = o.stays })

      never : (w w' : Lookahead) (out img : List ℕ) → InCall B n l listed img₀ base w out img → window_alloc B n l t w img ≡ Bad w' → ⊥
      never w w' out img o e =
          no_both (see B n t img).ok (told img o.card o.stays).ok
          (view_bad (result w out img o).view (took B n l t w img _ e))

-- ---- the count, from any window

-- the blocks that the call finds used
abbrev pub Used : (ℕ → Bool) → ℕ → Type 0
Used used k = used k ≡ true

-- within a call that began on the image img₀: what the window knows, and that the used blocks stand
pub record Knowing (B n l : ℕ) (listed : List ℕ) (used : ℕ → Bool) (img₀ : List ℕ) (base : ℕ) (w : Lookahead) (img : List ℕ) : Type 0 where
  pub knows : Knows n l listed used base w
  pub card : CardFacts B n (length img)
  pub stays : Stays B (Used used) img₀ img

-- the good blocks that are yet to come
abbrev pub goods_left : List ℕ → ℕ → (ℕ → Bool) → ℕ → Lookahead → ℕ
goods_left health n used base w = good_in (good_block health) (unused_from base n used w.ckpoint)

-- what -28 leaves
pub record UsedUp (B n l : ℕ) (w : Lookahead) (img : List ℕ) : Type 0 where
  pub valid : ValidWindow w n l
  pub none_left : w.size ≤ w.next
  pub card : CardFacts B n (length img)

module _ (B n l : ℕ) (health listed : List ℕ) (used : ℕ → Bool) (t : Table) (z : GoodScope n l) (img₀ : List ℕ) (base : ℕ)
    (told : (img : List ℕ) → CardFacts B n (length img) → Stays B (Used used) img₀ img → Shows n listed (seen_in (card_with B n img) t)) where
  -- The window keeps the laws of a count: it hands out exactly the blocks that are not used.
  pub counter : Counter B n health (λ (w : Lookahead). w.ckpoint) (window_alloc B n l t) (Used used) (Knowing B n l listed used img₀ base)
      (goods_left health n used base) (UsedUp B n l)
  counter = record { taken = taken; none = none; frame = λ w img img' o c s. record { knows = o.knows; card = c; stays = λ k p u h. s k p u h ∙ o.stays k p u h } }
    where
      taken : (w w' : Lookahead) (img : List ℕ) (k : ℕ) → Knowing B n l listed used img₀ base w img → window_alloc B n l t w img ≡ Block k w'
          → Drawn n health (λ (w : Lookahead). w.ckpoint) (Used used) (Knowing B n l listed used img₀ base) (goods_left health n used base) w w' img k
      taken w w' img k o e =
          let a = took_block (alloc_of (scope n l) (see B n t img) w).answer (alloc_of (scope n l) (see B n t img) w).window w' k (took B n l t w img _ e) in
          let r = view n l listed used (see B n t img) z (told img o.card o.stays) base w o.knows in
          let v = view_block k r.0 a.0 in
          rw (← a.1) (record {
            low = rw v.0.is (mod-lt _ z.n_pos);
            new = λ k' u q. no_both (used k') u (subst (λ (x : ℕ). used x ≡ false) q (sym v.0.says));
            ok = record { knows = r.1 (ap is_block a.0) v.1; card = o.card; stays = o.stays };
            fewer = omega (arith, v.0.from, v.0.below);
            refused = λ q. omega (arith, count v.0, ap bit (good_is health k true (refuses_program health k) q refl));
            spoilt = λ q y. omega (arith, count v.0, ap bit (good_is health k false true q y));
            good = λ q y. omega (arith, count v.0, ap bit (good_is health k false false q y));
          })
        where
          count : {d : ℕ} → Handed (exactly used) base n w.ckpoint k d
              → good_in (good_block health) (unused_from base n used w.ckpoint) ≡ bit (good_block health k) + good_in (good_block health) (unused_from base n used d)
          count {d} h = ap (good_in (good_block health)) (handed_first base n used w.ckpoint k d o.knows.valid.ck_le h) ∙ good_cons (good_block health) k _

      none : (w w' : Lookahead) (img : List ℕ) → Knowing B n l listed used img₀ base w img → window_alloc B n l t w img ≡ None w'
          → (goods_left health n used base w ≡ 0) × UsedUp B n l w' img
      none w w' img o e =
          let a = took_none (alloc_of (scope n l) (see B n t img) w).answer (alloc_of (scope n l) (see B n t img) w).window w' (took B n l t w img _ e) in
          let tl = told img o.card o.stays in
          let p = (view_none (view n l listed used (see B n t img) z tl base w o.knows).0 a.0).0 in
          let q = none_after n l (see B n t img) z tl.low w o.knows.valid a.0 in (
            ap (good_in (good_block health)) (full_none base n used w.ckpoint o.knows.valid.ck_le p) ∙ good_nil (good_block health),
            subst (λ (u : Lookahead). UsedUp B n l u img) a.1 (record { valid = q.0; none_left = q.1; card = o.card }),
          )
