-- Lookups in a file's list: a lookup goes by the index only, the head is found at once, and the block before it by one pointer. Assumes nothing.
use mathlib.Core.Path.{◌≡◌, refl, ap, ◌∙◌}
use mathlib.Core.Bool.{Bool, true, false, ◌&&◌}
use mathlib.Core.List.{List, [], ◌∷◌, ◌++◌}
use Prim.Native.Nat.{ℕ, suc, ◌+◌, ◌-◌, ◌^◌, ◌≤◌, ◌<◌}
use native.Mathlib.Omega.{arith}
use Rattle.std.specs.Prelude.{Result, Ok, Err}
use Rattle.layout.specs.declared.Refusal.{Refusal}
use Rattle.layout.specs.declared.Refusal.TheVariants.{Damaged}
use Rattle.layout.specs.Layout.{index_at, offset_at}
use Rattle.layout.specs.inner.Served.{Served, block_list}
use Rattle.layout.proofs.Served.{served, index_below}
use Rattle.card.specs.Card.{pointer}
use Rattle.card.specs.inner.Cards.{card_with}
use Rattle.ctz.specs.declared.Found.{Found}
use Rattle.ctz.specs.Lookup.{walk, walk_to}
use Rattle.ctz.specs.inner.Forms.{pointers_with, target, stand}
use Rattle.ctz.specs.inner.Bounds.{ListFacts}
use Rattle.ctz.proofs.Lookups.{found_tells, found_answers}
use Rattle.ctz.proofs.Walked.{walk_damaged, walk_at}
use Rattle.ctz.proofs.Through.{placed, walk_placed, next_at, next_lost}
use Rattle.files.specs.declared.Entry.{Entry}
use Rattle.old_list.specs.Write.{Look, looked, look_of}
use Rattle.old_list.specs.inner.Lookups.{looked_of, found_all, Behind, look_in}
use Rattle.old_list.proofs.Index.{index_within, index_before, index_some}

-- the offset that a lookup answers is not looked at
look_placed : (off : ℕ) (f : Result Found Refusal) → look_of (placed off f) ≡ look_of f
look_placed off (Ok found) = refl
look_placed off (Err refusal) = refl

-- two positions of one block are found alike
pub look_same : (B N : ℕ) (e : Entry) (img : List ℕ) (p r : ℕ) → index_at B p ≡ index_at B r → look_in B N e img p ≡ look_in B N e img r
unfolding walk_to
look_same B N e img p r i =
    let top = index_at B (e.size - 1) in
    rw (walk_to, i) (ap look_of (walk_placed (pointer B img) N (offset_at B r) (offset_at B p) (suc top) (index_at B r) top e.head 0)
    ∙ look_placed (offset_at B p) (walk (suc top) (pointers_with N (pointer B img)) (target (index_at B r) (offset_at B r)) (stand top e.head 0)))

-- the block of the last byte is the head, if that is a block
pub look_head : (B N : ℕ) (e : Entry) (img : List ℕ) (p : ℕ) → p + 1 ≡ e.size → e.head < N → look_in B N e img p ≡ Look.Found e.head
unfolding walk_to
look_head B N e img p s h =
    let q : e.size - 1 ≡ p = omega arith in
    rw (walk_to, q) (ap look_of (walk_at (index_at B p) (pointer B img) N (offset_at B p) (index_at B p) (index_at B p) e.head 0 h (omega arith)))

pub look_headless : (B N : ℕ) (e : Entry) (img : List ℕ) (p : ℕ) → N ≤ e.head → look_in B N e img p ≡ Look.Lost
unfolding walk_to
look_headless B N e img p h =
    ap look_of (walk_damaged (index_at B (e.size - 1)) (pointer B img) N (offset_at B p) (index_at B p) (index_at B (e.size - 1)) e.head 0 h)

-- the block before the head's is its pointer 0, if that is a block
module _ {B : ℕ} (N : ℕ) (e : Entry) (img : List ℕ) {q first : ℕ} (h : Served B q) (s : Behind B q first) (z : q ≡ e.size) (b : e.head < N) where
  above : suc (index_at B (first - 1)) ≡ index_at B (e.size - 1)
  above =
      let i : index_at B (first - 1) ≡ index_at B q - 1
      = ap (λ (x : ℕ). index_at B (x - 1)) s.start ∙ index_before h (omega (arith, s.start, s.some)) in
      let t : index_at B (e.size - 1) ≡ index_at B q
      = index_within h (e.size - 1) (omega (arith, s.start, s.inside)) (omega arith) in
      omega (arith, index_some h (omega (arith, s.start, s.some)))

  small : suc (index_at B (first - 1)) < 2 ^ 32
  small = omega (arith, above, index_below (served {p = e.size - 1} h.sized (omega (arith, h.word))))

  pub look_next : pointer B img e.head 0 < N → look_in B N e img (first - 1) ≡ Look.Found (pointer B img e.head 0)
  unfolding walk_to
  look_next l =
      rw (walk_to, ← above) (ap look_of (next_at (pointer B img) N (offset_at B (first - 1)) (index_at B (first - 1)) e.head small b l))

  pub look_next_lost : N ≤ pointer B img e.head 0 → look_in B N e img (first - 1) ≡ Look.Lost
  unfolding walk_to
  look_next_lost l =
      rw (walk_to, ← above) (ap look_of (next_lost (pointer B img) N (offset_at B (first - 1)) (index_at B (first - 1)) e.head small b l))

-- a block that is found is below N
pub look_below : {B N : ℕ} (e : Entry) {len : ℕ} (img : List ℕ) (p k : ℕ) → ListFacts B N e.size len → p < e.size → look_in B N e img p ≡ Look.Found k → k < N
look_below {B} {N} e img p k g l f = go (walk_to (card_with B N img) (block_list e.head e.size) p) refl f
  where
    go : (x : Result Found Refusal) → walk_to (card_with B N img) (block_list e.head e.size) p ≡ x → look_of x ≡ Look.Found k → k < N
    go (Ok found) w f =
        let i : found.block ≡ k = cc in
        omega (arith, (found_tells img e.head g.card (record { most = g.most; below = l }) w).below)
    go (Err refusal) w f = let z : ◌≡◌ {A = ℕ} 0 1 = cc in absurd (omega arith)

-- a lookup that is refused is lost
pub look_refused : {B N : ℕ} (e : Entry) {len : ℕ} (img : List ℕ) (p : ℕ) → ListFacts B N e.size len → p < e.size
    → {r : Refusal} → walk_to (card_with B N img) (block_list e.head e.size) p ≡ Err r → Err r ≡ looked_of (look_in B N e img p)
look_refused e img p g l w = rw w (ap Err (found_answers img e.head g.card (record { most = g.most; below = l }) w))

-- what an answer of the code tells
pub told_block : (x : Look) (k : ℕ) → looked_of x ≡ Ok k → x ≡ Look.Found k
told_block (Look.Found j) k e = let i : j ≡ k = cc in ap Look.Found i
told_block Look.Lost k e = let z : ◌≡◌ {A = ℕ} 0 1 = cc in absurd (omega arith)

pub told_lost : (x : Look) (r : Refusal) → looked_of x ≡ Err r → (x ≡ Look.Lost) × (Damaged ≡ r)
told_lost (Look.Found j) r e = let z : ◌≡◌ {A = ℕ} 0 1 = cc in absurd (omega arith)
told_lost Look.Lost r e = let i : Damaged ≡ r = cc in (refl, i)

pub told_all : (b : Bool) {u : Unit {0}} → found_all b ≡ Ok u → b ≡ true
told_all true e = refl
told_all false e = let z : ◌≡◌ {A = ℕ} 0 1 = cc in absurd (omega arith)

pub told_missed : (b : Bool) (r : Refusal) → found_all b ≡ Err r → (b ≡ false) × (Damaged ≡ r)
told_missed true r e = let z : ◌≡◌ {A = ℕ} 0 1 = cc in absurd (omega arith)
told_missed false r e = let i : Damaged ≡ r = cc in (refl, i)

module _ (look : List ℕ → ℕ → Look) (img : List ℕ) where
  pub looked_more : (p : ℕ) (ps : List ℕ) (k : ℕ) → look img p ≡ Look.Found k → looked (look img) (p ∷ ps) ≡ looked (look img) ps
  unfolding looked
  looked_more p ps k e = rw (looked, e)

  pub looked_lost : (p : ℕ) (ps : List ℕ) → look img p ≡ Look.Lost → looked (look img) (p ∷ ps) ≡ false
  unfolding looked
  looked_lost p ps e = rw (looked, e)

  pub looked_none : looked (look img) [] ≡ true
  unfolding looked
  looked_none = refl

  pub looked_append : (ps qs : List ℕ) → looked (look img) (ps ++ qs) ≡ (looked (look img) ps && looked (look img) qs)
  unfolding looked
  looked_append [] qs = refl
  looked_append (p ∷ ps) qs = go (look img p) refl (looked_append ps qs)
    where
      go : (x : Look) → look img p ≡ x → looked (look img) (ps ++ qs) ≡ (looked (look img) ps && looked (look img) qs)
          → looked (look img) (p ∷ (ps ++ qs)) ≡ (looked (look img) (p ∷ ps) && looked (look img) qs)
      go (Look.Found k) e ih = rw (looked_more p (ps ++ qs) k e, looked_more p ps k e) ih
      go Look.Lost e ih = rw (looked_lost p (ps ++ qs) e, looked_lost p ps e) refl
