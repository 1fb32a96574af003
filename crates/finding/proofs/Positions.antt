-- Runs of positions and the indexes of their blocks: a run is clean where the lookups of its indexes find their blocks. Assumes nothing.
use mathlib.Core.Path.{◌≡◌, refl, sym, ap, ◌∙◌, subst}
use mathlib.Core.Bool.{Bool, true, false}
use mathlib.Core.Logic.{⊎_elim}
use mathlib.Core.List.{List}
use Prim.Native.Nat.{ℕ, zero, suc, ◌+◌, ◌-◌, ◌*◌, ◌≤◌, ◌<◌, min}
use native.Mathlib.Nat.{min-le_left, min-eq_left, min-eq_right, eq-or-lt_of_le}
use native.Mathlib.Omega.{arith}
use borrow.Author.Tests.{ltb-true, ltb-false}
use lib.Dec.{ltb}
use lib.ListN.{length}
use Rattle.std.specs.Prelude.{Result, Ok, Err}
use Rattle.layout.specs.declared.Refusal.{Refusal}
use Rattle.layout.specs.Layout.{index_at, offset_at, pointers}
use Rattle.layout.specs.inner.Served.{Served, block_list}
use Rattle.layout.proofs.Places.{Next, Same, next_place, index_mono, offset_inside}
use Rattle.layout.proofs.Served.{served, index_in, index_below}
use Rattle.card.specs.Card.{pointer}
use Rattle.card.specs.inner.Cards.{card_with}
use Rattle.ctz.specs.declared.Found.{Found}
use Rattle.ctz.specs.Lookup.{found_at, walk_to}
use Rattle.ctz.specs.inner.Runs.{seek, Finds}
use Rattle.ctz.proofs.Lookups.{walk_is, found_tells}
use Rattle.ctz.proofs.Room.{walks}
use Rattle.ctz.proofs.Through.{walk_offset}
use Rattle.plain.specs.Reading.{gather}
use Rattle.plain.specs.inner.Forms.{range}
use Rattle.plain.proofs.Indexes.{run_index, run_offset}
use Rattle.finding.specs.inner.Runs.{Reached, Tested, Indexed, clean}
use Rattle.finding.proofs.Parts.{never_both}
use Rattle.finding.proofs.Gathers.{OnCard, sought, only_damaged, step, clean_turn, all_none, all_damaged, not_clean}

-- the list of a run of positions can be walked
pub indexed : {B N size p n len : ℕ} → OnCard B N size p n len → 0 < n → {top last : ℕ} → top ≡ index_at B (size - 1) → last ≡ index_at B (p + (n - 1))
    → Indexed B top last
indexed {B} {size = size} {p = p} {n = n} r some {top} {last} e f =
    rw (e, f)
    record {
      walks = walks r.card r.most;
      below = index_mono B (p + (n - 1)) (size - 1) (omega (arith, r.inside));
      short = index_below (served r.card.sized (omega (arith, r.most)));
    }

-- its first index is not past its last
pub ordered : {B N size p n len : ℕ} → OnCard B N size p n len → 0 < n → {first last : ℕ} → first ≡ index_at B p → last ≡ index_at B (p + (n - 1)) → first ≤ last
ordered {B} {p = p} {n = n} r some e f = omega (arith, e, f, index_mono B p (p + (n - 1)) (omega arith))

module _ (image : List ℕ) (head : ℕ) {B N size p n : ℕ} (r : OnCard B N size p n (length image)) (some : 0 < n) where
  -- the lookup of a position is that of its index
  pub walk_found : {k : ℕ} → Finds (pointer B image) N head (index_at B (size - 1)) (index_at B p) k
      → (h : ℕ) × (walk_to (card_with B N image) (block_list head size) p ≡ found_at k (offset_at B p) h)
  walk_found f = (
    f.0,
    sym (walk_is B N image head size p (index_at B (size - 1)) (index_at B p) (offset_at B p) refl refl refl)
        ∙ walk_offset (pointer B image) N 0 (offset_at B p) _ _ _ _ _ f.1,
  )

  pub at_found : {k off h : ℕ} → walk_to (card_with B N image) (block_list head size) p ≡ found_at k off h → Finds (pointer B image) N head (index_at B (size - 1)) (index_at B p) k
  at_found {h = h} e = (
    h,
    walk_offset (pointer B image) N (offset_at B p) 0 _ _ _ _ _
        (walk_is B N image head size p (index_at B (size - 1)) (index_at B p) (offset_at B p) refl refl refl ∙ e),
  )

  here : Served B p
  here = served r.card.sized (omega (arith, r.most, r.inside))

  -- the rest of a run that one block does not hold starts at the next block's data
  pub part_next : (m : ℕ) → m ≡ min (B - offset_at B p) n → m < n
      → (index_at B (p + m) ≡ suc (index_at B p)) × (offset_at B (p + m) ≡ 4 * pointers (suc (index_at B p)))
  part_next m q l =
      let o = offset_inside B p (index_in here) in
      let e : m ≡ B - offset_at B p = go (ltb (B - offset_at B p) n) refl in
      let d = m - 1 in
      let w : Served B (p + d) = served r.card.sized (omega (arith, r.most, r.inside)) in
      let i = run_index B p d w (omega arith) in
      let f = run_offset B p d w (omega arith) in
      let s : suc (p + d) ≡ p + m = omega arith in
      ⊎_elim (λ (x : Same B (p + d)). absurd (omega (arith, x.offset, f, e, offset_inside B (suc (p + d)) (index_in (served r.card.sized (omega (arith, r.most, r.inside))))))) (λ (x : Next B (p + d)). rw (sym s) (x.index ∙ ap suc i, x.offset ∙ ap (λ (j : ℕ). 4 * pointers (suc j)) i))
      (next_place B (p + d) (index_in w))
    where
      go : (t : Bool) → ltb (B - offset_at B p) n ≡ t → m ≡ B - offset_at B p
      go true t = q ∙ min-eq_left (omega (arith, ltb-true (B - offset_at B p) n t))
      go false t = absurd (omega (arith, min-eq_right (ltb-false (B - offset_at B p) n t)))

  -- one block holds the whole run
  pub part_whole : (m : ℕ) → m ≡ min (B - offset_at B p) n → n ≤ m → index_at B (p + (n - 1)) ≡ index_at B p
  part_whole m q l =
      let o = min-le_left (B - offset_at B p) n in
      run_index B p (n - 1) (served r.card.sized (omega (arith, r.most, r.inside))) (omega arith)

-- ---- a run of positions is clean where the lookups of its indexes find their blocks

module _ (image : List ℕ) (head B N size : ℕ) where
  -- the indexes of the n positions from p on
  abbrev pub Run : ℕ → ℕ → Type 0
  Run p n = Reached (pointer B image) N head (index_at B (size - 1)) (index_at B p) (index_at B (p + (n - 1)))

  abbrev Clean : ℕ → ℕ → Type 0
  Clean p n = clean (gather n (card_with B N image) (block_list head size) (range p n)) ≡ Ok tt

  clean_many : (f p n : ℕ) → n ≤ f → OnCard B N size p n (length image) → (0 < n → Run p n) → Clean p n
  clean_many zero p n hf r w = ap clean (all_none image B N head size p n hf)
  clean_many (suc f) p n hf r w = go (ltb 0 n) refl (clean_many f)
    where
      go : (t : Bool) → ltb 0 n ≡ t → ((p n : ℕ) → n ≤ f → OnCard B N size p n (length image) → (0 < n → Run p n) → Clean p n) → Clean p n
      go false t ih = ap clean (all_none image B N head size p n (ltb-false 0 n t))
      go true t ih =
          let some = ltb-true 0 n t in
          let k = w some (index_at B p) (omega arith) (index_mono B p (p + (n - 1)) (omega arith)) in
          let h = walk_found image head r some k.1 in
          let m = min (B - offset_at B p) n in
          let s = step image head r some m h.1 refl in
          let later = index_mono B p (p + m) (omega arith) in
          clean_turn image head r some m h.1 refl
          ∙ ih (p + m) (n - m) (omega (arith, s.some, s.most_left)) s.rest
          (λ more x l u.
          let e : p + m + (n - m - 1) ≡ p + (n - 1) = omega (arith, s.most_left) in
          w some x (omega (arith, later)) (omega (arith, ap (index_at B) e)))

  pub reached_clean : (p n : ℕ) → OnCard B N size p n (length image) → Run p n → Clean p n
  reached_clean p n r w = clean_many n p n (omega arith) r (λ some. w)

  reached_many : (f p n : ℕ) → n ≤ f → 0 < n → OnCard B N size p n (length image) → Clean p n → Run p n
  reached_many zero p n hf some r c x l u = absurd (omega arith)
  reached_many (suc f) p n hf some r c x l u = go (walk_to (card_with B N image) (block_list head size) p) refl (reached_many f)
    where
      go : (w : Result Found Refusal) → walk_to (card_with B N image) (block_list head size) p ≡ w
          → ((p n : ℕ) → n ≤ f → 0 < n → OnCard B N size p n (length image) → Clean p n → Run p n)
          → (k : ℕ) × Finds (pointer B image) N head (index_at B (size - 1)) x k
      go (Err d) e ih = absurd (never_both c (ap clean (all_damaged image B N head size p n some (only_damaged image head r some e))))
      go (Ok found) e ih = ⊎_elim first further (eq-or-lt_of_le l)
        where
          o : found.offset ≡ offset_at B p
          o = (found_tells image head r.card (sought image head r some) e).place

          q : min (B - found.offset) n ≡ min (B - offset_at B p) n
          q = ap (λ (y : ℕ). min (B - y) n) o

          first : index_at B p ≡ x → (k : ℕ) × Finds (pointer B image) N head (index_at B (size - 1)) x k
          first y = (found.block, subst (λ (y : ℕ). Finds (pointer B image) N head (index_at B (size - 1)) y found.block) y (at_found image head r some e))

          behind : (t : Bool) → ltb (min (B - found.offset) n) n ≡ t → index_at B p < x → (k : ℕ) × Finds (pointer B image) N head (index_at B (size - 1)) x k
          behind false t y = absurd (omega (arith, part_whole image head r some (min (B - found.offset) n) q (ltb-false (min (B - found.offset) n) n t)))
          behind true t y =
              let b = ltb-true (min (B - found.offset) n) n t in
              let s = step image head r some (min (B - found.offset) n) e refl in
              let w : p + min (B - found.offset) n + (n - min (B - found.offset) n - 1) ≡ p + (n - 1) = omega (arith, s.most_left) in
              ih (p + min (B - found.offset) n) (n - min (B - found.offset) n) (omega (arith, s.some, s.most_left)) (omega arith) s.rest
              (sym (clean_turn image head r some (min (B - found.offset) n) e refl) ∙ c)
              x (omega (arith, (part_next image head r some (min (B - found.offset) n) q b).0)) (omega (arith, ap (index_at B) w))

          further : index_at B p < x → (k : ℕ) × Finds (pointer B image) N head (index_at B (size - 1)) x k
          further y = behind (ltb (min (B - found.offset) n) n) refl y

  pub clean_reached : (p n : ℕ) → 0 < n → OnCard B N size p n (length image) → Clean p n → Run p n
  clean_reached p n some r c = reached_many n p n (omega arith) some r c

  -- so the test of the indexes is that of the run
  pub tested_clean : (p n : ℕ) {top first last : ℕ} (w : Result (Unit {0}) Refusal) → 0 < n → OnCard B N size p n (length image)
      → top ≡ index_at B (size - 1) → first ≡ index_at B p → last ≡ index_at B (p + (n - 1)) → Tested (pointer B image) N head top first last w
      → w ≡ clean (gather n (card_with B N image) (block_list head size) (range p n))
  tested_clean p n {top} {first} {last} (Ok u) some r e f g t =
      sym (reached_clean p n r (λ x l u. subst (λ (y : ℕ). (k : ℕ) × Finds (pointer B image) N head y x k) e (t.found refl x (omega arith) (omega arith))))
  tested_clean p n {top} {first} {last} (Err d) some r e f g t =
      let m = t.lost d refl in
      ap Err m.0
      ∙ sym (not_clean image head p n r
      (λ q.
      let k = clean_reached p n some r q m.1.0 (omega (arith, m.1.1.0)) (omega (arith, m.1.1.1)) in
      let both = sym m.1.1.2 ∙ ap (λ (y : ℕ). seek (pointer B image) N head y m.1.0) e ∙ k.1.1 in
      let z : ◌≡◌ {A = ℕ} 0 1 = cc in
      omega arith))
