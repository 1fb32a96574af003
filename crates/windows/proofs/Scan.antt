-- What a scan leaves: an offset of the window is marked exactly if a listed block lies there. Assumes nothing.
use mathlib.Core.Path.{◌≡◌, refl, ap, ◌∙◌, sym}
use mathlib.Core.Logic.{◌⊎◌, inl, inr}
use mathlib.Core.Bool.{Bool, true, false, ◌||◌, or-false}
use mathlib.Core.List.{List, [], ◌∷◌}
use Prim.Native.Nat.{ℕ, ◌+◌, ◌/◌, ◌%◌, ◌≤◌, ◌<◌}
use native.Mathlib.Nat.{zero-div}
use native.Mathlib.Omega.{arith}
use lib.ListN.{length, length-set, replicate, get_or-replicate}
use lib.Dec.{eqb}
use Rattle.std.proofs.lemmas.Bool.{cases_eq, eq-eqb, ne_eqb}
use Rattle.span.specs.Members.{has, bit_in, with_bit_in}
use Rattle.span.proofs.Bitmap.{bit_put}
use Rattle.window.specs.declared.Lookahead.{Lookahead}
use Rattle.window.specs.Scan.{mark_all, mark_map, cleared, mark_on}
use Rattle.window.specs.inner.Facts.{ValidWindow, GoodScope, window_on, scope}
use Rattle.window.proofs.Cases.{ltb_cases}
use Rattle.window.proofs.Kept.{cleared_valid}
use Rattle.window.proofs.Scans.{marks_seen}
use Rattle.windows.proofs.Circle.{block_offset, offset_block, offset_from}
use Rattle.windows.proofs.Has.{below_head, below_tail}
use Rattle.windows.proofs.Views.{Below}

abbrev mark_if : Bool → List ℕ → ℕ → List ℕ
mark_if t m o = elim t [ true ↦ with_bit_in m o | false ↦ m ]

-- a map of 64 bytes keeps its length
map_length : (s z n : ℕ) (m : List ℕ) (b : ℕ) → length (mark_map n (window_on s z m) b) ≡ length m
unfolding mark_map
map_length s z n m b = ltb_cases (offset_from s b n) z (λ t. length (mark_if t m (offset_from s b n)) ≡ length m) (λ h. simp length-set) (λ h. refl)

or_swap : (h e m : Bool) → (h || (e || m)) ≡ (e || h || m)
or_swap true true m = refl
or_swap true false m = refl
or_swap false true m = refl
or_swap false false m = refl

module _ (s z n o : ℕ) (small : z ≤ 512) (fits : z ≤ n) (s-lt : s < n) (o_lt : o < z) where
  -- the offset asked for is that of a block exactly if the block lies there
  same_offset : (b : ℕ) → b < n → eqb o (offset_from s b n) ≡ eqb b ((s + o) % n)
  same_offset b b_lt = by (cases_eq b ((s + o) % n))
    where
      by : (b ≡ (s + o) % n) ⊎ (b ≡ (s + o) % n → ⊥) → eqb o (offset_from s b n) ≡ eqb b ((s + o) % n)
      by (inl e) =
          let at : offset_from s b n ≡ o = ap (λ (x : ℕ). offset_from s x n) e ∙ offset_block n s o s-lt (omega arith) in
          eq-eqb _ _ (sym at) ∙ sym (eq-eqb _ _ e)
      by (inr d) =
          let apart : o ≡ offset_from s b n → ⊥ = λ q. d (sym (block_offset n s b s-lt b_lt) ∙ ap (λ (x : ℕ). (s + x) % n) (sym q)) in
          ne_eqb _ _ apart ∙ sym (ne_eqb _ _ d)

  -- one block more: its offset is marked, and every other is as it was
  map_step : (m : List ℕ) (b : ℕ) → length m ≡ 64 → b < n → bit_in (mark_map n (window_on s z m) b) o ≡ (eqb b ((s + o) % n) || bit_in m o)
  unfolding mark_map
  map_step m b room b_lt =
      let at = offset_from s b n in
      let same = same_offset b b_lt in
      ltb_cases at z (λ t. bit_in (mark_if t m at) o ≡ (eqb b ((s + o) % n) || bit_in m o))
      (λ a. bit_put m at o (omega arith) ∙ ap (λ (t : Bool). t || bit_in m o) same)
      (λ a. rw (sym same, ne_eqb o at (omega arith)))

  all_step : (bs m : List ℕ) → length m ≡ 64 → Below n bs → bit_in (mark_all n (window_on s z m) bs) o ≡ ((has bs ((s + o) % n)) || (bit_in m o))
  unfolding mark_all has
  all_step [] m room h = refl
  all_step (b ∷ bs) m room h =
      all_step bs (mark_map n (window_on s z m) b) (map_length s z n m b ∙ room) (below_tail n b bs h)
      ∙ ap (λ (t : Bool). ((has bs ((s + o) % n)) || t)) (map_step m b room (below_head n b bs h))
      ∙ or_swap (has bs ((s + o) % n)) (eqb b ((s + o) % n)) (bit_in m o)

none_marked : (o : ℕ) → o < 512 → bit_in (replicate 64 0) o ≡ false
none_marked o h = rw (get_or-replicate {A = ℕ} 64 (o / 8) 0 0 (omega arith), zero-div)

cleared_room : (w : Lookahead) (n l : ℕ) → length (cleared (scope n l) w).map ≡ 64
unfolding cleared
cleared_room w n l = refl

cleared_empty : (w : Lookahead) (n l o : ℕ) → o < 512 → bit_in (cleared (scope n l) w).map o ≡ false
unfolding cleared
cleared_empty w n l o h = none_marked o h

-- THEOREM. After a scan an offset of the window is marked exactly if its block is listed.
pub scan_exact : (n l : ℕ) (w : Lookahead) (bs : List ℕ) → GoodScope n l → ValidWindow w n l → Below n bs
    → (o : ℕ) → o < (cleared (scope n l) w).size
    → bit_in (mark_on n (cleared (scope n l) w) bs).map o ≡ has bs (((cleared (scope n l) w).start + o) % n)
scan_exact n l w bs z g h o a =
    let c = cleared_valid g in
    let v = cleared (scope n l) w in
    ap (λ (m : List ℕ). bit_in m o) (marks_seen n bs v)
    ∙ all_step v.start v.size n o (omega (arith, c.size_le, z.l_le)) c.size_le_n c.start_lt a bs v.map (cleared_room w n l) h
    ∙ ap (λ (t : Bool). ((has bs ((v.start + o) % n)) || t)) (cleared_empty w n l o (omega (arith, c.size_le, z.l_le)))
    ∙ or-false _
