-- Blocks of a list by their first positions: the block of a position, the one before it and the one behind it. Assumes nothing.
use mathlib.Core.Path.{◌≡◌, refl, sym, ap, ◌∙◌}
use mathlib.Core.Logic.{◌⊎◌, inl, inr}
use Prim.Native.Nat.{ℕ, zero, suc, ◌+◌, ◌-◌, ◌*◌, ◌^◌, ◌≤◌, ◌<◌}
use native.Mathlib.Omega.{arith}
use Rattle.layout.specs.Layout.{pointers, start, index_at, offset_at}
use Rattle.layout.specs.inner.Served.{Served}
use Rattle.layout.proofs.Laws.{start_zero}
use Rattle.layout.proofs.Places.{Same, Next, next_place, start_suc, offset_of, offset_past, offset_inside}
use Rattle.layout.proofs.Served.{served, index_in, index_found}

module _ {B p : ℕ} (h : Served B p) where
  -- a position between the first one of p's block and p
  pub index_within : (r : ℕ) → start B (index_at B p) ≤ r → r ≤ p → index_at B r ≡ index_at B p
  index_within r a b =
      index_found (served {p = r} h.sized (omega (arith, h.word))) (index_at B p) (record { from = a; until = omega (arith, (index_in h).until) })

  pub index_start : index_at B (start B (index_at B p)) ≡ index_at B p
  index_start = index_within (start B (index_at B p)) (omega arith) (index_in h).from

  -- the first position of p's block, as the code has it
  pub start_back : (i o : ℕ) → i ≡ index_at B p → o ≡ offset_at B p → p - (o - 4 * pointers i) ≡ start B (index_at B p)
  start_back i o e f =
      omega (arith, ap pointers e, offset_of B p (index_at B p) refl, (index_in h).from)

  -- the last position of the block before
  module _ (some : 0 < start B (index_at B p)) where
    pub index_before : index_at B (start B (index_at B p) - 1) ≡ index_at B p - 1
    index_before = go (next_place B (start B (index_at B p) - 1) (index_in back))
      where
        back : Served B (start B (index_at B p) - 1)
        back = served h.sized (omega (arith, h.word, (index_in h).from))

        here : index_at B (suc (start B (index_at B p) - 1)) ≡ index_at B p
        here = ap (index_at B) (omega arith) ∙ index_start

        go : Same B (start B (index_at B p) - 1) ⊎ Next B (start B (index_at B p) - 1) → index_at B (start B (index_at B p) - 1) ≡ index_at B p - 1
        go (inl s) = absurd (omega (arith, (index_in back).from, ap (start B) (sym s.index ∙ here)))
        go (inr n) = omega (arith, n.index, here)

    pub start_before : index_at B (start B (index_at B p - 1)) ≡ index_at B (start B (index_at B p) - 1)
    start_before =
        ap (λ (i : ℕ). index_at B (start B i)) (sym index_before)
        ∙ go (served h.sized (omega (arith, h.word, (index_in h).from)))
      where
        go : Served B (start B (index_at B p) - 1) → index_at B (start B (index_at B (start B (index_at B p) - 1))) ≡ index_at B (start B (index_at B p) - 1)
        go s = index_found (served h.sized (omega (arith, (index_in s).from, s.word))) _ (record { from = omega arith; until = omega (arith, (index_in s).from, (index_in s).until) })

    pub index_some : 0 < index_at B p
    index_some = go (index_at B p) refl
      where
        go : (i : ℕ) → index_at B p ≡ i → 0 < i
        go zero e = absurd (omega (arith, ap (start B) e, start_zero B))
        go (suc i) e = omega arith

  pub index_none : start B (index_at B p) ≤ 0 → index_at B p ≤ 0
  unfolding index_at
  index_none z = omega (arith, sym index_start ∙ ap (index_at B) (zero_is z))
    where
      zero_is : start B (index_at B p) ≤ 0 → start B (index_at B p) ≡ 0
      zero_is z = omega arith

  -- the first position behind p's block
  pub start_behind : p + (B - offset_at B p) ≡ start B (suc (index_at B p))
  start_behind =
      omega (arith, start_suc B (index_at B p), offset_of B p (index_at B p) refl, (index_in h).from, offset_past B p, offset_inside B p (index_in h))

  pub index_behind : start B (suc (index_at B p)) < 2 ^ 32 → index_at B (start B (suc (index_at B p))) ≡ suc (index_at B p)
  index_behind w = ap (index_at B) (omega (arith, (index_in h).until)) ∙ go (next_place B (start B (suc (index_at B p)) - 1) (index_in last))
    where
      last : Served B (start B (suc (index_at B p)) - 1)
      last = served h.sized (omega arith)

      here : index_at B (start B (suc (index_at B p)) - 1) ≡ index_at B p
      here =
          index_found last (index_at B p)
          (record { from = omega (arith, (index_in h).from, (index_in h).until); until = omega (arith, (index_in h).until) })

      go : Same B (start B (suc (index_at B p)) - 1) ⊎ Next B (start B (suc (index_at B p)) - 1)
          → index_at B (suc (start B (suc (index_at B p)) - 1)) ≡ suc (index_at B p)
      go (inl s) =
          absurd (omega (
            arith,
            (index_in h).until,
            (index_in (served {p = suc (start B (suc (index_at B p)) - 1)} h.sized (omega (arith, (index_in h).until)))).until,
            ap (λ (i : ℕ). start B (suc i)) (s.index ∙ here),
          ))
      go (inr n) = n.index ∙ ap suc here
