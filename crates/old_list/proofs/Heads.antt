-- What a write looks for before its first growth: the blocks that it keeps, with the head of the first growth, and those of the tail. Assumes nothing.
use mathlib.Core.Path.{◌≡◌, refl, sym, ap, ◌∙◌}
use mathlib.Core.Bool.{Bool, true, false}
use mathlib.Core.List.{List, [], ◌∷◌}
use Prim.Native.Nat.{ℕ, suc, ◌+◌, ◌-◌, ◌^◌, ◌≤◌, ◌<◌}
use native.Mathlib.Numerals.{add-one}
use native.Mathlib.Omega.{arith}
use borrow.Author.Tests.{lt-ltb, le-ltb, ltb-true, ltb-false}
use lib.Dec.{ltb}
use Rattle.std.specs.Prelude.{Ok, Err}
use Rattle.layout.specs.declared.Refusal.TheVariants.{Damaged}
use Rattle.layout.specs.Layout.{index_at, offset_at, start}
use Rattle.layout.specs.inner.Served.{Served}
use Rattle.layout.proofs.Places.{index_mono}
use Rattle.layout.proofs.Served.{served, index_in, index_found}
use Rattle.old_list.specs.Write.{Look, starts, looked, first_head}
use Rattle.old_list.specs.inner.Lookups.{looked_of, kept_wanted, tail_wanted, kept_of}
use Rattle.old_list.proofs.Index.{index_within, index_start, start_before, index_some, index_none, start_behind, index_behind}
use Rattle.old_list.proofs.Looks.{looked_more, looked_lost, looked_none}

module _ (look : List ℕ → ℕ → Look) (img : List ℕ) where
  -- ---- the head of the first growth

  module _ (B q : ℕ) where
    pub head_none : q ≡ 0 → Ok 4294967295 ≡ looked_of (kept_of look B img q)
    unfolding kept_of index_at start looked first_head
    head_none e = rw e

    -- the block of byte q - 1 is the last that is looked for
    head_last : (p r : ℕ) → q ≡ suc p → looked (look img) (kept_wanted B q) ≡ looked (look img) (r ∷ []) → look img r ≡ look img p
        → looked_of (look img p) ≡ looked_of (kept_of look B img q)
    unfolding kept_of first_head
    head_last p r e w s = go (look img p) refl
      where
        go : (x : Look) → look img p ≡ x → looked_of x ≡ looked_of (kept_of look B img q)
        go (Look.Found k) f = rw (kept_of, w, looked_more look img r [] k (s ∙ f), looked_none look img, e, first_head, f)
        go Look.Lost f = rw (kept_of, w, looked_lost look img r [] (s ∙ f))

    module _ (h : Served B q) (same : (p r : ℕ) → index_at B p ≡ index_at B r → look img p ≡ look img r) where
      wanted_both : 0 < start B (index_at B q) → start B (index_at B q) < q
          → kept_wanted B q ≡ start B (index_at B q - 1) ∷ (start B (index_at B q) ∷ [])
      wanted_both a b = rw (lt-ltb 0 (index_at B q) (index_some h a), lt-ltb (start B (index_at B q)) q b)

      wanted_border : 0 < start B (index_at B q) → q ≤ start B (index_at B q) → kept_wanted B q ≡ start B (index_at B q - 1) ∷ []
      wanted_border a b = rw (lt-ltb 0 (index_at B q) (index_some h a), le-ltb (start B (index_at B q)) q b)

      wanted_first : start B (index_at B q) ≤ 0 → 0 < q → kept_wanted B q ≡ start B (index_at B q) ∷ []
      wanted_first a b = rw (le-ltb 0 (index_at B q) (index_none h a), lt-ltb (start B (index_at B q)) q (omega arith))

      module _ (first : ℕ) (ef : first ≡ start B (index_at B q)) where
        -- the block before, by its first position or its last
        before : 0 < start B (index_at B q) → look img (start B (index_at B q - 1)) ≡ look img (first - 1)
        before a = same _ _ (start_before h a ∙ ap (λ (x : ℕ). index_at B (x - 1)) (sym ef))

        -- a kept block is lost
        pub head_lost : 0 < first → first < q → look img (first - 1) ≡ Look.Lost → Err Damaged ≡ looked_of (kept_of look B img q)
        unfolding kept_of
        head_lost a b e =
            rw (kept_of, wanted_both (omega arith) (omega arith))
            (rw (looked_lost look img (start B (index_at B q - 1)) (start B (index_at B q) ∷ []) (before (omega arith) ∙ e)) refl)

        -- inside a block behind the first
        pub head_inside : (k : ℕ) → 0 < first → first < q → look img (first - 1) ≡ Look.Found k
            → looked_of (look img (q - 1)) ≡ looked_of (kept_of look B img q)
        head_inside k a b e =
            head_last (q - 1) (start B (index_at B q)) (omega arith)
            (ap (looked (look img)) (wanted_both (omega arith) (omega arith)) ∙ looked_more look img _ _ k (before (omega arith) ∙ e))
            (same _ _ (index_start h ∙ sym (index_within h (q - 1) (omega arith) (omega arith))))

        -- at a border
        pub head_border : 0 < first → q ≤ first → looked_of (look img (q - 1)) ≡ looked_of (kept_of look B img q)
        head_border a b = at_border (omega (arith, (index_in h).from))
          where
            at_border : start B (index_at B q) ≡ q → looked_of (look img (q - 1)) ≡ looked_of (kept_of look B img q)
            at_border s =
                head_last (q - 1) (start B (index_at B q - 1)) (omega arith) (ap (looked (look img)) (wanted_border (omega arith) (omega arith)))
                (same _ _ (start_before h (omega arith) ∙ ap (λ (x : ℕ). index_at B (x - 1)) s))

        -- in the first block
        pub head_first : first ≤ 0 → 0 < q → looked_of (look img (q - 1)) ≡ looked_of (kept_of look B img q)
        head_first a b =
            head_last (q - 1) (start B (index_at B q)) (omega arith) (ap (looked (look img)) (wanted_first (omega arith) b))
            (same _ _ (index_start h ∙ sym (index_within h (q - 1) (omega arith) (omega arith))))

  -- ---- the tail

  module _ (B old : ℕ) where
    pub tail_end : (p : ℕ) → old ≤ p → true ≡ looked (look img) (tail_wanted B p old)
    unfolding looked
    tail_end p h = rw (le-ltb p old h)

    module _ (p : ℕ) (h : Served B p) (same : (r : ℕ) → index_at B r ≡ index_at B p → look img r ≡ look img p) (l : p < old) where
      tail_cons : tail_wanted B p old ≡ start B (index_at B p) ∷ starts B (suc (index_at B p)) (index_at B (old - 1) - index_at B p)
      unfolding starts
      tail_cons = rw (lt-ltb p old l, add-one (index_at B (old - 1) - index_at B p), starts)

      pub tail_lost : look img p ≡ Look.Lost → false ≡ looked (look img) (tail_wanted B p old)
      tail_lost e = sym (ap (looked (look img)) tail_cons ∙ looked_lost look img _ _ (same _ (index_start h) ∙ e))

      pub tail_turn : (k r : ℕ) → look img p ≡ Look.Found k → r ≡ p + (B - offset_at B p) → r < 2 ^ 32
          → looked (look img) (tail_wanted B p old) ≡ looked (look img) (tail_wanted B r old)
      unfolding starts
      tail_turn k r e f w = ap (looked (look img)) tail_cons ∙ looked_more look img _ _ k (same _ (index_start h) ∙ e) ∙ ap (looked (look img)) (rest (ltb r old) refl)
        where
          behind : r ≡ start B (suc (index_at B p))
          behind = f ∙ start_behind h

          index : index_at B r ≡ suc (index_at B p)
          index = ap (index_at B) behind ∙ index_behind h (omega (arith, behind))

          short : old ≤ r → index_at B (old - 1) ≡ index_at B p
          short m =
              index_found (served h.sized (omega arith)) (index_at B p)
              (record { from = omega (arith, (index_in h).from); until = omega (arith, behind) })

          rest : (t : Bool) → ltb r old ≡ t → starts B (suc (index_at B p)) (index_at B (old - 1) - index_at B p) ≡ tail_wanted B r old
          rest true t =
              let n : index_at B (old - 1) - index_at B p ≡ index_at B (old - 1) - suc (index_at B p) + 1
              = omega (arith, index, index_mono B r (old - 1) (omega (arith, ltb-true r old t))) in
              rw (t, index, n)
          rest false t =
              let n : index_at B (old - 1) - index_at B p ≡ 0 = omega (arith, short (ltb-false r old t)) in
              rw (t, n, starts)
