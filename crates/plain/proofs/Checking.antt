-- The list check over stored pointers: it answers sound for a sound list, and else its first fault. The check goes down the indexes with
-- what is known of those above, so one view of its answer carries both. Assumes nothing.
use mathlib.Core.Path.{◌≡◌, refl, sym, ap, ◌∙◌, subst}
use mathlib.Core.Logic.{◌⊎◌, inl, inr}
use mathlib.Core.Bool.{Bool, true, false, ◌||◌}
use mathlib.Core.List.{List, [], ◌∷◌}
use Prim.Native.Nat.{ℕ, zero, suc, ◌+◌, ◌-◌, ◌^◌, ◌≤◌, ◌<◌}
use native.Mathlib.Nat.{le_of_dvd, eq-or-lt_of_le}
use native.Mathlib.Omega.{arith}
use borrow.Author.Tests.{ltb-true, ltb-false, eqb-true, eqb-false}
use lib.Dec.{ltb, eqb}
use Rattle.std.specs.Prelude.{Option, None, Some}
use Rattle.span.specs.Members.{has}
use Rattle.layout.specs.Layout.{BlockList, index_at}
use Rattle.layout.specs.inner.Served.{block_list}
use Rattle.hops.specs.Walk.{ctz}
use Rattle.hops.proofs.Digits.{dvd_of_ctz}
use Rattle.card.specs.Card.{Card, pointer}
use Rattle.card.specs.inner.Cards.{card_with}
use Rattle.ctz.specs.Lists.{down, Names, Sound}
use Rattle.ctz.specs.inner.Forms.{pointers_with}
use Rattle.ctz.proofs.Sounds.{at}
use Rattle.audit.specs.declared.Fault.{Fault}
use Rattle.audit.specs.declared.Fault.TheVariants.{NotBelow, MetBefore, Disagrees}
use Rattle.audit.specs.Check.{falls, names, and_then, further}
use Rattle.audit.specs.inner.Bounds.{holder}
use Rattle.plain.specs.Faults.{CleanFrom, AgreeFrom, FirstFault, not_below, met_before, disagrees}
use Rattle.plain.proofs.Walks.{down_add, at_top, at_next}

module _ (B N : ℕ) (image : List ℕ) (head size : ℕ) where
  abbrev card : Card
  card = card_with B N image

  abbrev list : BlockList
  list = block_list head size

  abbrev ptr : ℕ → ℕ → ℕ
  ptr = pointer B image

  abbrev top : ℕ
  top = index_at B (size - 1)

  abbrev blk : ℕ → ℕ
  blk i = at ptr head top i

  -- what is known of the indexes from j to the top, and of one further pointer
  abbrev Clean : ℕ → Type 0
  Clean j = CleanFrom card list j

  abbrev Agree : ℕ → Type 0
  Agree j = AgreeFrom card list j

  abbrev Named : ℕ → ℕ → Type 0
  Named i x = Names B image list i x

  -- an answer: clean with what it tells, or the first fault
  pub data View (Told : Type 0) : Option Fault → Type 0 where
    clean : Told → View Told None
    fault : {f : Fault} → FirstFault card list f → View Told (Some f)

  -- two checks, one after the other
  then_view : {A D : Type 0} (a b : Option Fault) → View A a → (A → View D b) → View D (and_then a b)
  then_view a b (clean r) k = k r
  then_view a b (fault f) k = fault f

  told : {A D : Type 0} (c : Option Fault) → (A → D) → View A c → View D c
  told c k (clean r) = clean (k r)
  told c k (fault f) = fault f

  -- ---- the pointer-0 walk

  -- the numbers met are those of the indexes from j to the top
  abbrev Met : ℕ → List ℕ → Type 0
  Met j met =
      (k : ℕ) → (has met k ≡ true → (i : ℕ) × (j ≤ i) × (i ≤ top) × (k ≡ blk i))
      × ((i : ℕ) → j ≤ i → i ≤ top → k ≡ blk i → has met k ≡ true)

  met_more : (j : ℕ) (met : List ℕ) → j ≤ top → Met (suc j) met → Met j (blk j ∷ met)
  unfolding has
  met_more j met h m k = (there (eqb (blk j) k) refl, back (eqb (blk j) k) refl)
    where
      there : (t : Bool) → eqb (blk j) k ≡ t → (t || has met k) ≡ true → (i : ℕ) × (j ≤ i) × (i ≤ top) × (k ≡ blk i)
      there true e q = (j, omega arith, h, sym (eqb-true (blk j) k e))
      there false e q = let r = (m k).0 q in (r.0, omega arith, r.2, r.3)

      back : (t : Bool) → eqb (blk j) k ≡ t → (i : ℕ) → j ≤ i → i ≤ top → k ≡ blk i → (t || has met k) ≡ true
      back true e i l g q = refl
      back false e i l g q = later (eq-or-lt_of_le l)
        where
          later : (j ≡ i) ⊎ (j < i) → has met k ≡ true
          later (inl z) = absurd (eqb-false (blk j) k e (ap blk z ∙ sym q))
          later (inr z) = (m k).1 i z g q

  clean_more : (j : ℕ) (met : List ℕ) → Clean (suc j) → Met (suc j) met → blk j < N → has met (blk j) ≡ false → Clean j
  clean_more j met c m b f = record {
    below = λ i l h. below i h (eq-or-lt_of_le l);
    apart = λ i l g h t q. apart i l h t q (eq-or-lt_of_le g);
  }
    where
      below : (i : ℕ) → i ≤ top → (j ≡ i) ⊎ (j < i) → blk i < N
      below i h (inl e) = subst (λ (x : ℕ). blk x < N) e b
      below i h (inr e) = c.below i e h

      apart : (i l : ℕ) → i < l → l ≤ top → blk i ≡ blk l → (j ≡ i) ⊎ (j < i) → ⊥
      apart i l h t q (inl e) =
          let y : true ≡ false = sym ((m (blk j)).1 l (omega arith) t (ap blk e ∙ q)) ∙ f in
          let z : ◌≡◌ {A = ℕ} 0 1 = cc in omega arith
      apart i l h t q (inr e) = c.apart i l e h t q

  -- one index: both tests, then what follows
  abbrev turn : ℕ → Bool → Bool → Option Fault → Option Fault
  turn j s t c = elim s [ false ↦ Some (NotBelow j 0) | true ↦ elim t [ true ↦ Some (MetBefore j 0) | false ↦ c ] ]

  falls_turn : (j : ℕ) (met : List ℕ) (c : Option Fault) → j ≤ top → Clean (suc j) → Met (suc j) met
      → (Clean j → Met j (blk j ∷ met) → View (Clean 0) c)
      → View (Clean 0) (turn j (ltb (blk j) N) (has met (blk j)) c)
  falls_turn j met c h a m rest = go (ltb (blk j) N) refl (has met (blk j)) refl
    where
      go : (t : Bool) → ltb (blk j) N ≡ t → (u : Bool) → has met (blk j) ≡ u
          → View (Clean 0) (turn j t u c)
      go false e u f = fault (not_below j h a (ltb-false (blk j) N e))
      go true e true f = let r = (m (blk j)).0 f in fault (met_before j r.0 a (ltb-true (blk j) N e) r.1 r.2 r.3)
      go true e false f = rest (clean_more j met a m (ltb-true (blk j) N e) f) (met_more j met h m)

  falls_view : (j : ℕ) (met : List ℕ) → j ≤ top → Clean (suc j) → Met (suc j) met
      → View (Clean 0) (falls (pointers_with N ptr) j (blk j) met)
  unfolding falls
  falls_view zero met h a m = falls_turn zero met None h a m (λ c n. clean c)
  falls_view (suc j) met h a m =
      falls_turn (suc j) met (falls (pointers_with N ptr) j (ptr (blk (suc j)) 0) (blk (suc j) ∷ met)) h a m
      (λ c n.
      subst (λ (k : ℕ). View (Clean 0) (falls (pointers_with N ptr) j k (blk (suc j) ∷ met))) (sym (at_next ptr head top j h))
      (falls_view j (blk (suc j) ∷ met) (omega arith) c n))

  -- ---- the further pointers, where the walk is clean

  -- 2 ^ x indexes below index i by pointer 0
  hop_place : (i x : ℕ) → 0 < i → i ≤ top → x ≤ ctz i → down ptr (blk i) (2 ^ x) ≡ blk (i - 2 ^ x)
  hop_place i x p h c =
      let f : 2 ^ x ≤ i = le_of_dvd p (dvd_of_ctz 32 i x c) in
      down_add ptr head (top - i) (2 ^ x) ∙ ap (down ptr head) (omega arith)

  module _ (w : Clean 0) where
    -- the pointers of index i from x on, where those before x and those of the indexes above agree
    names_view : (many i x : ℕ) → x + many ≡ suc (ctz i) → 1 ≤ x → 0 < i → i ≤ top → Agree (suc i)
        → ((y : ℕ) → 1 ≤ y → y < x → Named i y)
        → View ((y : ℕ) → 1 ≤ y → y ≤ ctz i → Named i y) (names ptr many (holder i (blk i)) x)
    unfolding names
    names_view zero i x n o p h a b = clean (λ y l g. b y l (omega arith))
    names_view (suc many) i x n o p h a b = go (eqb (ptr (blk i) x) (down ptr (blk i) (2 ^ x))) refl (names_view many i (suc x))
      where
        place : down ptr (blk i) (2 ^ x) ≡ blk (i - 2 ^ x)
        place = hop_place i x p h (omega arith)

        more : ptr (blk i) x ≡ down ptr (blk i) (2 ^ x) → (y : ℕ) → 1 ≤ y → y < suc x → Named i y
        more e y l g = last (ltb y x) refl
          where
            last : (t : Bool) → ltb y x ≡ t → Named i y
            last true q = b y l (ltb-true y x q)
            last false q = let z : x ≡ y = omega (arith, ltb-false y x q) in subst (Named i) z (e ∙ place)

        go : (t : Bool) → eqb (ptr (blk i) x) (down ptr (blk i) (2 ^ x)) ≡ t
            → (suc x + many ≡ suc (ctz i) → 1 ≤ suc x → 0 < i → i ≤ top → Agree (suc i)
            → ((y : ℕ) → 1 ≤ y → y < suc x → Named i y)
            → View ((y : ℕ) → 1 ≤ y → y ≤ ctz i → Named i y) (names ptr many (holder i (blk i)) (suc x)))
            → View ((y : ℕ) → 1 ≤ y → y ≤ ctz i → Named i y)
            (elim t [ true ↦ names ptr many (holder i (blk i)) (suc x) | false ↦ Some (Disagrees i x) ])
        go true e ih = ih (omega arith) (omega arith) p h a (more (eqb-true (ptr (blk i) x) (down ptr (blk i) (2 ^ x)) e))
        go false e ih =
            fault (disagrees i x w p h o (omega arith) a b
            (λ q. eqb-false (ptr (blk i) x) (down ptr (blk i) (2 ^ x)) e (q ∙ sym place)))

    agree_more : (i : ℕ) → Agree (suc i) → ((y : ℕ) → 1 ≤ y → y ≤ ctz i → Named i y) → Agree i
    agree_more i a b l x g p h o c = go (eq-or-lt_of_le g)
      where
        go : (i ≡ l) ⊎ (i < l) → Named l x
        go (inl e) = subst (λ (j : ℕ). x ≤ ctz j → Named j x) e (b x o) c
        go (inr e) = a l x e p h o c

    further_view : (i : ℕ) → i ≤ top → Agree (suc i) → View (Agree 0) (further ptr i (blk i))
    unfolding further
    further_view zero h a = clean (λ l x g p. a l x p p)
    further_view (suc i) h a =
        then_view (names ptr (ctz (suc i)) (holder (suc i) (blk (suc i))) 1) (further ptr i (ptr (blk (suc i)) 0))
        (names_view (ctz (suc i)) (suc i) 1 (omega arith) (omega arith) (omega arith) h a (λ y l g. absurd (omega arith)))
        (λ b.
        subst (λ (k : ℕ). View (Agree 0) (further ptr i k)) (sym (at_next ptr head top i h))
        (further_view i (omega arith) (agree_more (suc i) a b)))

  -- ---- both together

  clean_sound : Clean 0 → Agree 0 → Sound card list
  clean_sound w a = record {
    below = λ i h. w.below i (omega arith) h;
    apart = λ i j h l q. apart i j h l q (ltb i j) refl (ltb j i) refl;
    agree = λ i x p h o c. a i x (omega arith) p h o c;
  }
    where
      apart : (i j : ℕ) → i ≤ top → j ≤ top → blk i ≡ blk j → (s : Bool) → ltb i j ≡ s → (t : Bool) → ltb j i ≡ t → i ≡ j
      apart i j h l q true e t f = absurd (w.apart i j (omega arith) (ltb-true i j e) l q)
      apart i j h l q false e true f = absurd (w.apart j i (omega arith) (ltb-true j i f) h (sym q))
      apart i j h l q false e false f = omega (arith, ltb-false i j e, ltb-false j i f)

  -- the check of a list that is not empty: sound, and then it is; or else its first fault
  pub check_view : View (Sound card list) (and_then (falls (pointers_with N ptr) top head []) (further ptr top head))
  unfolding has
  check_view =
      subst (λ (k : ℕ). View (Sound card list) (and_then (falls (pointers_with N ptr) top k []) (further ptr top k))) (at_top ptr head top)
      (then_view (falls (pointers_with N ptr) top (blk top) []) (further ptr top (blk top)) (falls_view top [] (omega arith) above none)
      (λ w. told (further ptr top (blk top)) (clean_sound w) (further_view w top (omega arith) (λ l x g p h. absurd (omega arith)))))
    where
      above : Clean (suc top)
      above = record { below = λ i l h. absurd (omega arith); apart = λ i l g h t q. omega arith }

      none : Met (suc top) []
      none k = ((λ e. absurd (let z : ◌≡◌ {A = ℕ} 0 1 = cc in omega arith)), (λ i l h. absurd (omega arith)))
