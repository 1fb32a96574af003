-- The list check on an image: no fault exactly for sound lists, else exactly the list's first fault. There is at most one first
-- fault, and none of a sound list, so what the answer tells also determines it. Assumes nothing.
use mathlib.Core.Path.{◌≡◌, refl, sym, ap, ◌∙◌, subst}
use mathlib.Core.Bool.{Bool, true, false}
use mathlib.Core.List.{List, []}
use Prim.Native.Nat.{ℕ, suc, ◌-◌, ◌≤◌, ◌<◌}
use native.Mathlib.Omega.{arith}
use borrow.Author.Tests.{le-ltb, eq-eqb, ne_eqb, eqb-true, eqb-false, ltb-true, ltb-false}
use lib.Dec.{eqb, ltb}
use Rattle.std.specs.Prelude.{Option, None, Some, Result, Ok}
use Rattle.layout.specs.declared.Refusal.{Refusal}
use Rattle.layout.specs.Layout.{BlockList, index_at}
use Rattle.layout.specs.inner.Served.{block_list}
use Rattle.card.specs.Card.{Card, pointer}
use Rattle.card.specs.inner.Cards.{card_with}
use Rattle.ctz.specs.Lists.{top_of, Names, Sound, SoundList}
use Rattle.ctz.specs.inner.Forms.{pointers_with}
use Rattle.audit.specs.declared.Fault.{Fault}
use Rattle.audit.specs.declared.Fault.TheVariants.{NotBelow, MetBefore, Disagrees, NotNull}
use Rattle.audit.specs.Check.{falls, and_then, further, check_of}
use Rattle.plain.specs.Faults.{block_in, CleanFrom, FirstFault, not_below, met_before, disagrees, ListFault, not_null, on_list}
use Rattle.plain.specs.inner.Forms.{GoodList}
use Rattle.plain.proofs.Checking.{View, clean, fault, check_view}

-- ---- at most one first fault, over stored pointers

order : (i j : ℕ) → (i < j → ⊥) → (j < i → ⊥) → i ≡ j
order i j a b = go (ltb i j) refl (ltb j i) refl
  where
    go : (s : Bool) → ltb i j ≡ s → (t : Bool) → ltb j i ≡ t → i ≡ j
    go true e t f = absurd (a (ltb-true i j e))
    go false e true f = absurd (b (ltb-true j i f))
    go false e false f = omega (arith, ltb-false i j e, ltb-false j i f)

module _ {card : Card} {list : BlockList} where
  -- a sound list has none
  pub sound_faultless : (f : Fault) → Sound card list → FirstFault card list f → ⊥
  sound_faultless f s (not_below j h c n) = omega (arith, s.below j h)
  sound_faultless f s (met_before j i c b l h e) = omega (arith, s.apart j i (omega arith) h e)
  sound_faultless f s (disagrees j x c p h o l a b n) = n (s.agree j x p h o l)

  -- of two faults on the walk the upper one is met first
  both_kinds : (j j' i : ℕ) → j ≤ top_of card.B list → card.N ≤ block_in card list j → CleanFrom card list (suc j)
      → CleanFrom card list (suc j') → block_in card list j' < card.N → j' < i → i ≤ top_of card.B list → block_in card list j' ≡ block_in card list i → ⊥
  both_kinds j j' i h n c c' b l m e =
      let z : j ≡ j' = order j j' (λ g. c.apart j' i g l m e) (λ g. omega (arith, c'.below j g h)) in
      omega (arith, ap (block_in card list) z)

  -- there is no second
  pub first_only : (f f' : Fault) → FirstFault card list f → FirstFault card list f' → f ≡ f'
  first_only f f' (not_below j h c n) (not_below j' h' c' n') =
      ap (λ (i : ℕ). NotBelow i 0) (order j j' (λ l. omega (arith, c.below j' l h')) (λ l. omega (arith, c'.below j l h)))
  first_only f f' (not_below j h c n) (met_before j' i c' b l m e) = absurd (both_kinds j j' i h n c c' b l m e)
  first_only f f' (not_below j h c n) (disagrees j' x w p l o m a b z) = absurd (omega (arith, w.below j (omega arith) h))
  first_only f f' (met_before j i c b l m e) (not_below j' h c' n) = absurd (both_kinds j' j i h n c' c b l m e)
  first_only f f' (met_before j i c b l m e) (met_before j' i' c' b' l' m' e') =
      ap (λ (i : ℕ). MetBefore i 0) (order j j' (λ g. c.apart j' i' g l' m' e') (λ g. c'.apart j i g l m e))
  first_only f f' (met_before j i c b l m e) (disagrees j' x w p h o q a r z) = absurd (w.apart j i (omega arith) l m e)
  first_only f f' (disagrees j x w p l o m a b z) (not_below j' h c n) = absurd (omega (arith, w.below j' (omega arith) h))
  first_only f f' (disagrees j x w p h o q a r z) (met_before j' i c b l m e) = absurd (w.apart j' i (omega arith) l m e)
  first_only f f' (disagrees j x w p h o q a r z) (disagrees j' x' w' p' h' o' q' a' r' z') =
      let i : j ≡ j' = order j j' (λ g. z' (a j' x' g p' h' o' q')) (λ g. z (a' j x g p h o q)) in
      let y : x ≡ x' =
      order x x' (λ g. z (subst (λ (n : ℕ). Names card.B card.image list n x) (sym i) (r' x o g)))
      (λ g. z' (subst (λ (n : ℕ). Names card.B card.image list n x') i (r x' o' g))) in
      ap (λ (n : ℕ). Disagrees n x) i ∙ ap (Disagrees j') y

-- ---- the answer on an image

module _ {B N : ℕ} {image : List ℕ} (head : ℕ) {size : ℕ} (g : GoodList B N image size) where
  abbrev last : ℕ
  last = index_at B (size - 1)

  check_empty : size ≡ 0
      → check_of (card_with B N image) (block_list head size) ≡ elim (eqb head 4294967295) [ true ↦ Ok None | false ↦ Ok (Some (NotNull 0 0)) ]
  unfolding check_of
  check_empty z = rw (check_of, g.good, le-ltb 2147483647 size g.fits, eq-eqb size 0 z)

  check_list : (size ≡ 0 → ⊥) → check_of (card_with B N image) (block_list head size)
      ≡ Ok (and_then (falls (pointers_with N (pointer B image)) last head []) (further (pointer B image) last head))
  unfolding check_of
  check_list z = rw (check_of, g.good, le-ltb 2147483647 size g.fits, ne_eqb size 0 z)

  -- an answer of the check, with what it tells
  pub data Told : Result (Option Fault) Refusal → Type 0 where
    sound : SoundList (card_with B N image) (block_list head size) → Told (Ok None)
    first : {f : Fault} → ListFault (card_with B N image) (block_list head size) f → Told (Ok (Some f))

  -- the check answers one of the two, and it is true
  pub check_told : Told (check_of (card_with B N image) (block_list head size))
  check_told = go (eqb size 0) refl
    where
      listed : 0 < size → (c : Option Fault) → View B N image head size (Sound (card_with B N image) (block_list head size)) c → Told (Ok c)
      listed h c (clean r) = sound (record { null = λ z. absurd (omega arith); list = λ l. r })
      listed h c (fault r) = first (on_list h r)

      empty : size ≡ 0 → (t : Bool) → eqb head 4294967295 ≡ t → Told (elim t [ true ↦ Ok None | false ↦ Ok (Some (NotNull 0 0)) ])
      empty z true e = sound (record { null = λ q. eqb-true head 4294967295 e; list = λ l. absurd (omega arith) })
      empty z false e = first (not_null z (eqb-false head 4294967295 e))

      go : (t : Bool) → eqb size 0 ≡ t → Told (check_of (card_with B N image) (block_list head size))
      go true e = let z = eqb-true size 0 e in subst Told (sym (check_empty z)) (empty z (eqb head 4294967295) refl)
      go false e =
          let z = eqb-false size 0 e in
          subst Told (sym (check_list z))
          (listed (omega arith) (and_then (falls (pointers_with N (pointer B image)) last head []) (further (pointer B image) last head))
          (check_view B N image head size))

  -- a sound list has no first fault
  pub sound_or_fault : (f : Fault) → SoundList (card_with B N image) (block_list head size) → ListFault (card_with B N image) (block_list head size) f → ⊥
  sound_or_fault f s (not_null z n) = n (s.null z)
  sound_or_fault f s (on_list h r) = sound_faultless f (s.list h) r

  -- and no list has two
  pub fault_only : (f f' : Fault) → ListFault (card_with B N image) (block_list head size) f → ListFault (card_with B N image) (block_list head size) f' → f ≡ f'
  fault_only f f' (not_null z n) (not_null z' n') = refl
  fault_only f f' (not_null z n) (on_list h r) = absurd (omega arith)
  fault_only f f' (on_list h r) (not_null z n) = absurd (omega arith)
  fault_only f f' (on_list h r) (on_list h' r') = first_only f f' r r'

  -- THE LIST CHECK says sound for a sound list
  pub check_sound : SoundList (card_with B N image) (block_list head size) → check_of (card_with B N image) (block_list head size) ≡ Ok None
  check_sound s = go (check_of (card_with B N image) (block_list head size)) check_told
    where
      go : (c : Result (Option Fault) Refusal) → Told c → c ≡ Ok None
      go c (sound r) = refl
      go c (first {f = f} r) = absurd (sound_or_fault f s r)

  -- and only for such
  pub check_tells : check_of (card_with B N image) (block_list head size) ≡ Ok None → SoundList (card_with B N image) (block_list head size)
  check_tells e = go (check_of (card_with B N image) (block_list head size)) check_told e
    where
      go : (c : Result (Option Fault) Refusal) → Told c → c ≡ Ok None → SoundList (card_with B N image) (block_list head size)
      go c (sound r) e = r
      go c (first r) e = absurd (let z : ◌≡◌ {A = ℕ} 0 1 = cc in omega arith)

  -- a fault that it answers is the first one
  pub check_fault : (f : Fault) → check_of (card_with B N image) (block_list head size) ≡ Ok (Some f) → ListFault (card_with B N image) (block_list head size) f
  check_fault f e = go (check_of (card_with B N image) (block_list head size)) check_told e
    where
      go : (c : Result (Option Fault) Refusal) → Told c → c ≡ Ok (Some f) → ListFault (card_with B N image) (block_list head size) f
      go c (sound r) e = absurd (let z : ◌≡◌ {A = ℕ} 0 1 = cc in omega arith)
      go c (first {f = f'} r) e = let y : f' ≡ f = cc in subst (ListFault (card_with B N image) (block_list head size)) y r

  -- and the first fault is what it answers
  pub check_first : (f : Fault) → ListFault (card_with B N image) (block_list head size) f → check_of (card_with B N image) (block_list head size) ≡ Ok (Some f)
  check_first f r = go (check_of (card_with B N image) (block_list head size)) check_told
    where
      go : (c : Result (Option Fault) Refusal) → Told c → c ≡ Ok (Some f)
      go c (sound s) = absurd (sound_or_fault f s r)
      go c (first {f = f'} r') = ap (λ (x : Fault). Ok (Some x)) (fault_only f' f r' r)
