-- The blocks of a list, over stored pointers alone: how `at` steps, a list cut shorter, another card that agrees. Assumes nothing.
use mathlib.Core.Path.{◌≡◌, refl, sym, ap, ◌∙◌, subst}
use Prim.Native.Nat.{ℕ, zero, suc, ◌+◌, ◌-◌, ◌^◌, ◌≤◌, ◌<◌}
use native.Mathlib.Nat.{sub_self, add-zero, add-suc}
use native.Mathlib.Omega.{arith}
use Rattle.hops.specs.Walk.{ctz}
use Rattle.ctz.specs.Lists.{down}
use Rattle.ctz.proofs.Sounds.{SoundOver, at}

module _ (ptr : ℕ → ℕ → ℕ) where
  -- so many indexes further down
  pub down_add : (head d e : ℕ) → down ptr (down ptr head d) e ≡ down ptr head (d + e)
  unfolding down
  down_add head d zero = ap (down ptr head) (sym (add-zero d))
  down_add head d (suc e) = ap (λ (k : ℕ). ptr k 0) (down_add head d e) ∙ ap (down ptr head) (sym (add-suc d e))

  module _ (head top : ℕ) where
    -- the list's last block is its head
    pub at_top : at ptr head top top ≡ head
    unfolding down
    at_top = ap (down ptr head) (sub_self top)

    -- pointer 0 names the block below
    pub at_next : (i : ℕ) → i < top → ptr (at ptr head top (suc i)) 0 ≡ at ptr head top i
    unfolding down
    at_next i h = let e : suc (top - suc i) ≡ top - i = omega arith in ap (down ptr head) e

    -- the list that ends at index j has the same blocks
    pub at_cut : (i j : ℕ) → i ≤ j → j ≤ top → at ptr (at ptr head top j) j i ≡ at ptr head top i
    at_cut i j h l = down_add head (top - j) (j - i) ∙ ap (down ptr head) (omega arith)

module _ {ptr : ℕ → ℕ → ℕ} {N head top : ℕ} (s : SoundOver ptr N head top) where
  -- every stored pointer of a sound list agrees, pointer 0 too
  pub agree_all : (i x : ℕ) → i ≤ top → 0 < i → x ≤ ctz i → ptr (at ptr head top i) x ≡ at ptr head top (i - 2 ^ x)
  agree_all zero x h p l = absurd (omega arith)
  agree_all (suc i) zero h p l = let e : i ≡ suc i - 1 = omega arith in at_next ptr head top i h ∙ ap (at ptr head top) e
  agree_all (suc i) (suc x) h p l = s.agree (suc i) (suc x) p h (omega arith) l

  -- a sound list cut shorter is sound
  pub cut_sound : (j : ℕ) → j ≤ top → SoundOver ptr N (at ptr head top j) j
  cut_sound j h = record {
    below = λ i l. rw (at_cut ptr head top i j l h) (s.below i (omega arith));
    apart = λ i i' l l' e. s.apart i i' (omega arith) (omega arith) (sym (at_cut ptr head top i j l h) ∙ e ∙ at_cut ptr head top i' j l' h);
    agree = λ i x p l o c.
        ap (λ (k : ℕ). ptr k x) (at_cut ptr head top i j l h) ∙ s.agree i x p (omega arith) o c
        ∙ sym (at_cut ptr head top (i - 2 ^ x) j (omega arith) h);
  }

-- Another card whose blocks hold the same stored pointers where the list lies.
abbrev pub Agrees : (ℕ → ℕ → ℕ) → (ℕ → ℕ → ℕ) → ℕ → ℕ → Type 0
Agrees ptr ptr' head top = (i x : ℕ) → 0 < i → i ≤ top → x ≤ ctz i → ptr (at ptr head top i) x ≡ ptr' (at ptr head top i) x

module _ (ptr ptr' : ℕ → ℕ → ℕ) (head top : ℕ) (a : Agrees ptr ptr' head top) where
  down_frame : (d : ℕ) → d ≤ top → down ptr' head d ≡ down ptr head d
  unfolding down
  down_frame zero h = refl
  down_frame (suc d) h =
      let e : top - (top - d) ≡ d = omega arith in
      let b : ptr (down ptr head d) 0 ≡ ptr' (down ptr head d) 0 =
      subst (λ (n : ℕ). ptr (down ptr head n) 0 ≡ ptr' (down ptr head n) 0) e
      (a (top - d) 0 (omega arith) (omega arith) (omega arith)) in
      ap (λ (k : ℕ). ptr' k 0) (down_frame d (omega arith)) ∙ sym b

  -- the list has the same blocks there
  pub at_frame : (i : ℕ) → at ptr' head top i ≡ at ptr head top i
  at_frame i = down_frame (top - i) (omega arith)

  -- and is sound there
  pub sound_frame : (N : ℕ) → SoundOver ptr N head top → SoundOver ptr' N head top
  sound_frame N s = record {
    below = λ i l. rw (at_frame i) (s.below i l);
    apart = λ i j l l' e. s.apart i j l l' (sym (at_frame i) ∙ e ∙ at_frame j);
    agree = λ i x p l o c. ap (λ (k : ℕ). ptr' k x) (at_frame i) ∙ sym (a i x p l c) ∙ s.agree i x p l o c ∙ sym (at_frame (i - 2 ^ x));
  }
