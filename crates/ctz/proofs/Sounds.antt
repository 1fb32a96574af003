-- Sound lists over any stored pointers, for laws that see no image: the same three parts as `Sound`.
use mathlib.Core.Path.{◌≡◌}
use mathlib.Core.List.{List}
use Prim.Native.Nat.{ℕ, ◌-◌, ◌^◌, ◌≤◌, ◌<◌}
use Rattle.layout.specs.Layout.{index_at}
use Rattle.layout.specs.inner.Served.{block_list}
use Rattle.hops.specs.Walk.{ctz}
use Rattle.card.specs.Card.{pointer}
use Rattle.card.specs.inner.Cards.{card_with}
use Rattle.ctz.specs.Lists.{down, Sound}

-- the block number at index i of the list with that head at index top
abbrev pub at : (ℕ → ℕ → ℕ) → ℕ → ℕ → ℕ → ℕ
at ptr head top i = down ptr head (top - i)

pub record SoundOver (ptr : ℕ → ℕ → ℕ) (N head top : ℕ) : Type 0 where
  pub below : (i : ℕ) → i ≤ top → at ptr head top i < N
  pub apart : (i j : ℕ) → i ≤ top → j ≤ top → at ptr head top i ≡ at ptr head top j → i ≡ j
  pub agree : (i x : ℕ) → 0 < i → i ≤ top → 1 ≤ x → x ≤ ctz i → ptr (at ptr head top i) x ≡ at ptr head top (i - 2 ^ x)

module _ {B N head size : ℕ} {image : List ℕ} where
  pub over : Sound (card_with B N image) (block_list head size) → SoundOver (pointer B image) N head (index_at B (size - 1))
  over s = record { below = s.below; apart = s.apart; agree = s.agree }

  pub sound : SoundOver (pointer B image) N head (index_at B (size - 1)) → Sound (card_with B N image) (block_list head size)
  sound s = record { below = s.below; apart = s.apart; agree = s.agree }
