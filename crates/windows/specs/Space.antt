-- What a call finds used, and how many good blocks it does not find used (01, "The window").
use Rattle.std.specs.Prelude.{Bool, true, false, ◌&&◌, List, ℕ, zero, suc, leb, ltb}
use Rattle.span.specs.Members.{has, bit_in}
use Rattle.window.specs.declared.Lookahead.{Lookahead}
use Rattle.window.specs.Scan.{offset_in}

-- block b lies in what is left of a window
abbrev pub left_in : ℕ → Lookahead → ℕ → Bool
left_in N w b = leb w.next (offset_in N w b) && ltb (offset_in N w b) w.size

-- and is marked there
abbrev pub marked_in : ℕ → Lookahead → ℕ → Bool
marked_in N w b = left_in N w b && bit_in w.map (offset_in N w b)

-- What a call from window w finds used: in what is left of the window the marked blocks, and outside it the listed ones.
unfoldable pub used_for : ℕ → List ℕ → Lookahead → ℕ → Bool
used_for N listed w b = elim (left_in N w b) [ true ↦ bit_in w.map (offset_in N w b) | false ↦ has listed b ]

-- of how many numbers below n a test says true
unfoldable pub tally : (ℕ → Bool) → ℕ → ℕ
tally p zero = 0
tally p (suc n) = elim (p n) [ true ↦ suc (tally p n) | false ↦ tally p n ]

-- how many good blocks a card of N blocks has that are not used
abbrev pub good_unused : (ℕ → Bool) → ℕ → (ℕ → Bool) → ℕ
good_unused good N used = tally (λ b. elim (used b) [ true ↦ false | false ↦ good b ]) N
