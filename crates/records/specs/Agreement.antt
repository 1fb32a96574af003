-- When an answer is the one that a record has, and when two windows agree.
use Rattle.std.specs.Prelude.{Bool, true, ◌&&◌, List, ℕ, zero, suc, ◌-◌, eqb, ℤ, pos, negsuc}
use Rattle.span.specs.Members.{bit_at}
use Rattle.window.specs.declared.Lookahead.{Lookahead}
use Rattle.records.specs.Records.{word_of}

-- a call's number without its sign
abbrev pub bare_of : ℤ → ℕ
bare_of (pos n) = n
bare_of (negsuc n) = suc n

-- whether these are the first four words of the record
unfoldable pub told_of : List ℕ → ℕ → ℕ → ℕ → ℕ → ℕ → Bool
told_of list at code first second third =
    eqb code (word_of list at 0) && eqb first (word_of list at 1) && eqb second (word_of list at 2) && eqb third (word_of list at 3)

-- whether k bits agree, from bit o on
unfoldable pub bits_agree : ℕ → List ℕ → List ℕ → ℕ → Bool
bits_agree zero ours theirs o = true
bits_agree (suc k) ours theirs o = eqb (bit_at ours o) (bit_at theirs o) && bits_agree k ours theirs (suc o)

-- whether all bits agree from bit `next` to the last of 512
unfoldable pub maps_agree : List ℕ → List ℕ → ℕ → Bool
maps_agree ours theirs next = bits_agree (512 - next) ours theirs next

-- all numbers, and the map of the blocks that are not passed yet
unfoldable pub windows_agree : Lookahead → Lookahead → Bool
windows_agree ours theirs =
    eqb ours.start theirs.start && eqb ours.next theirs.next && eqb ours.size theirs.size
    && eqb ours.ckpoint theirs.ckpoint
    && maps_agree ours.map theirs.map ours.next
