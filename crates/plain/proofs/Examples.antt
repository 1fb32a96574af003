-- Worked examples by computation: a list of five blocks in scrambled order, and two damaged ones. There are sound lists. Assumes nothing.
use mathlib.Core.Path.{◌≡◌, refl}
use mathlib.Core.Bool.{true, false}
use mathlib.Core.List.{List, [], ◌∷◌, ◌++◌}
use Prim.Native.Nat.{ℕ}
use native.Mathlib.Omega.{arith}
use lib.Count.{count_leading_zeros, count_trailing_zeros}
use lib.ListN.{replicate, take, drop}
use Rattle.std.specs.Prelude.{None, Some, Ok}
use Rattle.span.specs.Members.{has}
use Rattle.span.specs.Words.{word_at}
use Rattle.layout.specs.Layout.{pointers, capacity, start, index_at, offset_at}
use Rattle.layout.specs.inner.Served.{block_list}
use Rattle.card.specs.Card.{good_card, pointer}
use Rattle.card.specs.inner.Cards.{card_with}
use Rattle.ctz.specs.Lists.{down, SoundList}
use Rattle.ctz.specs.Lookup.{found_at, walk, walk_to, lookup_of}
use Rattle.ctz.specs.Visits.{visit_of, visit, hand}
use Rattle.audit.specs.declared.Fault.TheVariants.{NotBelow, Disagrees}
use Rattle.audit.specs.Check.{falls, names, further, check_of}
use Rattle.plain.specs.Bytes.{span, bytes}
use Rattle.plain.specs.Reading.{gather, read_in, Bytes, stretch_in, Given, Gathered}
use Rattle.plain.specs.inner.Forms.{range}
use Rattle.plain.proofs.Faults.{check_tells}

four : ℕ → List ℕ
four n = n ∷ 0 ∷ 0 ∷ 0 ∷ []

-- Seven blocks of 160 bytes; indexes 0 to 4 in the blocks 3, 6, 1, 5, 2; index i filled with 10 + i. a is pointer 1 of index 4, b is
-- pointer 0 of index 3.
card : ℕ → ℕ → List ℕ
unfolding four
card a b =
    replicate 160 9
    ++ (four 6 ++ four 3 ++ replicate 152 12)
    ++ (four 5 ++ four a ++ four 3 ++ replicate 148 14)
    ++ replicate 160 10
    ++ replicate 160 9
    ++ (four b ++ replicate 156 13)
    ++ (four 3 ++ replicate 156 11)

-- the list check: sound, a further pointer that disagrees, a number that is not below 7
checked : (check_of (card_with 160 7 (card 1 1)) (block_list 2 630) ≡ Ok None)
    × (check_of (card_with 160 7 (card 6 1)) (block_list 2 630) ≡ Ok (Some (Disagrees 4 1)))
    × (check_of (card_with 160 7 (card 1 9)) (block_list 2 630) ≡ Ok (Some (NotBelow 2 0)))
unfolding check_of good_card falls has names further down pointer word_at index_at start capacity pointers count_trailing_zeros card four
checked = (refl, refl, refl)

-- there are sound lists
some : SoundList (card_with 160 7 (card 1 1)) (block_list 2 630)
unfolding good_card card four
some = check_tells 2 (record { good = refl; fits = omega arith }) checked.0

-- the visit: each block once; and with a wrong second pointer, which it follows
visits : (visit_of (card_with 160 7 (card 1 1)) (block_list 2 630) ≡ record { handed = 2 ∷ 5 ∷ 1 ∷ 6 ∷ 3 ∷ []; clean = true })
    × (visit_of (card_with 160 7 (card 6 1)) (block_list 2 630) ≡ record { handed = 2 ∷ 5 ∷ 6 ∷ 3 ∷ []; clean = false })
unfolding visit_of visit hand pointer word_at index_at start capacity pointers count_trailing_zeros card four
visits = (refl, refl)

-- lookups: block, offset and hops; on a damaged list the walk is as long
looked : (lookup_of (card_with 160 7 (card 1 1)) (block_list 2 630) 160 ≡ found_at 6 4 2)
    × (lookup_of (card_with 160 7 (card 1 1)) (block_list 2 630) 624 ≡ found_at 2 12 0)
    × (lookup_of (card_with 160 7 (card 1 1)) (block_list 2 630) 0 ≡ found_at 3 0 1)
    × (lookup_of (card_with 160 7 (card 6 1)) (block_list 2 630) 400 ≡ found_at 6 92 1)
unfolding lookup_of good_card walk_to walk pointer word_at index_at offset_at start capacity pointers count_trailing_zeros count_leading_zeros card four
looked = (refl, refl, refl, refl)

-- reads over a block border and at the end; a stretch; a part of the plain file
given : (read_in (card_with 160 7 (card 1 1)) (block_list 2 630) (range 314 5) ≡ Bytes (11 ∷ 11 ∷ 12 ∷ 12 ∷ 12 ∷ []))
    × (read_in (card_with 160 7 (card 1 1)) (block_list 2 630) (range 628 9) ≡ Bytes (14 ∷ 14 ∷ []))
    × (stretch_in (card_with 160 7 (card 1 1)) (block_list 2 630) 314 ≡ Given 1118 2)
    × (take 5 (drop 314 (bytes 160 (card 1 1) (block_list 2 630))) ≡ 11 ∷ 11 ∷ 12 ∷ 12 ∷ 12 ∷ [])
unfolding read_in gather stretch_in walk_to walk bytes span down pointer word_at index_at offset_at start capacity pointers count_trailing_zeros
    count_leading_zeros card four
given = (refl, refl, refl, refl)

-- a read that meets a number not below 7 in its second block gives nothing of the first
damaged : read_in (card_with 160 7 (card 9 1)) (block_list 2 630) (range 159 2) ≡ Gathered.Damaged
unfolding read_in gather walk_to walk pointer word_at index_at offset_at start capacity pointers count_trailing_zeros count_leading_zeros card four
damaged = refl
