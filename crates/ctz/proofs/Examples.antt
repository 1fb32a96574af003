-- Worked examples by computation.
use mathlib.Core.Path.{◌≡◌, refl}
use mathlib.Core.Bool.{true, false}
use mathlib.Core.List.{List, [], ◌∷◌, ◌++◌}
use Prim.Native.Nat.{ℕ}
use lib.Count.{count_leading_zeros, count_trailing_zeros}
use lib.ListN.{replicate}
use Rattle.span.specs.Words.{word_at}
use Rattle.std.specs.Prelude.{Err}
use Rattle.layout.specs.declared.Refusal.TheVariants.{Invalid, Damaged}
use Rattle.layout.specs.Layout.{pointers, capacity, start, index_at, offset_at}
use Rattle.layout.specs.inner.Served.{block_list}
use Rattle.card.specs.Card.{good_card, pointer}
use Rattle.card.specs.inner.Cards.{card_with}
use Rattle.ctz.specs.Lookup.{found_at, walk, walk_to, lookup_of}
use Rattle.ctz.specs.Visits.{visit_of, visit, hand}

four : ℕ → List ℕ
four n = n ∷ 0 ∷ 0 ∷ 0 ∷ []

-- Seven blocks of 128 bytes: indexes 0 to 4 lie in the blocks 3, 6, 1, 5, 2. a is pointer 1 of index 4 (1 where the list is sound).
scrambled : ℕ → List ℕ
unfolding four
scrambled a =
    replicate 128 9 ++ (four 6 ++ four 3 ++ replicate 120 12) ++ (four 5 ++ four a ++ four 3 ++ replicate 116 14) ++ replicate 128 10
    ++ replicate 128 9 ++ (four 1 ++ replicate 124 13) ++ (four 3 ++ replicate 124 11)

-- Nine blocks: index i lies in block i.
straight : List ℕ
unfolding four
straight =
    replicate 128 0 ++ (four 0 ++ replicate 124 0) ++ (four 1 ++ four 0 ++ replicate 120 0) ++ (four 2 ++ replicate 124 0)
    ++ (four 3 ++ four 2 ++ four 0 ++ replicate 116 0) ++ (four 4 ++ replicate 124 0) ++ (four 5 ++ four 4 ++ replicate 120 0)
    ++ (four 6 ++ replicate 124 0) ++ (four 7 ++ four 6 ++ four 4 ++ four 0 ++ replicate 112 0)

looked : (lookup_of (card_with 128 7 (scrambled 1)) (block_list 2 500) 128 ≡ found_at 6 4 2)
    × (lookup_of (card_with 128 7 (scrambled 1)) (block_list 2 500) 496 ≡ found_at 2 12 0)
    × (lookup_of (card_with 128 7 (scrambled 1)) (block_list 2 500) 0 ≡ found_at 3 0 1)
    × (lookup_of (card_with 128 7 (scrambled 1)) (block_list 2 500) 500 ≡ Err Invalid)
    × (lookup_of (card_with 128 7 (scrambled 1)) (block_list 9 0) 500 ≡ found_at 4294967295 0 0)
unfolding lookup_of walk_to good_card walk pointer word_at index_at offset_at start capacity pointers count_trailing_zeros count_leading_zeros scrambled four
looked = (refl, refl, refl, refl, refl)

-- on a damaged list: another block, of as many hops; a number not below N; and no test of what is not met
damaged : (lookup_of (card_with 128 7 (scrambled 6)) (block_list 2 500) 300 ≡ found_at 6 56 1)
    × (lookup_of (card_with 128 7 (scrambled 7)) (block_list 2 500) 300 ≡ Err Damaged)
    × (lookup_of (card_with 128 7 (scrambled 7)) (block_list 2 500) 400 ≡ found_at 5 32 1)
unfolding lookup_of walk_to good_card walk pointer word_at index_at offset_at start capacity pointers count_trailing_zeros count_leading_zeros scrambled four
damaged = (refl, refl, refl)

-- hops 8 to 0 one, 7 to 0 three, 7 to 1 four, 3 to 1 two
counted : (lookup_of (card_with 128 9 straight) (block_list 8 981) 0 ≡ found_at 0 0 1)
    × (lookup_of (card_with 128 9 straight) (block_list 7 857) 0 ≡ found_at 0 0 3)
    × (lookup_of (card_with 128 9 straight) (block_list 7 857) 128 ≡ found_at 1 4 4)
    × (lookup_of (card_with 128 9 straight) (block_list 3 373) 128 ≡ found_at 1 4 2)
unfolding lookup_of walk_to good_card walk pointer word_at index_at offset_at start capacity pointers count_trailing_zeros count_leading_zeros straight four
counted = (refl, refl, refl, refl)

visited : (visit_of (card_with 128 7 (scrambled 1)) (block_list 2 500) ≡ record { handed = 2 ∷ 5 ∷ 1 ∷ 6 ∷ 3 ∷ []; clean = true })
    × (visit_of (card_with 128 7 (scrambled 6)) (block_list 2 500) ≡ record { handed = 2 ∷ 5 ∷ 6 ∷ 3 ∷ []; clean = false })
    × (visit_of (card_with 128 7 (scrambled 7)) (block_list 2 500) ≡ record { handed = 2 ∷ 5 ∷ []; clean = false })
unfolding visit_of visit hand pointer word_at index_at start capacity pointers count_trailing_zeros scrambled four
visited = (refl, refl, refl)
