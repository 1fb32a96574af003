-- Records on block lists: index, lookup and visit. A record is equal if the definition's answer is the one that it has: 0 or the refusal without its sign,
-- and up to three values.
use Rattle.std.specs.Prelude.{Bool, false, ◌&&◌, Option, None, Some, Result, Ok, Err, List, ℕ, zero, suc, eqb}
use Rattle.layout.specs.declared.Refusal.{Refusal}
use Rattle.layout.specs.Numbers.{accepted}
use Rattle.layout.specs.Refusals.{refusal_code}
use Rattle.layout.specs.Layout.{place_of}
use Rattle.layout.specs.inner.Served.{block_list, geometry}
use Rattle.card.specs.inner.Cards.{card_with}
use Rattle.ctz.specs.declared.Found.{Found}
use Rattle.ctz.specs.declared.visit.Visit.{Visit}
use Rattle.ctz.specs.declared.visit.Step.{Step}
use Rattle.ctz.specs.Lookup.{lookup_of}
use Rattle.ctz.specs.Visits.{begin_of, traverse_of}
use Rattle.told_lists.specs.declared.TidIndex.{TidIndex}
use Rattle.told_lists.specs.declared.TidFind.{TidFind}
use Rattle.told_lists.specs.Lists.{place_told, found_told}
use Rattle.records.specs.Records.{word_of, image_of}
use Rattle.records.specs.Agreement.{bare_of, told_of}

-- index and offset
abbrev pub place_equal : List ℕ → ℕ → TidIndex → Bool
place_equal list at a = told_of list at (bare_of a.code) a.index a.offset 0

-- the question: block size and position
unfoldable pub index_equal : List ℕ → ℕ → Bool
index_equal list at = place_equal list at (place_told (place_of (word_of list at 4) (word_of list at 5)))

-- block, offset and hops
abbrev pub found_equal : List ℕ → ℕ → TidFind → Bool
found_equal list at a = told_of list at (bare_of a.code) a.block a.offset a.hops

-- the lookup on a card
abbrev pub lookup_on : List ℕ → ℕ → ℕ → ℕ → ℕ → Result Found Refusal
lookup_on list card head size position =
    lookup_of (card_with (word_of list card 0) (word_of list card 1) (image_of list card)) (block_list head size) position

-- the question: card, head, size and position
unfoldable pub find_equal : List ℕ → ℕ → Bool
find_equal list at =
    found_equal list at (found_told (lookup_on list (word_of list at 4) (word_of list at 5) (word_of list at 6) (word_of list at 7)))

-- one step of a visit on a card
abbrev pub step_on : List ℕ → ℕ → Visit → Result Step Refusal
step_on list card v = traverse_of (card_with (word_of list card 0) (word_of list card 1) (image_of list card)) v

-- A visit that goes on behind i blocks: block i is word i of `blocks`, and the answer has how many were handed over. More than k blocks are not equal.
unfoldable pub visited_of : ℕ → List ℕ → ℕ → ℕ → ℕ → ℕ → Visit → Bool
visited_of zero list at card blocks i v = false
visited_of (suc k) list at card blocks i v =
    elim (step_on list card v) [
      | Ok s ↦
          eqb s.block (word_of list blocks i)
          && elim s.next [
            | Some next ↦ visited_of k list at card blocks (suc i) next
            | None ↦ told_of list at (bare_of accepted) (suc i) 0 0
          ]
      | Err r ↦ told_of list at (bare_of (refusal_code r)) i 0 0
    ]

-- at most 64 blocks
abbrev pub begun_equal : List ℕ → ℕ → ℕ → ℕ → Result (Option Visit) Refusal → Bool
begun_equal list at card blocks (Ok None) = told_of list at (bare_of accepted) 0 0 0
begun_equal list at card blocks (Ok (Some v)) = visited_of 64 list at card blocks 0 v
begun_equal list at card blocks (Err r) = told_of list at (bare_of (refusal_code r)) 0 0 0

-- the visit of a list on a card
abbrev pub visit_on : List ℕ → ℕ → ℕ → ℕ → Result (Option Visit) Refusal
visit_on list card head size = begin_of (geometry (word_of list card 0) (word_of list card 1)) (block_list head size)

-- the question: card, head and size, and where the blocks stand
unfoldable pub visit_equal : List ℕ → ℕ → Bool
visit_equal list at =
    begun_equal list at (word_of list at 4) (word_of list at 7) (visit_on list (word_of list at 4) (word_of list at 5) (word_of list at 6))
