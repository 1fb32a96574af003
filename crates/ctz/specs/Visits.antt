-- The visit of a list (01, "Lookup, visit, grow"), as a whole and a step at a time.
use Rattle.std.specs.Prelude.{Bool, true, false, Option, None, Some, Result, Ok, Err, List, [], ◌∷◌, ℕ, zero, suc, ◌-◌, ◌%◌, ltb, eqb}
use Rattle.layout.specs.declared.Geometry.{Geometry}
use Rattle.layout.specs.declared.Refusal.{Refusal}
use Rattle.layout.specs.declared.Refusal.TheVariants.{Invalid, Damaged}
use Rattle.layout.specs.Numbers.{size_max}
use Rattle.layout.specs.Geometry.{card_fits}
use Rattle.layout.specs.Layout.{Index, BlockNumber, BlockList}
use Rattle.card.specs.Card.{Card, is_card}
use Rattle.ctz.specs.declared.visit.Visit.{Visit}
use Rattle.ctz.specs.declared.visit.Step.{Step}
use Rattle.ctz.specs.Lists.{top_of}
use Rattle.ctz.specs.Lookup.{Pointers, pointers_in}

-- the numbers that a visit hands over, in order, and whether it came to its end (false: -84)
pub record Visited : Type 0 where
  pub handed : List ℕ
  pub clean : Bool

-- a number is tested against N just before it is handed over
unfoldable pub hand : Pointers → BlockNumber → Visited → Visited
hand v k rest =
    elim (ltb k v.N) [
      | false ↦ record { handed = []; clean = false }
      | true ↦ record { handed = k ∷ rest.handed; clean = rest.clean }
    ]

-- Last index first, each index down to 0 once; an odd index reads one pointer, an even one above 0 reads two. From index i in block k on:
unfoldable pub visit : Pointers → Index → BlockNumber → Visited
visit v zero k = hand v k (record { handed = []; clean = true })
visit v (suc zero) k = hand v k (visit v zero (v.stored k 0))
visit v (suc (suc i)) k =
    elim (eqb (i % 2) 1) [
      | true ↦ hand v k (visit v (suc i) (v.stored k 0))
      | false ↦ hand v k (hand v (v.stored k 0) (visit v i (v.stored k 1)))
    ]

-- the visit of a file's list: an empty list hands nothing over
unfoldable pub visit_of : Card → BlockList → Visited
visit_of c l =
    elim (eqb l.size 0) [ true ↦ record { handed = []; clean = true } | false ↦ visit (pointers_in c) (top_of c.B l) l.head ]

-- ---- a step at a time: a visit waits at an index with its block number, and has the number of the index below it in `after` where it read that already

-- where it goes on behind an index above 0 (what is held; odd?): the held number; else pointer 0, and at an even index pointer 1 is held
abbrev pub on_below : (BlockNumber → ℕ → BlockNumber) → Option BlockNumber → Visit → Bool → Visit
on_below stored (Some k) w odd = record { index = w.index - 1; block = k; after = None }
on_below stored None w true = record { index = w.index - 1; block = stored w.block 0; after = None }
on_below stored None w false = record { index = w.index - 1; block = stored w.block 0; after = Some (stored w.block 1) }

-- a step: the number that it hands over, and the visit that goes on behind it
abbrev pub handing : BlockNumber → Option Visit → Result Step Refusal
handing k next = Ok (record { block = k; next = next })

-- a number not below N is -84; behind index 0 no visit goes on
unfoldable pub step_of : Pointers → Visit → Result Step Refusal
step_of v w =
    elim (ltb w.block v.N) [
      | false ↦ Err Damaged
      | true ↦ elim (eqb w.index 0) [
        | true ↦ handing w.block None
        | false ↦ handing w.block (Some (on_below v.stored w.after w (eqb (w.index % 2) 1)))
      ]
    ]

-- the step on a card, -22 where it is none
unfoldable pub traverse_of : Card → Visit → Result Step Refusal
traverse_of c w = elim (is_card c) [ false ↦ Err Invalid | true ↦ step_of (pointers_in c) w ]

-- the beginning, at the last index, and none of an empty list; a size above the largest is -22
unfoldable pub begin_of : Geometry → BlockList → Result (Option Visit) Refusal
begin_of g l =
    elim (card_fits g) [
      | false ↦ Err Invalid
      | true ↦ elim (ltb size_max l.size) [
        | true ↦ Err Invalid
        | false ↦ elim (eqb l.size 0) [
          | true ↦ Ok None
          | false ↦ Ok (Some (record { index = top_of g.block_size l; block = l.head; after = None }))
        ]
      ]
    ]
