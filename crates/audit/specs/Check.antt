-- The list check (01, "How a list is laid out"): None of a sound list, or else its first fault.
use Rattle.std.specs.Prelude.{true, false, Option, None, Some, Result, Ok, Err, List, [], ◌∷◌, ℕ, zero, suc, ◌^◌, ltb, eqb}
use Rattle.span.specs.Members.{has}
use Rattle.layout.specs.declared.Refusal.{Refusal}
use Rattle.layout.specs.declared.Refusal.TheVariants.{Invalid}
use Rattle.layout.specs.Numbers.{null_block, size_max}
use Rattle.layout.specs.Layout.{Index, BlockNumber, BlockList}
use Rattle.hops.specs.Walk.{ctz}
use Rattle.card.specs.Card.{Card, is_card, pointer}
use Rattle.ctz.specs.Lists.{down, top_of}
use Rattle.ctz.specs.Lookup.{Pointers, pointers_in}
use Rattle.audit.specs.declared.Fault.{Fault}
use Rattle.audit.specs.declared.Fault.TheVariants.{NotBelow, MetBefore, Disagrees, NotNull}

-- First the pointer-0 walk from the top: at index i, whose block should be k, with the numbers met on the way. Number not below N, then number met before.
unfoldable pub falls : Pointers → Index → BlockNumber → List ℕ → Option Fault
falls v zero k met =
    elim (ltb k v.N)
    [ false ↦ Some (NotBelow 0 0) | true ↦ elim (has met k) [ true ↦ Some (MetBefore 0 0) | false ↦ None ] ]
falls v (suc i) k met =
    elim (ltb k v.N) [
      | false ↦ Some (NotBelow (suc i) 0)
      | true ↦ elim (has met k) [ true ↦ Some (MetBefore (suc i) 0) | false ↦ falls v i (v.stored k 0) (k ∷ met) ]
    ]

-- an index that holds pointers, and its block
pub record Holder : Type 0 where
  pub index : Index
  pub block : BlockNumber

-- If that is clean the further pointers, pointer number rising: so many of one index, from pointer x on. Each names the block that lies 2 ^ x indexes below.
unfoldable pub names : (BlockNumber → ℕ → BlockNumber) → ℕ → Holder → ℕ → Option Fault
names stored zero h x = None
names stored (suc many) h x =
    elim (eqb (stored h.block x) (down stored h.block (2 ^ x)))
    [ true ↦ names stored many h (suc x) | false ↦ Some (Disagrees h.index x) ]

-- the first fault of two checks
abbrev pub and_then : Option Fault → Option Fault → Option Fault
and_then None b = b
and_then (Some f) b = Some f

-- .. index falling, from index i in block k on
unfoldable pub further : (BlockNumber → ℕ → BlockNumber) → Index → BlockNumber → Option Fault
further stored zero k = None
further stored (suc i) k =
    and_then (names stored (ctz (suc i)) (record { index = suc i; block = k }) 1) (further stored i (stored k 0))

-- An empty list is sound exactly if its head is null; else its fault is a kind of its own. A size above the largest is -22.
unfoldable pub check_of : Card → BlockList → Result (Option Fault) Refusal
check_of c l =
    elim (is_card c) [
      | false ↦ Err Invalid
      | true ↦ elim (ltb size_max l.size) [
        | true ↦ Err Invalid
        | false ↦ elim (eqb l.size 0) [
          | true ↦ elim (eqb l.head null_block) [ true ↦ Ok None | false ↦ Ok (Some (NotNull 0 0)) ]
          | false ↦
              Ok
              (and_then (falls (pointers_in c) (top_of c.B l) l.head []) (further (pointer c.B c.image) (top_of c.B l) l.head))
        ]
      ]
    ]
