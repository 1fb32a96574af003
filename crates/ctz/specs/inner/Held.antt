-- The visit with the number that a step holds: how the steps' own record carries it on.
use Rattle.std.specs.Prelude.{Bool, true, false, Option, None, Some, [], ◌∷◌, ℕ, zero, suc, ◌-◌, ◌%◌, ltb, eqb}
use Rattle.ctz.specs.declared.visit.Visit.{Visit}
use Rattle.ctz.specs.Visits.{Visited}

-- the number that is held, else pointer 0
abbrev pub next_block : (ℕ → ℕ → ℕ) → ℕ → Option ℕ → ℕ
next_block ptr k (Some held) = held
next_block ptr k None = ptr k 0

-- what is held for the step after the next: pointer 1, where nothing is held now and the index is even
abbrev pub hold_by : (ℕ → ℕ → ℕ) → ℕ → Option ℕ → Bool → Option ℕ
hold_by ptr k (Some held) odd = None
hold_by ptr k None true = None
hold_by ptr k None false = Some (ptr k 1)

abbrev pub next_held : (ℕ → ℕ → ℕ) → ℕ → ℕ → Option ℕ → Option ℕ
next_held ptr i k held = hold_by ptr k held (eqb (i % 2) 1)

-- where the visit stands behind index i above 0
abbrev pub next_visit : (ℕ → ℕ → ℕ) → Visit → Visit
next_visit ptr v =
    record { index = v.index - 1; block = next_block ptr v.block v.after; after = next_held ptr v.index v.block v.after }

-- a visit at its last index: head, top
abbrev pub visit_at : ℕ → ℕ → Visit
visit_at head top = record { index = top; block = head; after = None }

abbrev pub hand_on : ℕ → Visited → Visited
hand_on k v = record { handed = k ∷ v.handed; clean = v.clean }

-- the visit from index i in block k on
unfoldable pub visit_held : (ℕ → ℕ → ℕ) → ℕ → ℕ → ℕ → Option ℕ → Visited
visit_held ptr N zero k held =
    elim (ltb k N) [ false ↦ record { handed = []; clean = false } | true ↦ record { handed = k ∷ []; clean = true } ]
visit_held ptr N (suc i) k held =
    elim (ltb k N) [
      | false ↦ record { handed = []; clean = false }
      | true ↦ hand_on k (visit_held ptr N i (next_block ptr k held) (next_held ptr (suc i) k held))
    ]
