-- The lookups of a write: what the inner functions answer and ask.
use Rattle.std.specs.Prelude.{Bool, true, false, Result, Ok, Err, List, [], ◌∷◌, ◌++◌, ◌≡◌, ℕ, ◌+◌, ◌-◌, ◌<◌, ltb}
use Rattle.layout.specs.Layout.{index_at, start}
use Rattle.layout.specs.declared.Refusal.{Refusal}
use Rattle.layout.specs.declared.Refusal.TheVariants.{Damaged}
use Rattle.layout.specs.inner.Served.{block_list}
use Rattle.card.specs.inner.Cards.{card_with}
use Rattle.ctz.specs.Lookup.{walk_to}
use Rattle.files.specs.declared.Entry.{Entry}
use Rattle.old_list.specs.Write.{Look, look_of, when, starts, looked, first_head}

-- a lookup in the list of a file
abbrev pub look_in : ℕ → ℕ → Entry → List ℕ → ℕ → Look
look_in B N e image p = look_of (walk_to (card_with B N image) (block_list e.head e.size) p)

-- what the code answers for it
abbrev pub looked_of : Look → Result ℕ Refusal
looked_of (Look.Found k) = Ok k
looked_of Look.Lost = Err Damaged

-- and where it looks for several
abbrev pub found_all : Bool → Result (Unit {0}) Refusal
found_all true = Ok tt
found_all false = Err Damaged

-- where a write looks for what it keeps of the first q bytes: the last kept block, and the one that is copied
abbrev pub kept_wanted : ℕ → ℕ → List ℕ
kept_wanted B q =
    when (ltb 0 (index_at B q)) (start B (index_at B q - 1) ∷ []) ++ when (ltb (start B (index_at B q)) q) (start B (index_at B q) ∷ [])

-- and for the tail of a file of `old` bytes
abbrev pub tail_wanted : ℕ → ℕ → ℕ → List ℕ
tail_wanted B over old = when (ltb over old) (starts B (index_at B over) (index_at B (old - 1) - index_at B over + 1))

abbrev pub found_if : Bool → ℕ → Look
found_if true h = Look.Found h
found_if false h = Look.Lost

-- the head of the first growth, where all that is kept is found
unfoldable pub kept_of : (List ℕ → ℕ → Look) → ℕ → List ℕ → ℕ → Look
kept_of look B img q = found_if (looked (look img) (kept_wanted B q)) (first_head (look img) q)

-- first is where the block of byte q - 1 starts, behind another block
pub record Behind (B q first : ℕ) : Type 0 where
  pub start : first ≡ start B (index_at B q)
  pub some : 0 < first
  pub inside : first < q
