-- What inner functions ask of a window, of N and L, and of a map that is marked.
use Rattle.std.specs.Prelude.{List, ℕ, zero, ◌-◌, ◌*◌, ◌≤◌, ◌<◌}
use Rattle.window.specs.declared.Lookahead.{Lookahead}
use Rattle.window.specs.Value.{Scope}

-- N and L, one after the other
abbrev pub scope : ℕ → ℕ → Scope
scope n l = record { N = n; L = l }

-- a window that passes the test, as facts
pub record ValidWindow (w : Lookahead) (n l : ℕ) : Type 0 where
  pub start_lt : w.start < n
  pub next_le : w.next ≤ w.size
  pub size_le : w.size ≤ 8 * l
  pub size_le_n : w.size ≤ n
  pub left_le : w.size - w.next ≤ w.ckpoint
  pub ck_le : w.ckpoint ≤ n

-- what is known of N and L once they were tested
pub record GoodScope (n l : ℕ) : Type 0 where
  pub n_pos : zero < n
  pub n_le : n ≤ 65536
  pub l_ge : 8 ≤ l
  pub l_le : l ≤ 64

-- what a search asks of its window: no sum wraps, and no offset leaves the map
pub record Searchable (w : Lookahead) (n : ℕ) : Type 0 where
  pub n_le : n ≤ 65536
  pub start_lt : w.start < n
  pub next_le : w.next ≤ w.size
  pub size_le : w.size ≤ 512
  pub left_le : w.size - w.next ≤ w.ckpoint

-- the window of `size` offsets from `start` on with this map, none of them passed: what marking looks at
abbrev pub window_on : ℕ → ℕ → List ℕ → Lookahead
window_on start size m = record { map = m; start = start; next = 0; size = size; ckpoint = 0 }

-- what a mark is asked with: a block of the card, and a window of at most 512 offsets on it
pub record MarkAsked (start size n block : ℕ) : Type 0 where
  pub few : n ≤ 65536
  pub start_lt : start < n
  pub size_le : size ≤ 512
  pub block_lt : block < n
