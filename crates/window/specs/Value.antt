-- The window as a value (01, "The window"): fresh, checkpointed, dropped, which windows are refused, and the calls that set a window up.
use Rattle.std.specs.Prelude.{Bool, true, false, ◌&&◌, List, ℕ, ◌-◌, ◌*◌, ◌%◌, min, ltb, leb, eqb, replicate, Result, Ok, Err}
use Rattle.layout.specs.declared.Geometry.{Geometry}
use Rattle.layout.specs.declared.Refusal.{Refusal}
use Rattle.layout.specs.declared.Refusal.TheVariants.{Invalid}
use Rattle.layout.specs.Geometry.{card_fits}
use Rattle.window.specs.declared.Lookahead.{Lookahead}
use Rattle.window.specs.declared.Windowed.{Windowed}

-- what a window is for: the block count of the card, and lookahead L
pub record Scope : Type 0 where
  pub N : ℕ
  pub L : ℕ

-- a fresh window has next 0, size 0, checkpoint count N and a start below N given by the caller
abbrev pub fresh_of : Scope → ℕ → Lookahead
fresh_of s start = record { map = replicate 64 0; start = start; next = 0; size = 0; ckpoint = s.N }

-- checkpointed: count N
abbrev pub checkpoint_of : ℕ → Lookahead → Lookahead
checkpoint_of N w = record { map = w.map; start = w.start; next = w.next; size = w.size; ckpoint = N }

-- dropped: next 0, size 0, count N
abbrev pub dropped_of : ℕ → Lookahead → Lookahead
dropped_of N w = record { map = w.map; start = w.start; next = 0; size = 0; ckpoint = N }

-- with another map
abbrev pub with_map : Lookahead → List ℕ → Lookahead
with_map w m = record { map = m; start = w.start; next = w.next; size = w.size; ckpoint = w.ckpoint }

-- lookahead L is 8 to 64 bytes, a multiple of 8
unfoldable pub lookahead_fits : ℕ → Bool
lookahead_fits l = leb 8 l && leb l 64 && eqb (l % 8) 0

-- A window is refused unless start is below N, next at most size, size at most min(8*L, N), and size - next at most the checkpoint count, at most N.
unfoldable pub valid_of : Scope → Lookahead → Bool
valid_of s w =
    ltb w.start s.N && leb w.next w.size && leb w.size (min (8 * s.L) s.N)
    && leb (w.size - w.next) w.ckpoint
    && leb w.ckpoint s.N

-- the block count of a geometry, and L
abbrev pub scope_of : Geometry → ℕ → Scope
scope_of g l = record { N = g.block_count; L = l }

-- The calls that set a window up refuse geometry and L, then start or window, with -22, and then all is as it came.
unfoldable pub sizes_fit : Geometry → ℕ → Bool
sizes_fit g l = card_fits g && lookahead_fits l

abbrev pub replied : Lookahead → Bool → Lookahead → Windowed (Result Unit Refusal)
replied w true new = record { answer = Ok tt; window = new }
replied w false new = record { answer = Err Invalid; window = w }

-- what a fresh window is asked with; refused, the answer is the window of zeros
pub record Fresh : Type 0 where
  pub L : ℕ
  pub start : ℕ

unfoldable pub fresh_reply : Geometry → Fresh → Windowed (Result Unit Refusal)
fresh_reply g f =
    replied (fresh_of (record { N = 0; L = 0 }) 0) (sizes_fit g f.L && ltb f.start g.block_count) (fresh_of (scope_of g f.L) f.start)

-- refused, the window as it came
unfoldable pub checkpoint_reply : Geometry → ℕ → Lookahead → Windowed (Result Unit Refusal)
checkpoint_reply g l w = replied w (sizes_fit g l && valid_of (scope_of g l) w) (checkpoint_of g.block_count w)

unfoldable pub dropped_reply : Geometry → ℕ → Lookahead → Windowed (Result Unit Refusal)
dropped_reply g l w = replied w (sizes_fit g l && valid_of (scope_of g l) w) (dropped_of g.block_count w)
