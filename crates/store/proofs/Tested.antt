-- The tests before a write or truncate: their answers one after the other, and what they tell. Assumes nothing.
use mathlib.Core.Path.{◌≡◌, sym}
use mathlib.Core.Bool.{true, and-eq-true_iff}
use mathlib.Core.List.{List}
use Prim.Native.Nat.{ℕ, ◌+◌, ◌≤◌, ◌<◌}
use native.Mathlib.Nat.{le_of_eq}
use native.Mathlib.Omega.{arith}
use lib.ListN.{length}
use Rattle.layout.specs.Numbers.{files_max, size_max}
use Rattle.layout.specs.inner.Served.{geometry}
use Rattle.card.specs.Card.{good_card}
use Rattle.health.specs.Health.{health_ok}
use Rattle.health.proofs.Health.{healthy}
use Rattle.files.specs.declared.Table.{Table}
use Rattle.std.specs.Prelude.{Ok}
use Rattle.files.specs.Table.{file, find_of}
use Rattle.files.proofs.Laws.{table_valid, count_ok}
use Rattle.files.proofs.Cases.{found_at}
use Rattle.window.specs.declared.Lookahead.{Lookahead}
use Rattle.window.specs.Value.{lookahead_fits, valid_of}
use Rattle.window.specs.inner.Facts.{scope}
use Rattle.alloc.proofs.Tested.{ready}
use Rattle.grow.specs.Setting.{tested_of}
use Rattle.grow.specs.inner.Setting.{setting}
use Rattle.new_list.specs.inner.Put.{Putting}
use Rattle.store.specs.inner.Calls.{Shrinking, CallAsked}

-- behind the tests
pub record Tests (B N l : ℕ) (image health : List ℕ) (w : Lookahead) : Type 0 where
  pub card : good_card (geometry B N) (length image) ≡ true
  pub healths : health_ok health N ≡ true
  pub lookahead : lookahead_fits l ≡ true
  pub window : valid_of (scope N l) w ≡ true

pub tests : (B N l : ℕ) (image health : List ℕ) (w : Lookahead) → tested_of (setting B N l health) w (length image) ≡ true → Tests B N l image health w
unfolding tested_of
tests B N l image health w e =
    let c = (and-eq-true_iff _ (valid_of (scope N l) w)).0 e in
    let b = (and-eq-true_iff _ (lookahead_fits l)).0 c.0 in
    let a = (and-eq-true_iff _ (health_ok health N)).0 b.0 in
    record { card = a.0; healths = a.1; lookahead = b.1; window = c.1 }

module _ (B N l : ℕ) (image health : List ℕ) (w : Lookahead) (t : Table) (number i : ℕ) (e : tested_of (setting B N l health) w (length image) ≡ true)
    (f : find_of t number ≡ Ok i) where
  pub slot : i < files_max
  slot = omega (arith, (found_at t number i f).below, count_ok t (found_at t number i f).ok)

  pub file_most : (file t i).size ≤ size_max
  file_most = (table_valid t (found_at t number i f).ok).size_le i (found_at t number i f).below

  -- what a call asks of the file at place i
  pub asked : CallAsked B N l image health w t i
  asked =
      let a = tests B N l image health w e in
      record {
        ready = ready B N l (length image) t w a.card a.lookahead a.window (found_at t number i f).ok;
        known = le_of_eq (sym (healthy health N a.healths).count);
        slot = slot;
        most = file_most;
      }

module _ {B N l : ℕ} {image health : List ℕ} {w : Lookahead} {t : Table} {i : ℕ} (a : CallAsked B N l image health w t i) where
  pub putting : (pos : ℕ) (src : List ℕ) → pos + length src ≤ size_max → Putting B N l image health t w (file t i) pos src
  putting pos src h = record { ready = a.ready; known = a.known; most = a.most; fits = h }

  pub shrinking : (size : ℕ) → size < (file t i).size → Shrinking B N (length image) t i size
  shrinking size h = record { card = a.ready.card; slot = a.slot; most = a.most; below = h }
