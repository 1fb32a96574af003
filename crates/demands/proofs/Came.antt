-- A window that came from store calls is valid and clean for its table and image. Assumes nothing.
use mathlib.Core.Path.{refl, sym, subst}
use mathlib.Core.Bool.{Bool, ◌&&◌}
use mathlib.Core.List.{List}
use Prim.Native.Nat.{ℕ}
use Rattle.card.specs.inner.Cards.{card_with}
use Rattle.health.specs.Health.{health_ok}
use Rattle.files.specs.Table.{held}
use Rattle.window.specs.Value.{lookahead_fits}
use Rattle.window.specs.inner.Facts.{ValidWindow}
use Rattle.window.proofs.Kept.{fresh_valid}
use Rattle.windows.proofs.Came.{fresh_clean}
use Rattle.windows.proofs.Views.{CleanWindow}
use Rattle.alloc.specs.Visits.{listed_in}
use Rattle.grow.specs.Setting.{State}
use Rattle.grow.specs.inner.Setting.{setting}
use Rattle.demands.specs.Calls.{Shape, Call, create, remove, write, truncate, look, Left, after}
use Rattle.demands.specs.Came.{Sounds, Came, fresh, called}
use Rattle.demands.proofs.Tables.{listed_by}
use Rattle.demands.proofs.Kept.{Held, tested_is}
use Rattle.demands.proofs.Ends.{Ends, accepted, refused, short, ends_same}
use Rattle.demands.proofs.Steps.{create_step, remove_step}
use Rattle.demands.proofs.Puts.{write_step}
use Rattle.demands.proofs.Resizes.{truncate_step}

-- each call
pub step : {B N l : ℕ} {s : State} → Held B N l s → (health : List ℕ) (c : Call)
    → Ends B N l (health_ok health N && lookahead_fits l) c s (after (setting B N l health) c s)
unfolding after
step h health (create number) = create_step h number _
step h health (remove number) = remove_step h number _
step {B} {N} {l} {s} h health (write w) =
    subst (λ (b : Bool). Ends B N l b (write w) s (after (setting B N l health) (write w) s)) (tested_is health h)
    (write_step h health w.number w.position w.bytes)
step {B} {N} {l} {s} h health (truncate t) =
    subst (λ (b : Bool). Ends B N l b (truncate t) s (after (setting B N l health) (truncate t) s)) (tested_is health h)
    (truncate_step h health t.number t.size)
step h health look = ends_same refl refl h

-- keeps what it was given
pub ends_held : {B N l : ℕ} {fits : Bool} {c : Call} {s : State} {o : Left} → Held B N l s → Ends B N l fits c s o → Held B N l o.state
ends_held h (accepted _ _ _ _ k) = k
ends_held {B} {N} {l} h (refused _ _ _ _ q) = subst (Held B N l) (sym q) h
ends_held h (short _ _ _ _ _ k) = k

pub came_held : {g : Shape} {s : State} → Came g s → Sounds g s → Held g.B g.N g.L s
came_held {g} (fresh start t image lt) so =
    record { sounds = so; valid = fresh_valid g.N g.L start lt; clean = fresh_clean g.N g.L start (listed_by g.B g.N (held t) image) }
came_held (called health c came before) so = let h = came_held came before in ends_held h (step h health c)

-- THEOREM. What came from store calls is a valid window in which each block that is not marked is not listed.
pub came_clean : {g : Shape} {s : State} → Came g s → ValidWindow s.window g.N g.L × CleanWindow g.N (listed_in (card_with g.B g.N s.image) s.table) s.window
unfolding listed_in
came_clean {g} (fresh start t image lt) = (fresh_valid g.N g.L start lt, fresh_clean g.N g.L start (listed_by g.B g.N (held t) image))
came_clean (called health c came before) =
    let h = came_held came before in
    let k = ends_held h (step h health c) in
    (k.valid, k.clean)
