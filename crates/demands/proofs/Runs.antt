-- Any sequence of store calls on sound lists gives the plain files that the same calls give. Assumes nothing.
use mathlib.Core.Path.{◌≡◌, refl, ap, ◌∙◌}
use mathlib.Core.Bool.{Bool, true, ◌&&◌}
use mathlib.Core.List.{List, [], ◌∷◌}
use Prim.Native.Nat.{ℕ, ◌<◌}
use native.Mathlib.Omega.{arith}
use lib.ListN.{length}
use Rattle.layout.specs.inner.Served.{geometry, block_list}
use Rattle.card.specs.Card.{good_card}
use Rattle.card.specs.inner.Cards.{card_with}
use Rattle.ctz.specs.Lists.{SoundList}
use Rattle.files.specs.declared.Entry.{Entry}
use Rattle.files.specs.declared.Table.{Table}
use Rattle.files.specs.Table.{held, table_of, files_ok}
use Rattle.files.proofs.Lists.{of_ok}
use Rattle.window.specs.Value.{fresh_of}
use Rattle.window.specs.inner.Facts.{scope}
use Rattle.grow.specs.Setting.{State}
use Rattle.demands.specs.Calls.{Call, Left, Shape}
use Rattle.demands.specs.Came.{Among, here, there, Sounds, Came, fresh, called}
use Rattle.demands.specs.Plain.{PlainFile, plain_code, grows}
use Rattle.demands.specs.Runs.{files_in, Run, runs, ran, answered, is_short, plain_runs, plain_calls, Request, with_code, after_in}
use Rattle.demands.proofs.Contents.{Plainly, same_files}
use Rattle.demands.proofs.Kept.{Held}
use Rattle.demands.proofs.Ends.{Ends, accepted, refused, short}
use Rattle.demands.proofs.Came.{step, ends_held, came_held}

-- one call, and then what the rest gives
turn : {B N l : ℕ} {fits : Bool} {c : Call} {s : State} {o : Left} → Ends B N l fits c s o → (rest : List PlainFile → Run)
    → with_code o.code (rest (files_in B o.state))
    ≡ answered (plain_code fits c (files_in B s)) (is_short o.code && grows c (files_in B s)) c (files_in B s) (λ code gs. with_code code (rest gs))
turn (accepted q p f _ _) rest = rw (p, q, f)
turn {B} (refused k _ q p e) rest = rw (p, q, e)
turn {B} {s = s} {o = o} (short q p g e r _) rest =
    let f : files_in B o.state ≡ files_in B s
    = ap (λ (t : Table). Plainly B o.state.image (held t)) e ∙ same_files B s.image o.state.image (held s.table) r in
    rw (p, q, g, f)

held_runs : {g : Shape} {s : State} → Held g.B g.N g.L s → (cs : List Request) → runs g cs s ≡ plain_runs (plain_calls g cs s) (files_in g.B s)
unfolding runs plain_runs plain_calls
held_runs h [] = refl
held_runs {g} {s} h (c ∷ cs) =
    let e = step h c.health c.call in
    ap (with_code (after_in g c s).code) (held_runs {g = g} {s = (after_in g c s).state} (ends_held h e) cs) ∙ turn e (plain_runs (plain_calls g cs (after_in g c s).state))

-- THE RUN. From a fresh window, on any table of sound lists: for every sequence of store calls, 01's number of each call and the bytes of all files at the
-- end are those that the same calls give on plain files, refused calls changing nothing.
pub run_plain : (g : Shape) (start : ℕ) (t : Table) (image : List ℕ) → start < g.N
    → (let s : State = record { window = fresh_of (scope g.N g.L) start; table = t; image = image } in
    Sounds g s → (cs : List Request) → runs g cs s ≡ plain_runs (plain_calls g cs s) (files_in g.B s))
run_plain g start t image lt so cs = held_runs {g = g} (came_held (fresh start t image lt) so) cs

-- no file is among none
none_in : {e : Entry} {es : List Entry} (P : Type 0) → length es ≡ 0 → Among e es → P
none_in P z here = absurd (omega arith)
none_in P z (there a) = absurd (omega arith)

-- A card without files: its lists are sound, so the same holds of it.
pub no_files : (g : Shape) (start : ℕ) (image : List ℕ) → good_card (geometry g.B g.N) (length image) ≡ true
    → Sounds g (record { window = fresh_of (scope g.N g.L) start; table = table_of []; image = image })
unfolding files_ok
no_files g start image c =
    record { card = c; table = of_ok [] (omega arith) refl; list = λ e a. none_in (SoundList (card_with g.B g.N image) (block_list e.head e.size)) refl a }

-- The same from any window that came from store calls.
pub run_on : {g : Shape} {s : State} → Came g s → Sounds g s → (cs : List Request) → runs g cs s ≡ plain_runs (plain_calls g cs s) (files_in g.B s)
run_on {g} came so cs = held_runs {g = g} (came_held came so) cs

-- All lists stay sound on the way, and the window came from store calls at the end.
pub run_sound : {g : Shape} {s : State} → Came g s → Sounds g s → (cs : List Request) → Came g (ran g cs s) × Sounds g (ran g cs s)
unfolding ran
run_sound came so [] = (came, so)
run_sound {g} {s} came so (c ∷ cs) =
    let h = came_held came so in
    run_sound {g = g} {s = (after_in g c s).state} (called c.health c.call came so) (ends_held h (step h c.health c.call)).sounds cs
