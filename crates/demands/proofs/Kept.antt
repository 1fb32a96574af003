-- The invariant of the store calls, for tables as values: sound lists, and a window that is valid and clean for them. Assumes nothing.
use mathlib.Core.Path.{◌≡◌, sym, ◌∙◌, subst}
use mathlib.Core.Bool.{true, ◌&&◌, and-true}
use mathlib.Core.List.{List, [], ◌∷◌}
use Prim.Native.Nat.{ℕ, zero, suc, ◌-◌, ◌≤◌, ◌<◌}
use native.Mathlib.Nat.{sub_self}
use native.Mathlib.Omega.{arith}
use lib.ListN.{length, set}
use lib.Seq.{take-set-lt}
use Rattle.layout.specs.Layout.{index_at}
use Rattle.layout.specs.Numbers.{head_max}
use Rattle.layout.specs.inner.Served.{block_list}
use Rattle.card.specs.Card.{pointer}
use Rattle.card.specs.inner.Cards.{card_with}
use Rattle.card.proofs.Cards.{card}
use Rattle.health.specs.Health.{health_ok}
use Rattle.ctz.specs.Lists.{SoundList, down}
use Rattle.ctz.proofs.Sounds.{at}
use Rattle.plain.specs.inner.Forms.{GoodList}
use Rattle.files.specs.declared.Entry.{Entry}
use Rattle.files.specs.declared.Table.{Table}
use Rattle.files.specs.Table.{held, file, files_ok, table_ok}
use Rattle.files.specs.Change.{with_list}
use Rattle.files.proofs.Laws.{first_good, rest_ok, held_ok}
use Rattle.files.proofs.Tests.{both_right}
use Rattle.files.proofs.Replaced.{Fitting, altered, put_ok}
use Rattle.window.specs.declared.Lookahead.{Lookahead}
use Rattle.window.specs.Value.{lookahead_fits}
use Rattle.window.specs.inner.Facts.{ValidWindow, GoodScope}
use Rattle.window.proofs.Valid.{valid_tested, looks}
use Rattle.windows.proofs.Views.{CleanWindow}
use Rattle.grow.specs.Setting.{State, tested_of}
use Rattle.grow.specs.inner.Setting.{setting}
use Rattle.demands.specs.Came.{Among, here, there, Sounds}
use Rattle.demands.proofs.Tables.{listed_by, SoundFiles, none, one, of_sounds}
use Rattle.demands.proofs.Store.{Before}
use Rattle.demands.proofs.Again.{AtPlace}
use Rattle.demands.proofs.Named.{Placed, placed_at}
use Rattle.demands.proofs.Records.{shape}

-- What holds before each store call on sound lists, and after it.
pub record Held (B N l : ℕ) (s : State) : Type 0 where
  pub sounds : Sounds (shape B N l) s
  pub valid : ValidWindow s.window N l
  pub clean : CleanWindow N (listed_by B N (held s.table) s.image) s.window

-- ---- sound tables, file by file

pub sound_files : (B N l : ℕ) (s : State) → Sounds (shape B N l) s → SoundFiles B N s.image (held s.table)
sound_files B N l s so = go 0 (held s.table) (held_ok s.table so.table) so.list
  where
    go : (least : ℕ) (es : List Entry) → files_ok least es ≡ true → ((e : Entry) → Among e es → SoundList (card_with B N s.image) (block_list e.head e.size))
        → SoundFiles B N s.image es
    go least [] q f = none
    go least (e ∷ es) q f =
        one (record { good = so.card; fits = (first_good least e es q).size_le }) (f e here) (go (suc e.number) es (rest_ok least e es q) (λ x a. f x (there a)))

-- a sound list can stand in a table
sound_fits : {B N : ℕ} {img : List ℕ} (e : Entry) → GoodList B N img e.size → SoundList (card_with B N img) (block_list e.head e.size) → Fitting e.size e.head
unfolding down
sound_fits {B} {N} {img} e g l = record { size_le = g.fits; head_null = l.null; head_le = low }
  where
    low : zero < e.size → e.head ≤ head_max
    low p =
        let top = index_at B (e.size - 1) in
        let b : at (pointer B img) e.head top top < N = (l.list p).below top (omega arith) in
        let b' : e.head < N = rw (sub_self top) at b in
        omega (arith, (card B N (length img) g.good).few)

-- ---- the invariant and what a write starts from

pub before : {B N l : ℕ} {s : State} → Held B N l s → Before B N l (held s.table) s.window s.image
before {B} {N} {l} {s} h =
    record { good = h.sounds.card; sounds = sound_files B N l s h.sounds; valid = h.valid; clean = h.clean }

pub again : {B N l : ℕ} (t : Table) (w : Lookahead) (img : List ℕ) → table_ok t ≡ true → Before B N l (held t) w img
    → Held B N l (record { window = w; table = t; image = img })
again t w img ok b = record {
  sounds = record { card = b.good; table = ok; list = λ e a. (of_sounds b.sounds a).1 };
  valid = b.valid;
  clean = b.clean;
}

-- one file with another size and head: the files of that table
pub held_put : (t : Table) (i size h : ℕ) → i < t.count → held (with_list t i (record { head = h; size = size })) ≡ set (held t) i (altered (file t i) size h)
held_put t i size h b = take-set-lt t.count t.files i (altered (file t i) size h) b

among_set : {e : Entry} {m : ℕ} {es : List Entry} (e' : Entry) → AtPlace e m es → Among e' (set es m e')
among_set e' AtPlace.first = here
among_set e' (AtPlace.next a) = there (among_set e' a)

pub put_held : {B N l : ℕ} (t : Table) (number i size h : ℕ) (w : Lookahead) (img : List ℕ) → table_ok t ≡ true → i < t.count
    → Placed number (file t i) i (held t) → Before B N l (set (held t) i (altered (file t i) size h)) w img
    → Held B N l (record { window = w; table = with_list t i (record { head = h; size = size }); image = img })
put_held {B} {N} {l} t number i size h w img ok b p bf =
    let e' : Entry = altered (file t i) size h in
    let so = of_sounds bf.sounds (among_set e' (placed_at p)) in
    again (with_list t i (record { head = h; size = size })) w img (put_ok t i size h ok b (sound_fits e' so.0 so.1))
    (subst (λ (fs : List Entry). Before B N l fs w img) (sym (held_put t i size h b)) bf)

-- ---- the tests in front of a write

-- on sound lists with a valid window only health bytes and L are left to test
pub tested_is : {B N l : ℕ} {s : State} (health : List ℕ) → Held B N l s
    → tested_of (setting B N l health) s.window (length s.image) ≡ (health_ok health N && lookahead_fits l)
unfolding tested_of
tested_is {B} {N} {l} {s} health h =
    rw (tested_of, h.sounds.card, valid_tested s.window N l h.valid) (and-true (health_ok health N && lookahead_fits l))

pub tested_sizes : {B N l : ℕ} {s : State} (health : List ℕ) → Held B N l s → tested_of (setting B N l health) s.window (length s.image) ≡ true → GoodScope N l
tested_sizes {B} {N} {l} {s} health h q =
    let c = card B N (length s.image) h.sounds.card in
    looks N l c.some c.few (both_right (health_ok health N) (lookahead_fits l) (sym (tested_is health h) ∙ q))
