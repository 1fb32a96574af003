-- Store calls one after the other, on the card and on plain files.
use Rattle.std.specs.Prelude.{Bool, true, false, ◌&&◌, List, [], ◌∷◌, map, ℕ, ℤ, pos, negsuc}
use Rattle.std.specs.Int.Signed.{le_z}
use Rattle.layout.specs.Numbers.{no_space}
use Rattle.health.specs.Health.{health_ok}
use Rattle.plain.specs.Bytes.{bytes}
use Rattle.files.specs.declared.Entry.{Entry}
use Rattle.files.specs.Table.{held, list_of}
use Rattle.window.specs.Value.{lookahead_fits}
use Rattle.grow.specs.Setting.{Setting, State}
use Rattle.demands.specs.Calls.{Call, Left, after, Shape, under}
use Rattle.demands.specs.Plain.{PlainFile, plain_after, plain_code, grows}

-- how a file of the table reads, and all of them
abbrev pub file_in : ℕ → List ℕ → Entry → PlainFile
file_in B image e = record { number = e.number; bytes = bytes B image (list_of e) }

abbrev pub files_in : ℕ → State → List PlainFile
files_in B s = map (file_in B s.image) (held s.table)

-- a call with the health bytes that it is given, and what it leaves
pub record Request : Type 0 where
  pub health : List ℕ
  pub call : Call

abbrev pub after_in : Shape → Request → State → Left
after_in g c s = after (under g c.health) c.call s

-- 01's number for each call, and the files at the end
pub record Run : Type 0 where
  pub codes : List ℤ
  pub files : List PlainFile

abbrev pub with_code : ℤ → Run → Run
with_code code r = record { codes = code ∷ r.codes; files = r.files }

-- each call is given what the last one handed back
unfoldable pub runs : Shape → List Request → State → Run
runs g [] s = record { codes = []; files = files_in g.B s }
runs g (c ∷ cs) s = with_code (after_in g c s).code (runs g cs (after_in g c s).state)

-- the state that they leave
unfoldable pub ran : Shape → List Request → State → State
ran g [] s = s
ran g (c ∷ cs) s = ran g cs (after_in g c s).state

-- a refused call changes nothing; so does one that asks for blocks where they are short (-28)
abbrev pub answered : ℤ → Bool → Call → List PlainFile → (ℤ → List PlainFile → Run) → Run
answered (negsuc k) short c fs go = go (negsuc k) fs
answered (pos k) true c fs go = go no_space fs
answered (pos k) false c fs go = go (pos k) (plain_after c fs)

-- the same calls on plain files, told only of each whether it fits and whether blocks are short
pub record PlainCall : Type 0 where
  pub fits : Bool
  pub short : Bool
  pub call : Call

unfoldable pub plain_runs : List PlainCall → List PlainFile → Run
plain_runs [] fs = record { codes = []; files = fs }
plain_runs (c ∷ cs) fs =
    answered (plain_code c.fits c.call fs) (c.short && grows c.call fs) c.call fs (λ code gs. with_code code (plain_runs cs gs))

-- what the card says of each call: do its health bytes and L fit, and is it -28
abbrev pub fitting : Setting → Bool
fitting g = health_ok g.health g.N && lookahead_fits g.L

abbrev pub is_short : ℤ → Bool
is_short code = le_z code no_space && le_z no_space code

unfoldable pub plain_calls : Shape → List Request → State → List PlainCall
plain_calls g [] s = []
plain_calls g (c ∷ cs) s =
    record { fits = fitting (under g c.health); short = is_short (after_in g c s).code; call = c.call } ∷ plain_calls g cs (after_in g c s).state
