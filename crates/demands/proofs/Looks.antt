-- Size, seek, read and stretch of a file of a table of sound lists answer what the plain files give, for every number, position, room and offset. Assumes nothing.
use mathlib.Core.Path.{◌≡◌, refl, sym, ap, ◌∙◌}
use mathlib.Core.Bool.{true, false}
use mathlib.Core.List.{List}
use Prim.Native.Nat.{ℕ, ◌-◌, ◌≤◌, min}
use native.Mathlib.Omega.{arith}
use borrow.Author.Tests.{lt-ltb}
use lib.ListN.{length, take, drop}
use Rattle.layout.specs.Layout.{offset_at}
use Rattle.layout.specs.Numbers.{size_max, accepted}
use Rattle.layout.specs.Refusals.{answer_code}
use Rattle.layout.specs.inner.Served.{block_list}
use Rattle.card.specs.inner.Cards.{card_with}
use Rattle.ctz.specs.Lists.{SoundList}
use Rattle.plain.specs.Bytes.{bytes}
use Rattle.plain.specs.inner.Forms.{GoodList}
use Rattle.plain.proofs.Files.{bytes_length}
use Rattle.files.specs.declared.Table.{Table}
use Rattle.std.specs.Prelude.{Result, Ok}
use Rattle.layout.specs.declared.Refusal.{Refusal}
use Rattle.layout.specs.declared.Refusal.TheVariants.{Missing, Invalid}
use Rattle.files.specs.Table.{held, file, find_of, size_of}
use Rattle.files.specs.Seek.{whence_of, seek_of, Seek}
use Rattle.files.proofs.Cases as cases
use Rattle.files.proofs.Tests.{ltb_cases, leb_cases}
use Rattle.grow.specs.Setting.{State}
use Rattle.reading.specs.Calls.{entry_of, asked_of, read_of, stretch_of, stretch_bytes, FilePosition}
use Rattle.reading.specs.inner.Bounds.{file_position}
use Rattle.reading.proofs.Plain as reads
use Rattle.demands.specs.Came.{Sounds}
use Rattle.demands.specs.Calls.{Shape}
use Rattle.demands.specs.Plain.{PlainFile, has_file, file_bytes}
use Rattle.demands.specs.Looks.{plain_size, plain_seek, plain_read, stretch_from, plain_stretch, stretch_code}
use Rattle.demands.specs.Runs.{files_in}
use Rattle.demands.proofs.Tables.{of_sounds}
use Rattle.demands.proofs.Again.{among_at}
use Rattle.demands.proofs.Named.{Placed, placed_at, Unnamed, FindView, high, missing, at, find_view, meets_high, meets_none, meets_far, meets_file_lem}
use Rattle.demands.proofs.Contents.{placed_holds, unnamed_holds, placed_bytes}
use Rattle.demands.proofs.Kept.{sound_files}

module _ {g : Shape} {s : State} (sounds : Sounds g s) where
  abbrev B : ℕ
  B = g.B

  abbrev N : ℕ
  N = g.N

  abbrev t : Table
  t = s.table

  abbrev fs : List PlainFile
  fs = files_in B s

  module _ (number i : ℕ) (pl : Placed number (file t i) i (held t)) where
    good : GoodList B N s.image (file t i).size
    good = (of_sounds (sound_files B N g.L s sounds) (among_at (placed_at pl))).0

    sl : SoundList (card_with B N s.image) (block_list (file t i).head (file t i).size)
    sl = (of_sounds (sound_files B N g.L s sounds) (among_at (placed_at pl))).1

    here : has_file number fs ≡ true
    here = placed_holds B s.image pl

    bytes_here : file_bytes number fs ≡ bytes B s.image (block_list (file t i).head (file t i).size)
    bytes_here = placed_bytes B s.image pl

    length_here : length (file_bytes number fs) ≡ (file t i).size
    length_here = ap length bytes_here ∙ bytes_length good sl

  none_here : (number : ℕ) → Unnamed number (held t) → has_file number fs ≡ false
  none_here number u = unnamed_holds B s.image u

  -- ---- size

  pub size_plain : (number : ℕ) → size_of s.table number ≡ plain_size number (files_in g.B s)
  size_plain number = go (find_view t number sounds.table) refl
    where
      go : {r : Result ℕ Refusal} → FindView t number r → find_of t number ≡ r → size_of t number ≡ plain_size number fs
      go (high k) q = rw (plain_size, meets_high number 0 fs k) (sym (cases.size_refused t number (find_of t number) refl Invalid q))
      go (missing a u) q = rw (plain_size, meets_none number 0 fs a (none_here number u)) (sym (cases.size_refused t number (find_of t number) refl Missing q))
      go (at i a b pl) q =
          rw (plain_size, meets_file_lem number 0 fs a (here number i pl) (omega arith))
          (sym (cases.size_at t number (find_of t number) refl i q) ∙ ap Ok (sym (length_here number i pl)))

  -- ---- seek

  pub seek_plain : (k : Seek)
      → seek_of s.table (record { number = k.number; position = k.position; offset = k.offset; whence = k.whence }) ≡ plain_seek k (files_in g.B s)
  seek_plain k = go (find_view t number sounds.table) refl
    where
      number : ℕ
      number = k.number

      position : ℕ
      position = k.position

      go : {r : Result ℕ Refusal} → FindView t k.number r → find_of t k.number ≡ r
          → seek_of t (record { number = k.number; position = k.position; offset = k.offset; whence = k.whence }) ≡ plain_seek k fs
      go (high h) q =
          rw (plain_seek, meets_high number position fs h) (sym (cases.seek_refused t number (find_of t number) refl position k.offset k.whence Invalid q))
      go (missing a u) q =
          rw (plain_seek, meets_none number position fs a (none_here number u))
          (sym (cases.seek_refused t number (find_of t number) refl position k.offset k.whence Missing q))
      go (at i a b pl) q =
          leb_cases position size_max (λ b. seek_of t (record { number = number; position = position; offset = k.offset; whence = k.whence }) ≡ plain_seek k fs)
          (λ n. rw (plain_seek, meets_file_lem number position fs a (here number i pl) n) (cases.seek_at t number (find_of t number) refl position k.offset k.whence i q n
          ∙ ap (λ (z : ℕ). whence_of (record { number = number; position = position; offset = k.offset; whence = k.whence }) z) (sym (length_here number i pl))))
          (λ f. rw (plain_seek, meets_far number position fs a (here number i pl) f)
          (sym (cases.seek_far t number (find_of t number) refl position k.offset k.whence i q f)))

  -- ---- read

  module _ (number p : ℕ) where
    read_there : (buffer : List ℕ) → read_of (card_with B N s.image) t (file_position number p) buffer ≡ plain_read (file_position number p) buffer fs
    unfolding read_of asked_of
    read_there buffer = go (find_view t number sounds.table) refl
      where
        go : {r : Result ℕ Refusal} → FindView t number r → find_of t number ≡ r → read_of (card_with B N s.image) t (file_position number p) buffer ≡ plain_read (file_position number p) buffer fs
        go (high k) q = rw (plain_read, meets_high number p fs k) (rw (read_of, asked_of, entry_of, sounds.card, q))
        go (missing a u) q = rw (plain_read, meets_none number p fs a (none_here number u)) (rw (read_of, asked_of, entry_of, sounds.card, q))
        go (at i a b pl) q =
            ltb_cases size_max p (λ b. read_of (card_with B N s.image) t (file_position number p) buffer ≡ plain_read (file_position number p) buffer fs)
            (λ f. rw (plain_read, meets_far number p fs a (here number i pl) f) (rw (read_of, asked_of, entry_of, sounds.card, q, lt-ltb size_max p f)))
            (λ n. rw (plain_read, meets_file_lem number p fs a (here number i pl) n) (reads.read_plain B N s.image t number i p sounds.card q n (sl number i pl) buffer
            ∙ rw (length_here number i pl, bytes_here number i pl)))

    -- ---- stretch

    abbrev part : Type 0
    part = stretch_bytes s.image (stretch_of (card_with B N s.image) t (file_position number p)) ≡ plain_stretch B (file_position number p) fs

    abbrev code : Type 0
    code = answer_code (stretch_of (card_with B N s.image) t (file_position number p)) ≡ stretch_code (file_position number p) fs

    stretch_at : (i : ℕ) → Placed number (file t i) i (held t) → find_of t number ≡ Ok i → p ≤ size_max
        → (stretch_bytes s.image (stretch_of (card_with B N s.image) t (file_position number p)) ≡ stretch_from B (file_bytes number fs) p)
        × (answer_code (stretch_of (card_with B N s.image) t (file_position number p)) ≡ accepted)
    stretch_at i pl q n =
        ltb_cases p (file t i).size (λ b. (stretch_bytes s.image (stretch_of (card_with B N s.image) t (file_position number p)) ≡ stretch_from B (file_bytes number fs) p)
        × (answer_code (stretch_of (card_with B N s.image) t (file_position number p)) ≡ accepted))
        (λ l. (
          reads.stretch_plain B N s.image t number i p sounds.card q n (sl number i pl) l ∙ rw (length_here number i pl, bytes_here number i pl),
          ap answer_code (reads.stretch_at B N s.image t number i p sounds.card q n (sl number i pl) l),
        ))
        (λ m.
        let e = reads.stretch_end B N s.image t number i p sounds.card q n (sl number i pl) m in
        let z : 0 ≡ min (B - offset_at B p) (length (file_bytes number fs) - p) = omega (arith, length_here number i pl) in (
          ap (stretch_bytes s.image) e ∙ ap (λ (k : ℕ). take k (drop p (file_bytes number fs))) z,
          ap answer_code e,
        ))

    stretch_there : part × code
    unfolding stretch_of asked_of
    stretch_there = go (find_view t number sounds.table) refl
      where
        go : {r : Result ℕ Refusal} → FindView t number r → find_of t number ≡ r → part × code
        go (high k) q =
            rw (plain_stretch, meets_high number p fs k) (rw (stretch_of, asked_of, entry_of, sounds.card, q), rw (stretch_of, asked_of, entry_of, sounds.card, q))
        go (missing a u) q =
            rw (plain_stretch, meets_none number p fs a (none_here number u)) (rw (stretch_of, asked_of, entry_of, sounds.card, q), rw (stretch_of, asked_of, entry_of, sounds.card, q))
        go (at i a b pl) q =
            ltb_cases size_max p (λ b. part × code)
            (λ f. rw (plain_stretch, meets_far number p fs a (here number i pl) f)
            (rw (stretch_of, asked_of, entry_of, sounds.card, q, lt-ltb size_max p f), rw (stretch_of, asked_of, entry_of, sounds.card, q, lt-ltb size_max p f)))
            (λ n. rw (plain_stretch, meets_file_lem number p fs a (here number i pl) n) (stretch_at i pl q n))

  pub read_plain : (r : FilePosition) (buffer : List ℕ)
      → read_of (card_with g.B g.N s.image) s.table (file_position r.number r.position) buffer ≡ plain_read r buffer (files_in g.B s)
  read_plain r buffer = read_there r.number r.position buffer

  pub stretch_plain : (r : FilePosition)
      → (stretch_bytes s.image (stretch_of (card_with g.B g.N s.image) s.table (file_position r.number r.position)) ≡ plain_stretch g.B r (files_in g.B s))
      × (answer_code (stretch_of (card_with g.B g.N s.image) s.table (file_position r.number r.position)) ≡ stretch_code r (files_in g.B s))
  stretch_plain r = stretch_there r.number r.position
