-- A scan, file by file: what is left of it from the window as it stands. Assumes nothing.
use mathlib.Core.Path.{◌≡◌, refl, ap, ap₂, sym, ◌∙◌}
use mathlib.Core.Bool.{Bool, true, false}
use mathlib.Core.List.{List, ◌∷◌}
use Prim.Native.Nat.{ℕ, ◌+◌, ◌≤◌, ◌<◌}
use native.Mathlib.Numerals.{add-one}
use native.Mathlib.Omega.{arith}
use lib.ListN.{length, get_or, drop}
use lib.Seq.{drop-cons}
use Rattle.std.proofs.lemmas.List.{drop_all, get_or-take, length-take-le}
use Rattle.std.specs.Prelude.{Result, Ok, Err}
use Rattle.layout.specs.declared.Refusal.{Refusal}
use Rattle.layout.specs.declared.Refusal.TheVariants.{Damaged}
use Rattle.layout.specs.Numbers.{size_max}
use Rattle.card.specs.inner.Cards.{card_with}
use Rattle.files.specs.declared.Entry.{Entry}
use Rattle.files.specs.declared.Table.{Table}
use Rattle.files.specs.Table.{no_entry, held, table_ok}
use Rattle.files.proofs.Laws.{slots_ok, count_ok, table_valid}
use Rattle.window.specs.declared.Lookahead.{Lookahead}
use Rattle.window.specs.declared.Windowed.{Windowed}
use Rattle.window.specs.Scan.{mark_all, visit_answer, Seen, seen_all, cleared, scan_from, scan_of}
use Rattle.window.specs.Value.{with_map, dropped_of}
use Rattle.window.specs.inner.Facts.{window_on, scope}
use Rattle.window.proofs.Scans.{marks_seen, scan_start, scan_end, scan_file, scan_stops}
use Rattle.alloc.specs.Visits.{seen_of, visits_of, seen_in}
use Rattle.alloc.specs.inner.Facts.{FileMarked}

-- what the answer of a visit tells
went_on : (t : Bool) → visit_answer t ≡ Ok tt → t ≡ true
went_on true e = refl
went_on false e = let z : ◌≡◌ {A = ℕ} 0 1 = cc in absurd (omega arith)

stopped : (t : Bool) (x : Refusal) → visit_answer t ≡ Err x → (t ≡ false) × (Damaged ≡ x)
stopped true x e = let z : ◌≡◌ {A = ℕ} 0 1 = cc in absurd (omega arith)
stopped false x e = (refl, cc)

module _ (B N : ℕ) (image : List ℕ) (es : List Entry) where
  -- what the files from place i on make of a window
  abbrev pub scan_rest : ℕ → Lookahead → Windowed (Result Unit Refusal)
  scan_rest i v = scan_from N (seen_all (visits_of (card_with B N image) (drop i es))) v

  -- the scan of all files from the window v₀ comes to that of the files from place i on, from the window v
  pub record Scanning (start size : ℕ) (v₀ : Lookahead) (i : ℕ) (v : Lookahead) : Type 0 where
    pub start_is : v.start ≡ start
    pub size_is : v.size ≡ size
    pub rest : scan_rest 0 v₀ ≡ scan_rest i v

  module _ {start size : ℕ} {v₀ : Lookahead} {i : ℕ} {v : Lookahead} (s : Scanning start size v₀ i v) where
    pub scanned_all : length es ≤ i → scan_rest 0 v₀ ≡ record { answer = Ok tt; window = v }
    scanned_all h = s.rest ∙ rw (drop_all i es h) (scan_end N v)

    module _ (h : i < length es) {m : List ℕ} {r : Result Unit Refusal}
        (f : FileMarked start size N (seen_of (card_with B N image) (get_or es i no_entry)) v.map m r) where
      abbrev file : Seen
      file = seen_of (card_with B N image) (get_or es i no_entry)

      -- the file at place i, then the rest
      first : scan_rest 0 v₀ ≡ scan_from N (seen_all (file ∷ visits_of (card_with B N image) (drop (i + 1) es))) v
      first = s.rest ∙ rw (drop-cons es i no_entry h, add-one i)

      map_is : m ≡ mark_all N v file.blocks
      map_is = f.marks ∙ sym (ap₂ (λ (a z : ℕ). mark_all N (window_on a z v.map) file.blocks) s.start_is s.size_is) ∙ sym (marks_seen N file.blocks v)

      pub scanned_one : r ≡ Ok tt → Scanning start size v₀ (i + 1) (with_map v m)
      scanned_one e = record {
        start_is = s.start_is;
        size_is = s.size_is;
        rest = first ∙ scan_file N v file _ (went_on file.ok (sym f.ends ∙ e)) ∙ ap (λ (x : List ℕ). scan_rest (i + 1) (with_map v x)) (sym map_is);
      }

      pub scanned_none : (x : Refusal) → r ≡ Err x → scan_rest 0 v₀ ≡ record { answer = Err x; window = dropped_of N (with_map v m) }
      scanned_none x e =
          let t = stopped file.ok x (sym f.ends ∙ e) in
          first ∙ scan_stops N v file _ t.0
          ∙ ap₂ (λ (y : Refusal) (z : List ℕ). record { answer = Err y; window = dropped_of N (with_map v z) }) t.1 (sym map_is)

-- a whole scan
pub scan_answers : (B N l : ℕ) (image : List ℕ) (t : Table) (w v₀ : Lookahead) {r : Windowed (Result Unit Refusal)} → v₀ ≡ cleared (scope N l) w
    → scan_rest B N image (held t) 0 v₀ ≡ r → r ≡ scan_of (scope N l) (seen_in (card_with B N image) t) w
unfolding seen_in
scan_answers B N l image t w v₀ p q = sym q ∙ ap (λ (v : Lookahead). scan_rest B N image (held t) 0 v) p ∙ sym (scan_start N l _ w)

-- each file of a table is at most as long as the largest
pub held_size : (t : Table) → table_ok t ≡ true → (i : ℕ) → i < length (held t) → (get_or (held t) i no_entry).size ≤ size_max
held_size t h i b =
    let p : i < t.count = omega (arith, slots_ok t h, count_ok t h, length-take-le t.count t.files (omega (arith, slots_ok t h, count_ok t h))) in
    rw (get_or-take t.count t.files i no_entry p) ((table_valid t h).size_le i p)
