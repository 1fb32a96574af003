-- Bytes that load are the saved form of the table that they load to: load takes nothing else. Assumes nothing.
use mathlib.Core.Path.{◌≡◌, refl, sym, ap, ◌∙◌}
use mathlib.Core.Bool.{true, false}
use mathlib.Core.List.{List, [], ◌∷◌, ◌++◌, append_assoc, append-nil}
use Prim.Native.Nat.{ℕ, zero, suc, ◌≤◌, ◌<◌}
use native.Mathlib.Omega.{arith}
use lib.ListN.{length}
use lib.Dec.{leb, eqb}
use Rattle.layout.specs.Numbers.{files_max, number_max, size_max, null_block, head_max}
use Rattle.files.specs.declared.Entry.{Entry}
use Rattle.files.specs.declared.Table.{Table}
use Rattle.files.specs.Table.{held, table_of, files_ok, table_ok}
use Rattle.files.specs.Change.{empty_file}
use Rattle.files.proofs.Tests.{leb_cases, eqb_cases}
use Rattle.files.proofs.Laws.{join_ok, GoodEntry}
use Rattle.files.proofs.Lists.{held_of, of_ok}
use Rattle.std.specs.Prelude.{Result, Ok}
use Rattle.layout.specs.declared.Refusal.{Refusal}
use Rattle.saved.specs.Load.{damaged, read, read_up_to, read_head, read_size, read_entry, read_files, finish, load_of, file_before, then_read, Parsed}
use Rattle.saved.specs.Save.{head_bytes, entry_bytes, files_bytes, save_of, groups}
use Rattle.saved.proofs.Numbers.{Bytes, InRange, up_to_was, reading_cases}
use Rattle.saved.proofs.Steps.{head_none, head_some}

clash : {A : Type 0} {X : Type 0} (a : A) (w : List ℕ) → damaged ≡ read a w → X
clash a w e = let z : ◌≡◌ {A = ℕ} 0 1 = cc in absurd (omega arith)

-- size and head of a file that was read
record Body (number : ℕ) (e : Entry) (rest bs : List ℕ) : Type 0 where
  named : e.number ≡ number
  size_le : e.size ≤ size_max
  head_null : e.size ≡ 0 → e.head ≡ null_block
  head_le : zero < e.size → e.head ≤ head_max
  written : bs ≡ groups e.size ++ (head_bytes e ++ rest)
  after : Bytes rest

head_was : (number size : ℕ) (e : Entry) (bs cs rest : List ℕ) → Bytes bs → size ≤ size_max → (size ≡ 0 → ⊥) → cs ≡ groups size ++ bs
    → read_head (record { number = number; size = size; head = 0 }) bs ≡ read e rest → Body number e rest cs
unfolding read_head
head_was number size e bs cs rest b s z c =
    reading_cases (read_up_to head_max bs)
    (λ r. then_read r (λ head w. read (record { number = number; size = size; head = head }) w) ≡ read e rest → Body number e rest cs)
    (λ p q. clash e rest q)
    (λ head w p q.
    let i = up_to_was head_max bs head w b p in
    let x : record { number = number; size = size; head = head } ≡ e = cc in
    let y : w ≡ rest = cc in
    rw (← x, ← y)
    (record {
      named = refl;
      size_le = s;
      head_null = λ n. absurd (z n);
      head_le = λ n. i.in_range;
      written = c ∙ rw (head_some (record { number = number; size = size; head = head }) z) (ap (λ (l : List ℕ). groups size ++ l) i.was.written);
      after = i.was.after;
    }))

size_was : (number : ℕ) (e : Entry) (bs rest : List ℕ) → Bytes bs → read_size number bs ≡ read e rest → Body number e rest bs
unfolding read_size
size_was number e bs rest b =
    reading_cases (read_up_to size_max bs)
    (λ r. then_read r (λ size w. elim (eqb size 0) [ true ↦ read (empty_file number) w | false ↦ read_head (record { number = number; size = size; head = 0 }) w ]) ≡ read e rest
    → Body number e rest bs)
    (λ p q. clash e rest q)
    (λ size w p.
    let i = up_to_was size_max bs size w b p in
    eqb_cases size 0 (λ t. (elim t [ true ↦ read (empty_file number) w | false ↦ read_head (record { number = number; size = size; head = 0 }) w ]) ≡ read e rest → Body number e rest bs)
    (λ z q.
    let x : empty_file number ≡ e = cc in
    let y : w ≡ rest = cc in
    rw (← x, ← y)
    (record {
      named = refl;
      size_le = omega arith;
      head_null = λ n. refl;
      head_le = λ n. absurd (omega arith);
      written = i.was.written ∙ rw (z, head_none (empty_file number) refl);
      after = i.was.after;
    }))
    (λ z q. head_was number size e w bs rest i.was.after i.in_range z i.was.written q))

pub record EntryWas (least : ℕ) (e : Entry) (rest bs : List ℕ) : Type 0 where
  pub good : GoodEntry least e
  pub written : bs ≡ entry_bytes e ++ rest
  pub after : Bytes rest

pub entry_was : (least : ℕ) (e : Entry) (bs rest : List ℕ) → Bytes bs → read_entry least bs ≡ read e rest → EntryWas least e rest bs
unfolding read_entry entry_bytes
entry_was least e bs rest b =
    reading_cases (read_up_to number_max bs)
    (λ r. then_read r (λ number w. elim (leb least number) [ true ↦ read_size number w | false ↦ damaged ]) ≡ read e rest → EntryWas least e rest bs)
    (λ p q. clash e rest q)
    (λ number w p.
    let i = up_to_was number_max bs number w b p in
    leb_cases least number (λ t. (elim t [ true ↦ read_size number w | false ↦ damaged ]) ≡ read e rest → EntryWas least e rest bs)
    (λ l q.
    let s = size_was number e w rest i.was.after q in
    record {
      good = record {
        least_le = omega (arith, s.named);
        number_le = omega (arith, s.named, i.in_range);
        size_le = s.size_le;
        head_null = s.head_null;
        head_le = s.head_le;
      };
      written =
          i.was.written
          ∙ rw (append_assoc (groups e.number) (groups e.size ++ head_bytes e) rest, append_assoc (groups e.size) (head_bytes e) rest)
          (ap (λ (l : List ℕ). groups number ++ l) s.written ∙ ap (λ (n : ℕ). groups n ++ (groups e.size ++ (head_bytes e ++ rest))) (sym s.named));
      after = s.after;
    })
    (λ l q. clash e rest q))

-- the files that were read, and the bytes that they were read from
pub record FilesWas (k least : ℕ) (es : List Entry) (rest bs : List ℕ) : Type 0 where
  pub many : length es ≡ k
  pub ok : files_ok least es ≡ true
  pub written : bs ≡ files_bytes es ++ rest

none_was : (least : ℕ) (es : List Entry) (bs rest : List ℕ) → read [] bs ≡ read es rest → FilesWas 0 least es rest bs
unfolding files_bytes files_ok
none_was least es bs rest e =
    let x : [] ≡ es = cc in
    let y : bs ≡ rest = cc in
    rw (← x, ← y) (record { many = refl; ok = refl; written = refl })

one_was : (k least : ℕ) (e : Entry) (fs es : List Entry) (bs w rest : List ℕ) → EntryWas least e w bs → FilesWas k (suc e.number) fs rest w
    → e ∷ fs ≡ es → FilesWas (suc k) least es rest bs
unfolding files_bytes
one_was k least e fs es bs w rest a b x =
    rw (← x)
    (record {
      many = ap suc b.many;
      ok = join_ok least e fs a.good b.ok;
      written = a.written ∙ rw (append_assoc (entry_bytes e) (files_bytes fs) rest) (ap (λ (l : List ℕ). entry_bytes e ++ l) b.written);
    })

pub files_was : (k least : ℕ) (es : List Entry) (bs rest : List ℕ) → Bytes bs → read_files k bs least ≡ read es rest → FilesWas k least es rest bs
unfolding read_files file_before
files_was zero least es bs rest b e = none_was least es bs rest e
files_was (suc k) least es bs rest b e =
    reading_cases (read_entry least bs)
    (λ r. then_read r (λ f w. file_before f (read_files k w (suc f.number))) ≡ read es rest → FilesWas (suc k) least es rest bs)
    (λ p q. clash es rest q)
    (λ f w p. reading_cases (read_files k w (suc f.number)) (λ r. file_before f r ≡ read es rest → FilesWas (suc k) least es rest bs)
    (λ s q. clash es rest q)
    (λ fs v s q.
    let x : f ∷ fs ≡ es = cc in
    let y : v ≡ rest = cc in
    let i = entry_was least f bs w b p in
    one_was k least f fs es bs w rest i (files_was k (suc f.number) fs w rest i.after (s ∙ ap (λ (l : List ℕ). read fs l) y)) x))
    e

-- ---- the theorem

-- the bytes are the saved form of a table, whose slots past the count are zero entries
pub record Exact (t : Table) (bs : List ℕ) : Type 0 where
  pub ok : table_ok t ≡ true
  pub zeroed : table_of (held t) ≡ t
  pub written : save_of t ≡ bs

finish_was : (t : Table) (r : Parsed (List Entry)) → finish r ≡ Ok t → (es : List Entry) × ((r ≡ read es []) × (table_of es ≡ t))
unfolding finish
finish_was t damaged q = let z : ◌≡◌ {A = ℕ} 0 1 = cc in absurd (omega arith)
finish_was t (read es []) q = (es, (refl, (let x : table_of es ≡ t = cc in x)))
finish_was t (read es (b ∷ bs)) q = let z : ◌≡◌ {A = ℕ} 0 1 = cc in absurd (omega arith)

exact : (es : List Entry) (t : Table) (count : ℕ) (bs w : List ℕ) → InRange files_max count w bs → FilesWas count 0 es [] w → table_of es ≡ t → Exact t bs
unfolding save_of
exact es t count bs w i f x =
    rw (← x)
    (record {
      ok = of_ok es (omega (arith, i.in_range, f.many)) f.ok;
      zeroed = ap table_of (held_of es);
      written = rw (held_of es, f.many) (sym (i.was.written ∙ ap (λ (l : List ℕ). groups count ++ l) (f.written ∙ append-nil (files_bytes es))));
    })

-- what load takes is exactly the saved form of the table that it answers
pub load_exact : (t : Table) (bs : List ℕ) → Bytes bs → load_of bs ≡ Ok t → Exact t bs
unfolding load_of finish
load_exact t bs b =
    reading_cases (read_up_to files_max bs)
    (λ r. ◌≡◌ {A = Result Table Refusal} (finish (then_read r (λ count w. read_files count w 0))) (Ok t) → Exact t bs)
    (λ p q. let z : ◌≡◌ {A = ℕ} 0 1 = cc in absurd (omega arith))
    (λ count w p q.
    let i = up_to_was files_max bs count w b p in
    let d = finish_was t (read_files count w 0) q in
    exact d.0 t count bs w i (files_was count 0 d.0 w [] i.was.after d.1.0) d.1.1)
