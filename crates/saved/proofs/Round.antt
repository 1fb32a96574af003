-- A saved table loads, and to itself. Assumes nothing.
use mathlib.Core.Path.{◌≡◌, refl, ap, ◌∙◌}
use mathlib.Core.Bool.{true}
use mathlib.Core.List.{List, [], ◌∷◌, ◌++◌, append_assoc, append-nil}
use Prim.Native.Nat.{ℕ, suc}
use native.Mathlib.Omega.{arith}
use lib.ListN.{length}
use Rattle.layout.specs.Numbers.{files_max, number_max, size_max, null_block, head_max}
use Rattle.files.specs.declared.Entry.{Entry}
use Rattle.files.specs.declared.Table.{Table}
use Rattle.files.specs.Table.{held, table_of, files_ok, table_ok}
use Rattle.files.specs.Change.{empty_file}
use Rattle.files.proofs.Tests.{eqb_cases}
use Rattle.files.proofs.Laws.{first_good, rest_ok, held_ok, count_ok, held_length, GoodEntry}
use Rattle.std.specs.Prelude.{Ok}
use Rattle.saved.specs.Load.{read, read_size, read_entry, read_files, finish, load_of, file_before}
use Rattle.saved.specs.Save.{head_bytes, entry_bytes, files_bytes, save_of, groups}
use Rattle.saved.proofs.Steps.{head_none, head_some, head_yes, size_empty, size_some, entry_yes, files_yes, load_yes}
use Rattle.saved.proofs.Numbers.{up_to_lem}

-- a file without bytes is the empty file
empty_is : (e : Entry) → e.size ≡ 0 → e.head ≡ null_block → empty_file e.number ≡ e
empty_is e s h = rw (← s, ← h)

size_read : (least : ℕ) (e : Entry) (rest : List ℕ) → GoodEntry least e → read_size e.number (groups e.size ++ (head_bytes e ++ rest)) ≡ read e rest
size_read least e rest g =
    let q = up_to_lem size_max e.size (head_bytes e ++ rest) g.size_le in
    eqb_cases e.size 0 (λ _. read_size e.number (groups e.size ++ (head_bytes e ++ rest)) ≡ read e rest)
    (λ z. size_empty e.number _ e.size _ q z ∙ rw (head_none e z, empty_is e z (g.head_null z)))
    (λ z. size_some e.number _ e.size _ q z ∙ rw (head_some e z)
    (head_yes e.number e.size _ e.head rest (up_to_lem head_max e.head rest (g.head_le (omega arith)))))

entry_read : (least : ℕ) (e : Entry) (rest : List ℕ) → GoodEntry least e → read_entry least (entry_bytes e ++ rest) ≡ read e rest
unfolding entry_bytes
entry_read least e rest g =
    rw (append_assoc (groups e.number) (groups e.size ++ head_bytes e) rest, append_assoc (groups e.size) (head_bytes e) rest)
    (entry_yes least _ e.number _ (up_to_lem number_max e.number _ g.number_le) g.least_le ∙ size_read least e rest g)

before_read : (e : Entry) (es : List Entry) (rest : List ℕ) → file_before e (read es rest) ≡ read (e ∷ es) rest
unfolding file_before
before_read e es rest = refl

pub files_read : (least : ℕ) (es : List Entry) (rest : List ℕ) → files_ok least es ≡ true → read_files (length es) (files_bytes es ++ rest) least ≡ read es rest
unfolding files_bytes read_files
files_read least [] rest h = refl
files_read least (e ∷ es) rest h =
    rw (append_assoc (entry_bytes e) (files_bytes es) rest)
    (files_yes (length es) least _ e _ (entry_read least e (files_bytes es ++ rest) (first_good least e es h))
    ∙ ap (file_before e) (files_read (suc e.number) es rest (rest_ok least e es h))
    ∙ before_read e es rest)

finish_read : (es : List Entry) → finish (read es []) ≡ Ok (table_of es)
unfolding finish
finish_read es = refl

-- load of save is the table, with zero entries past the count
pub load_save : (t : Table) → table_ok t ≡ true → load_of (save_of t) ≡ Ok (table_of (held t))
unfolding save_of
load_save t h =
    let r = rw (held_length t h, append-nil (files_bytes (held t))) at (files_read 0 (held t) [] (held_ok t h)) in
    load_yes _ t.count (files_bytes (held t)) (up_to_lem files_max t.count (files_bytes (held t)) (count_ok t h))
    ∙ ap finish r
    ∙ finish_read (held t)
