-- The inner steps of a load: from places in the bytes to the bytes that follow. Assumes nothing.
use mathlib.Core.Path.{◌≡◌, refl, sym, ap, ◌∙◌}
use mathlib.Core.List.{List, [], ◌∷◌, ◌++◌, append-nil}
use Prim.Native.Nat.{ℕ, zero, suc, ◌+◌, ◌-◌, ◌≤◌, ◌<◌}
use native.Mathlib.Numerals.{add-one}
use native.Mathlib.Omega.{arith}
use lib.ListN.{length, drop, set, replicate, length-append, length-drop, drop_of_length-le}
use lib.Seq.{drop-cons, get_or-drop, set-append_seam, append_snoc}
use Rattle.layout.specs.Numbers.{files_max, number_max, size_max, head_max}
use Rattle.files.specs.declared.Entry.{Entry}
use Rattle.files.specs.declared.Table.{Table}
use Rattle.files.specs.Table.{no_entry, table_of}
use Rattle.files.specs.Change.{empty_file}
use Rattle.saved.specs.declared.read.NumberRead.{NumberRead}
use Rattle.std.specs.Prelude.{Option, Some, None, Ok, Err, Result}
use Rattle.saved.specs.declared.read.EntryRead.{EntryRead}
use Rattle.layout.specs.declared.Refusal.{Refusal}
use Rattle.layout.specs.declared.Refusal.TheVariants.{Damaged}
use Rattle.saved.specs.Load.{damaged, read, read_up_to, read_entry, read_size, read_files, finish, load_of, file_before, Parsed}
use Rattle.saved.specs.inner.Steps.{a_number, an_entry, number_told, NumberPost, entry_told, EntryPost}
use Rattle.saved.proofs.Numbers.{Bytes, up_to_le}
use Rattle.saved.proofs.Steps.{head_no, head_yes, size_no, size_empty, size_some, entry_no, entry_low, entry_yes, files_no, files_yes, load_no, load_yes}
use Rattle.saved.proofs.Exact.{entry_was}

-- ---- a number

module _ (bytes : List ℕ) (at limit : ℕ) (r : Option NumberRead) (p : NumberPost bytes at limit r) where
  pub number_gone : r ≡ None → read_up_to limit (drop at bytes) ≡ damaged
  number_gone e = p.told ∙ ap (number_told bytes) e

  pub number_at : (v next : ℕ) → r ≡ Some (a_number v next) → read_up_to limit (drop at bytes) ≡ read v (drop next bytes)
  number_at v next e = p.told ∙ ap (number_told bytes) e

  number_place : (v next : ℕ) → r ≡ Some (a_number v next) → next ≤ length bytes
  number_place v next e = rw e at p.next_le

-- ---- a file

no_entry_lem : (bytes : List ℕ) (at least : ℕ) → read_entry least (drop at bytes) ≡ damaged → EntryPost bytes at least None
no_entry_lem bytes at least e = record { told = e; next_le = omega arith }

entry_there : (bytes : List ℕ) (at least : ℕ) (e : Entry) (next : ℕ) → read_entry least (drop at bytes) ≡ read e (drop next bytes) → next ≤ length bytes
    → EntryPost bytes at least (Some (an_entry e next))
entry_there bytes at least e next q h = record { told = q; next_le = h }

module _ (bytes : List ℕ) (at least : ℕ) (r : Option NumberRead) (p : NumberPost bytes at number_max r) where
  pub number_damaged : r ≡ None → EntryPost bytes at least None
  number_damaged e = no_entry_lem bytes at least (entry_no least (drop at bytes) (number_gone bytes at number_max r p e))

  module _ (v a : ℕ) (e : r ≡ Some (a_number v a)) where
    pub number_below : v < least → EntryPost bytes at least None
    number_below h = no_entry_lem bytes at least (entry_low least (drop at bytes) v (drop a bytes) (number_at bytes at number_max r p v a e) h)

    module _ (h : least ≤ v) (s : Option NumberRead) (q : NumberPost bytes a size_max s) where
      start : read_entry least (drop at bytes) ≡ read_size v (drop a bytes)
      start = entry_yes least (drop at bytes) v (drop a bytes) (number_at bytes at number_max r p v a e) h

      pub size_damaged : s ≡ None → EntryPost bytes at least None
      size_damaged f = no_entry_lem bytes at least (start ∙ size_no v (drop a bytes) (number_gone bytes a size_max s q f))

      module _ (z b : ℕ) (f : s ≡ Some (a_number z b)) where
        pub size_zero : z ≡ 0 → EntryPost bytes at least (Some (an_entry (empty_file v) b))
        size_zero n =
            entry_there bytes at least (empty_file v) b (start ∙ size_empty v (drop a bytes) z (drop b bytes) (number_at bytes a size_max s q z b f) n)
            (number_place bytes a size_max s q z b f)

        module _ (n : z ≡ 0 → ⊥) (w : Option NumberRead) (k : NumberPost bytes b head_max w) where
          pub head_damaged : w ≡ None → EntryPost bytes at least None
          head_damaged g =
              no_entry_lem bytes at least
              (start ∙ size_some v (drop a bytes) z (drop b bytes) (number_at bytes a size_max s q z b f) n ∙ head_no v z (drop b bytes) (number_gone bytes b head_max w k g))

          pub head_there : (x c : ℕ) → w ≡ Some (a_number x c) → EntryPost bytes at least (Some (an_entry (record { number = v; size = z; head = x }) c))
          head_there x c g =
              entry_there bytes at least (record { number = v; size = z; head = x }) c
              (start ∙ size_some v (drop a bytes) z (drop b bytes) (number_at bytes a size_max s q z b f) n
              ∙ head_yes v z (drop b bytes) x (drop c bytes) (number_at bytes b head_max w k x c g))
              (number_place bytes b head_max w k x c g)

-- ---- the files

drop_bytes : (bs : List ℕ) (p : ℕ) → Bytes bs → Bytes (drop p bs)
drop_bytes bs p h = λ k l. rw (get_or-drop p bs k 0) (h (p + k) (omega (arith, length-drop p bs)))

pub entry_small : (bytes : List ℕ) (p least : ℕ) (r : Option EntryRead) (e : Entry) (next : ℕ) → Bytes bytes → EntryPost bytes p least r → r ≡ Some (an_entry e next)
    → e.number ≤ number_max
entry_small bytes p least r e next b q f =
    (entry_was least e (drop p bytes) (drop next bytes) (drop_bytes bytes p b) (q.told ∙ ap (entry_told bytes) f)).good.number_le

-- files that were read before those that follow
unfoldable pub behind : List Entry → Parsed (List Entry) → Parsed (List Entry)
behind es damaged = damaged
behind es (read fs rest) = read (es ++ fs) rest

behind_none : (r : Parsed (List Entry)) → r ≡ behind [] r
unfolding behind
behind_none damaged = refl
behind_none (read fs rest) = refl

behind_before : (es : List Entry) (e : Entry) (r : Parsed (List Entry)) → behind es (file_before e r) ≡ behind (es ++ (e ∷ [])) r
unfolding behind file_before
behind_before es e damaged = refl
behind_before es e (read fs rest) = ap (λ (l : List Entry). read l rest) (sym (append_snoc es e fs))

-- what the loop has: i files in the slots, and the rest of the bytes still to be read
pub record Filled (bytes : List ℕ) (at count : ℕ) (slots : List Entry) (least p i : ℕ) : Type 0 where
  pub files : List Entry
  pub many : length files ≡ i
  pub filled : slots ≡ files ++ replicate (files_max - i) no_entry
  pub i_le : i ≤ count
  pub count_le : count ≤ files_max
  pub rest : finish (read_files count (drop at bytes) 0) ≡ finish (behind files (read_files (count - i) (drop p bytes) least))

pub filled_start : (bytes : List ℕ) (at count : ℕ) (t : Table) → count ≤ files_max → t ≡ table_of [] → Filled bytes at count t.files 0 at 0
filled_start bytes at count t h e =
    record {
      files = [];
      many = refl;
      filled = ap (λ (x : Table). x.files) e;
      i_le = omega arith;
      count_le = h;
      rest = let z : count - 0 ≡ count = omega arith in rw z (ap finish (behind_none (read_files count (drop at bytes) 0)));
    }

module _ (bytes : List ℕ) (at count : ℕ) (slots : List Entry) (least p i : ℕ) (d : Filled bytes at count slots least p i) where
  module _ (r : Option EntryRead) (q : EntryPost bytes p least r) (h : i < count) where
    left : count - i ≡ suc (count - (i + 1))
    left = omega arith

    pub filled_damaged : r ≡ None → Err Damaged ≡ finish (read_files count (drop at bytes) 0)
    unfolding finish behind
    filled_damaged e =
        let m : read_files (count - i) (drop p bytes) least ≡ damaged
        = rw left (files_no (count - (i + 1)) least (drop p bytes) (q.told ∙ ap (entry_told bytes) e)) in
        sym (d.rest ∙ rw m)

    pub filled_turn : (e : Entry) (next : ℕ) → r ≡ Some (an_entry e next) → Filled bytes at count (set slots i e) (e.number + 1) next (i + 1)
    filled_turn e next f =
        let m : read_files (count - i) (drop p bytes) least ≡ file_before e (read_files (count - (i + 1)) (drop next bytes) (e.number + 1))
        = rw (left, add-one e.number) (files_yes (count - (i + 1)) least (drop p bytes) e (drop next bytes) (q.told ∙ ap (entry_told bytes) f)) in
        let k : files_max - i ≡ suc (files_max - (i + 1)) = omega (arith, d.count_le) in
        record {
          files = d.files ++ (e ∷ []);
          many = length-append d.files (e ∷ []) ∙ rw d.many;
          filled = rw (d.filled, k, ← d.many, set-append_seam d.files no_entry (replicate (files_max - (length d.files + 1)) no_entry) e)
              (sym (append_snoc d.files e (replicate (files_max - (length d.files + 1)) no_entry)));
          i_le = omega arith;
          count_le = d.count_le;
          rest = d.rest ∙ ap finish (ap (behind d.files) m ∙ behind_before d.files e (read_files (count - (i + 1)) (drop next bytes) (e.number + 1)));
        }

  module _ (h : count ≤ i) where
    all_read : finish (read_files count (drop at bytes) 0) ≡ finish (read d.files (drop p bytes))
    unfolding read_files behind
    all_read =
        let z : count - i ≡ zero = omega arith in
        d.rest ∙ rw z (ap (λ (l : List Entry). finish (read l (drop p bytes))) (append-nil d.files))

    pub filled_trailing : p < length bytes → Err Damaged ≡ finish (read_files count (drop at bytes) 0)
    unfolding finish
    filled_trailing l = sym (all_read ∙ rw (drop-cons bytes p 0 l))

    pub filled_done : length bytes ≤ p → Ok (record { files = slots; count = count }) ≡ finish (read_files count (drop at bytes) 0)
    unfolding finish
    filled_done l =
        let n : length d.files ≡ count = omega (arith, d.many, d.i_le) in
        let s : slots ≡ d.files ++ replicate (files_max - length d.files) no_entry = d.filled ∙ rw d.many in
        sym (all_read ∙ rw (drop_of_length-le bytes l, s, n))

-- ---- the load

module _ (bytes : List ℕ) (r : Option NumberRead) (p : NumberPost bytes 0 files_max r) where
  pub load_damaged : r ≡ None → Err Damaged ≡ load_of bytes
  load_damaged e = sym (load_no bytes (number_gone bytes 0 files_max r p e))

  pub load_count : (count next : ℕ) → r ≡ Some (a_number count next) → count ≤ files_max
  load_count count next e = up_to_le files_max bytes count (drop next bytes) (number_at bytes 0 files_max r p count next e)

  pub load_files : (count next : ℕ) (u : Result Table Refusal) → r ≡ Some (a_number count next) → u ≡ finish (read_files count (drop next bytes) 0) → u ≡ load_of bytes
  load_files count next u e q = q ∙ sym (load_yes bytes count (drop next bytes) (number_at bytes 0 files_max r p count next e))
