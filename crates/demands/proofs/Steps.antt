-- Create and remove on sound lists, with a window that is valid and clean for them; and plain files that are resized. Assumes nothing.
use mathlib.Core.Path.{◌≡◌, refl, sym, ap, ◌∙◌, subst}
use mathlib.Core.Bool.{Bool, true}
use mathlib.Core.List.{List, [], ◌++◌, append-nil}
use Prim.Native.Nat.{ℕ, ◌-◌, ◌≤◌, ◌<◌}
use native.Mathlib.Omega.{arith}
use borrow.Author.Tests.{lt-leb, le-leb}
use lib.ListN.{length, take, length-append, length-map, length-replicate}
use lib.Seq.{take-length}
use Rattle.layout.specs.Numbers.{files_max}
use Rattle.layout.specs.inner.Served.{block_list}
use Rattle.plain.specs.Bytes.{bytes, span}
use Rattle.files.specs.declared.Entry.{Entry}
use Rattle.files.specs.declared.Table.{Table}
use Rattle.std.specs.Prelude.{Result, Err}
use Rattle.layout.specs.declared.Refusal.{Refusal}
use Rattle.layout.specs.declared.Refusal.TheVariants.{Missing, Invalid}
use Rattle.files.specs.declared.change.Changed.{Changed}
use Rattle.files.specs.Table.{held, table_of, table_ok, find_of}
use Rattle.files.specs.Change.{create_of, remove_of, insert_of, without_of}
use Rattle.files.proofs.Laws.{held_length}
use Rattle.files.proofs.Lists.{held_of}
use Rattle.files.proofs.Cases as cases
use Rattle.files.proofs.Kept.{create_ok, remove_ok}
use Rattle.files.proofs.Tests.{ltb_cases}
use Rattle.grow.specs.Setting.{State}
use Rattle.old_list.specs.Write.{zeros}
use Rattle.demands.specs.Calls.{create, remove, changed_in}
use Rattle.demands.specs.Plain.{PlainFile, plain_code, resized}
use Rattle.demands.specs.Runs.{file_in, files_in}
use Rattle.demands.proofs.Changes.{create_keeps, remove_keeps}
use Rattle.demands.proofs.Named.{Unnamed, FindView, high, missing, at, find_view, meets_high, meets_none, meets_file_lem}
use Rattle.demands.proofs.Contents as contents
use Rattle.demands.proofs.Kept.{Held, before, again}
use Rattle.demands.proofs.Ends.{Ends, accepted, refused}

-- a truncate of a plain file: cut, as it was, or zeros behind it
pub resized_less : (size : ℕ) (bs : List ℕ) → size ≤ length bs → take size bs ≡ resized size bs
resized_less size bs h =
    let z : 0 ≡ size - length bs = omega arith in
    ap (take size) (sym (append-nil bs)) ∙ ap (λ (n : ℕ). take size (bs ++ zeros n)) z

pub resized_more : (size : ℕ) (bs : List ℕ) → length bs ≤ size → bs ++ zeros (size - length bs) ≡ resized size bs
resized_more size bs h =
    let all = bs ++ zeros (size - length bs) in
    let n : length all ≡ size = length-append bs (zeros (size - length bs)) ∙ rw (length-replicate {A = ℕ} (size - length bs) 0) (omega arith) in
    sym (ap (λ (k : ℕ). take k all) (sym n) ∙ take-length all)

pub empty_bytes : (img : List ℕ) (B head : ℕ) → bytes B img (block_list head 0) ≡ []
unfolding bytes span
empty_bytes img B head = refl

module _ {B N l : ℕ} {s : State} (h : Held B N l s) (number : ℕ) where
  abbrev t : Table
  t = s.table

  abbrev fs : List PlainFile
  fs = files_in B s

  ok : table_ok t ≡ true
  ok = h.sounds.table

  files_count : length fs ≡ t.count
  files_count = length-map (held t) (file_in B s.image) ∙ held_length t ok

  -- ---- create

  abbrev more : List Entry
  more = insert_of number (held t)

  pub create_step : (fits : Bool) → Ends B N l fits (create number) s (changed_in s (create_of t number))
  create_step fits = go (find_view t number ok) refl
    where
      by : {c : Changed} → c ≡ create_of t number → Ends B N l fits (create number) s (changed_in s c)
          → Ends B N l fits (create number) s (changed_in s (create_of t number))
      by q e = subst (λ (c : Changed). Ends B N l fits (create number) s (changed_in s c)) q e

      new : find_of t number ≡ Err Missing → number ≤ 65535 → Unnamed number (held t) → t.count < files_max
          → Ends B N l fits (create number) s (changed_in s (create_of t number))
      new q a u c =
          by (sym (cases.create_accepted t number (find_of t number) refl q c)) (accepted refl
          (rw (plain_code, meets_none number 0 fs a (contents.unnamed_holds B s.image u), lt-leb files_max (length fs) (omega (arith, files_count))))
          (rw (held_of more) (contents.create_files B s.image number (held t)))
          (record {
            kept = λ e n x. rw (held_of more) (contents.insert_kept number e (held t) x);
            came_in = λ e n x. contents.insert_from number e (held t) n (rw (held_of more) at x);
            reads = λ e x. refl;
          })
          (again (table_of more) s.window s.image (ap (λ (x : Changed). table_ok x.table) (sym (cases.create_accepted t number (find_of t number) refl q c)) ∙ create_ok t number ok)
          (rw (held_of more) (create_keeps B N l s.window s.image (held t) (before h) number))))

      full : find_of t number ≡ Err Missing → number ≤ 65535 → Unnamed number (held t) → files_max ≤ t.count
          → Ends B N l fits (create number) s (changed_in s (create_of t number))
      full q a u c =
          by (cases.create_full t number (find_of t number) refl q c) (refused 11 (omega arith) refl
          (rw (plain_code, meets_none number 0 fs a (contents.unnamed_holds B s.image u), le-leb files_max (length fs) (omega (arith, files_count)))) refl)

      go : {r : Result ℕ Refusal} → FindView t number r → find_of t number ≡ r → Ends B N l fits (create number) s (changed_in s (create_of t number))
      go (high k) q =
          by (cases.create_refused t number (find_of t number) refl Invalid (λ z. let y : ◌≡◌ {A = ℕ} 0 1 = cc in omega arith) q) (refused 21 (omega arith) refl (rw (plain_code, meets_high number 0 fs k)) refl)
      go (at i a b p) q =
          by (cases.create_exists t number (find_of t number) refl i q)
          (refused 16 (omega arith) refl (rw (plain_code, meets_file_lem number 0 fs a (contents.placed_holds B s.image p) (omega arith))) refl)
      go (missing a u) q =
          ltb_cases t.count files_max (λ b. Ends B N l fits (create number) s (changed_in s (create_of t number))) (new q a u) (full q a u)

  -- ---- remove

  abbrev rest : List Entry
  rest = without_of number (held t)

  pub remove_step : (fits : Bool) → Ends B N l fits (remove number) s (changed_in s (remove_of t number))
  remove_step fits = go (find_view t number ok) refl
    where
      by : {c : Changed} → c ≡ remove_of t number → Ends B N l fits (remove number) s (changed_in s c)
          → Ends B N l fits (remove number) s (changed_in s (remove_of t number))
      by q e = subst (λ (c : Changed). Ends B N l fits (remove number) s (changed_in s c)) q e

      go : {r : Result ℕ Refusal} → FindView t number r → find_of t number ≡ r → Ends B N l fits (remove number) s (changed_in s (remove_of t number))
      go (high k) q =
          by (cases.remove_refused t number (find_of t number) refl Invalid q) (refused 21 (omega arith) refl (rw (meets_high number 0 fs k)) refl)
      go (missing a u) q =
          by (cases.remove_refused t number (find_of t number) refl Missing q)
          (refused 1 (omega arith) refl (rw (meets_none number 0 fs a (contents.unnamed_holds B s.image u))) refl)
      go (at i a b p) q =
          by (sym (cases.remove_accepted t number (find_of t number) refl i q)) (accepted refl (rw (meets_file_lem number 0 fs a (contents.placed_holds B s.image p) (omega arith)))
          (rw (held_of rest) (contents.remove_files B s.image number (held t)))
          (record {
            kept = λ e n x. rw (held_of rest) (contents.without_kept number e (held t) n x);
            came_in = λ e n x. contents.without_from number e (held t) (rw (held_of rest) at x);
            reads = λ e x. refl;
          })
          (again (table_of rest) s.window s.image
          (ap (λ (x : Changed). table_ok x.table) (sym (cases.remove_accepted t number (find_of t number) refl i q)) ∙ remove_ok t number ok)
          (rw (held_of rest) (remove_keeps B N l s.window s.image (held t) (before h) number))))
