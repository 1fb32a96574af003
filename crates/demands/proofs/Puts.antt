-- Write on sound lists, with a window that is valid and clean for them. Assumes nothing.
use mathlib.Core.Path.{◌≡◌, refl, sym, ◌∙◌, subst}
use mathlib.Core.Bool.{Bool, true, false}
use mathlib.Core.List.{List}
use Prim.Native.Nat.{ℕ, ◌+◌, ◌≤◌, ◌<◌}
use native.Mathlib.Omega.{arith}
use borrow.Author.Tests.{lt-ltb, le-ltb}
use lib.IntN.{pos}
use lib.ListN.{length}
use Rattle.layout.specs.Numbers.{size_max}
use Rattle.layout.specs.inner.Served.{block_list}
use Rattle.plain.specs.Bytes.{bytes}
use Rattle.files.specs.declared.Table.{Table}
use Rattle.std.specs.Prelude.{Result, Ok}
use Rattle.layout.specs.declared.Refusal.{Refusal}
use Rattle.layout.specs.declared.Refusal.TheVariants.{Missing, Invalid}
use Rattle.files.specs.Table.{held, file, find_of}
use Rattle.files.proofs.Tests.{ltb_cases, eqb_cases}
use Rattle.window.specs.declared.Lookahead.{Lookahead}
use Rattle.trials.specs.Loop.{Writing, WriteOut}
use Rattle.grow.specs.Setting.{State, tested_of}
use Rattle.grow.specs.inner.Setting.{setting, state}
use Rattle.new_list.specs.inner.Put.{puts}
use Rattle.store.specs.Store.{StoreOut, written, written_of, store_write}
use Rattle.store.specs.inner.Calls.{ask_write}
use Rattle.store.proofs.Calls as calls
use Rattle.demands.specs.Calls.{write, stored_in}
use Rattle.demands.specs.Plain.{PlainFile, plain_code, plain_write}
use Rattle.demands.specs.Runs.{files_in}
use Rattle.demands.proofs.Store as store
use Rattle.demands.proofs.Again.{among_at, stored_again, refused_again}
use Rattle.demands.proofs.Named.{Placed, placed_at, FindView, high, missing, at, find_view, meets_high, meets_none, meets_far, meets_file_lem}
use Rattle.demands.proofs.Contents as contents
use Rattle.demands.proofs.Kept.{Held, before, again, tested_sizes}
use Rattle.demands.proofs.Ends.{Ends, refused, short, ends_same, ends_write}
use Rattle.demands.proofs.Overwrites.{wrote_some, wrote_none}

module _ {B N l : ℕ} {s : State} (h : Held B N l s) (health : List ℕ) (number : ℕ) where
  abbrev t : Table
  t = s.table

  abbrev w : Lookahead
  w = s.window

  abbrev img : List ℕ
  img = s.image

  abbrev fs : List PlainFile
  fs = files_in B s

  abbrev tested : Bool
  tested = tested_of (setting B N l health) w (length img)

  -- ---- write

  module _ (p : ℕ) (src : List ℕ) where
    abbrev Wrote : Bool → StoreOut → Type 0
    Wrote b o = Ends B N l b (write (ask_write number p src)) s (stored_in o)

    abbrev call : StoreOut
    call = store_write (setting B N l health) (state w t img) (ask_write number p src)

    wrote_by : {b : Bool} {o : StoreOut} → call ≡ o → Wrote b o → Wrote b call
    wrote_by {b} q e = subst (λ (o : StoreOut). Wrote b o) (sym q) e

    module _ (i : ℕ) (b : i < t.count) (pl : Placed number (file t i) i (held t)) (te : tested ≡ true) (fits : p + length src ≤ size_max)
        (some : length src ≡ 0 → ⊥) (code : plain_code true (write (ask_write number p src)) fs ≡ pos 0) where
      abbrev o : WriteOut Lookahead
      o = puts B N l health t (file t i) p src w img

      write_ends : store.Outcome B N l (held t) (file t i) p src img o → Wrote true (written_of t i o)
      write_ends (store.written head out st) =
          subst (λ (a : Writing). Wrote true (written t i a o.rest o.image)) (sym st.answer)
          (ends_write h number i b pl (store.new_size (file t i) p src) head o.rest o.image (plain_write (ask_write number p src)) (λ y a. (st.others y a).plain)
          (st.plain ∙ wrote_some number p src (bytes B img (block_list (file t i).head (file t i).size)) some)
          (stored_again B N l (held t) w img (before h) o st.long (λ y a. (st.others y a).blocks) (file t i) i (placed_at pl) p src fits head out st)
          true p src code refl)
      write_ends (store.refused out un) =
          subst (λ (a : Writing). Wrote true (written t i a o.rest o.image)) (sym un.answer)
          (short refl code (lt-ltb 0 (length src) (omega (arith, some))) refl (λ y a. (un.others y a).plain)
          (again t o.rest o.image h.sounds.table
          (refused_again B N l (held t) w img (before h) o un.long (λ y a. (un.others y a).blocks) out un.window)))

      write_some : Wrote true (written_of t i o)
      write_some =
          write_ends (store.store_plain B N l health t w img (before h) (tested_sizes health h te) (file t i) (among_at (placed_at pl)) p src
          (omega (arith, some)) fits)

    pub write_step : Wrote tested call
    write_step = go tested refl
      where
        found_one : (i : ℕ) → number ≤ 65535 → i < t.count → Placed number (file t i) i (held t) → tested ≡ true → find_of t number ≡ Ok i
            → Wrote true call
        found_one i a b pl te q =
            let hf = contents.placed_holds B img pl in
            ltb_cases size_max p (λ z. Wrote true call)
            (λ far. wrote_by (calls.write_far B N l img health w t number p src te i q far)
            (refused 21 (omega arith) refl (rw (meets_far number p fs a hf far)) refl))
            (λ near. ltb_cases size_max (p + length src) (λ z. Wrote true call)
            (λ long. wrote_by (calls.write_large B N l img health w t number p src te i q near long)
            (refused 26 (omega arith) refl (rw (meets_file_lem number p fs a hf near, lt-ltb size_max (p + length src) long)) refl))
            (λ fits.
            let c₂ : plain_code true (write (ask_write number p src)) fs ≡ pos 0 = rw (meets_file_lem number p fs a hf near, le-ltb size_max (p + length src) fits) in
            eqb_cases (length src) 0 (λ z. Wrote true call)
            (λ z. wrote_by (calls.write_none B N l img health w t number p src te i q near fits z)
            (ends_same c₂ (sym (contents.change_none number (plain_write (ask_write number p src)) (λ bs. wrote_none number p src bs z) fs)) h))
            (λ z. wrote_by (calls.write_some B N l img health w t number p src te i q near fits z) (write_some i b pl te fits z c₂))))

        found_by : {r : Result ℕ Refusal} → FindView t number r → find_of t number ≡ r → tested ≡ true → Wrote true call
        found_by (high k) q te =
            wrote_by (calls.write_refused B N l img health w t number p src te Invalid q) (refused 21 (omega arith) refl (rw (meets_high number p fs k)) refl)
        found_by (missing a u) q te =
            wrote_by (calls.write_refused B N l img health w t number p src te Missing q)
            (refused 1 (omega arith) refl (rw (meets_none number p fs a (contents.unnamed_holds B img u))) refl)
        found_by (at i a b pl) q te = found_one i a b pl te q

        go : (b : Bool) → tested ≡ b → Wrote b call
        go false te = wrote_by (calls.write_untested B N l img health w t number p src te) (refused 21 (omega arith) refl refl refl)
        go true te = found_by (find_view t number h.sounds.table) refl te
