-- Truncate on sound lists, with a window that is valid and clean for them: smaller, to 0, equal, larger. Assumes nothing.
use mathlib.Core.Path.{◌≡◌, refl, sym, ap, ◌∙◌, subst}
use mathlib.Core.Bool.{Bool, true, false}
use mathlib.Core.List.{List, ◌++◌}
use Prim.Native.Nat.{ℕ, ◌-◌, ◌≤◌, ◌<◌}
use native.Mathlib.Omega.{arith}
use borrow.Author.Tests.{lt-ltb}
use lib.IntN.{pos}
use lib.ListN.{length, take, length-replicate}
use lib.Seq.{take-length}
use Rattle.layout.specs.Layout.{index_at, offset_at}
use Rattle.layout.specs.Numbers.{size_max, null_block}
use Rattle.layout.specs.inner.Served.{block_list}
use Rattle.hops.specs.Walk.{hops}
use Rattle.hops.specs.inner.Ways.{way}
use Rattle.card.specs.inner.Cards.{card_with}
use Rattle.ctz.specs.Lists.{SoundList, block_at}
use Rattle.plain.specs.Bytes.{bytes}
use Rattle.plain.specs.inner.Forms.{GoodList}
use Rattle.plain.proofs.Files.{bytes_length}
use Rattle.plain.proofs.Finding.{walk_sound, lookup_sound}
use Rattle.files.specs.declared.Entry.{Entry}
use Rattle.files.specs.declared.Table.{Table}
use Rattle.std.specs.Prelude.{Result, Ok}
use Rattle.layout.specs.declared.Refusal.{Refusal}
use Rattle.layout.specs.declared.Refusal.TheVariants.{Missing, Invalid}
use Rattle.files.specs.Table.{held, file, find_of}
use Rattle.files.proofs.Tests.{ltb_cases, eqb_cases}
use Rattle.window.specs.declared.Lookahead.{Lookahead}
use Rattle.trials.specs.Loop.{Writing, WriteOut}
use Rattle.grow.specs.Setting.{State, tested_of}
use Rattle.grow.specs.inner.Setting.{setting, state}
use Rattle.old_list.specs.Write.{zeros}
use Rattle.new_list.specs.inner.Put.{puts}
use Rattle.store.specs.Store.{StoreOut, written, written_of, store_truncate}
use Rattle.store.specs.inner.Store.{shrunk}
use Rattle.store.specs.inner.Calls.{ask_truncate}
use Rattle.store.proofs.Calls as calls
use Rattle.store.proofs.Files as files
use Rattle.demands.specs.Calls.{truncate, stored_in}
use Rattle.demands.specs.Plain.{PlainFile, plain_change, plain_code, resized, file_bytes}
use Rattle.demands.specs.Runs.{files_in}
use Rattle.demands.proofs.Tables.{of_sounds}
use Rattle.demands.proofs.Store as store
use Rattle.demands.proofs.Again.{among_at, stored_again, refused_again}
use Rattle.demands.proofs.Truncates.{grow_plain, shrink_keeps}
use Rattle.demands.proofs.Changes.{empty_keeps}
use Rattle.demands.proofs.Named.{Placed, placed_at, FindView, high, missing, at, find_view, meets_high, meets_none, meets_far, meets_file_lem}
use Rattle.demands.proofs.Contents as contents
use Rattle.demands.proofs.Kept.{Held, before, again, tested_sizes, sound_files}
use Rattle.demands.proofs.Ends.{Ends, accepted, refused, short, ends_truncate}
use Rattle.demands.proofs.Steps.{resized_less, resized_more, empty_bytes}

-- a truncate to the length that a plain file has
resized_same : {number m : ℕ} {e : Entry} {es : List Entry} (B : ℕ) (img : List ℕ) (size : ℕ) → Placed number e m es → length (bytes B img (block_list e.head e.size)) ≡ size
    → contents.Plainly B img es ≡ plain_change number (resized size) (contents.Plainly B img es)
resized_same {e = e} {es = es} B img size p q =
    sym (sym (contents.change_files B img img (resized size) p (λ x a. refl) e refl
    (sym (sym (resized_less size (bytes B img (block_list e.head e.size)) (omega (arith, q))) ∙ ap (λ (n : ℕ). take n (bytes B img (block_list e.head e.size))) (sym q) ∙ take-length _)))
    ∙ ap (contents.Plainly B img) (contents.set_same p))

module _ {B N l : ℕ} {s : State} (h : Held B N l s) (health : List ℕ) (number size : ℕ) where
  abbrev t : Table
  t = s.table

  abbrev w : Lookahead
  w = s.window

  abbrev img : List ℕ
  img = s.image

  abbrev fs : List PlainFile
  fs = files_in B s

  abbrev tested : Bool
  tested = tested_of (setting B N l health) w (length img)

  abbrev Resized : Bool → StoreOut → Type 0
  Resized b o = Ends B N l b (truncate (ask_truncate number size)) s (stored_in o)

  abbrev call : StoreOut
  call = store_truncate (setting B N l health) (state w t img) (ask_truncate number size)

  resized_by : {b : Bool} {o : StoreOut} → call ≡ o → Resized b o → Resized b call
  resized_by {b} q e = subst (λ (o : StoreOut). Resized b o) (sym q) e

  module _ (i : ℕ) (b : i < t.count) (pl : Placed number (file t i) i (held t)) (te : tested ≡ true) (q : find_of t number ≡ Ok i)
      (near : size ≤ size_max) (code : plain_code true (truncate (ask_truncate number size)) fs ≡ pos 0) where
    abbrev e : Entry
    e = file t i

    abbrev old : List ℕ
    old = bytes B img (block_list e.head e.size)

    good : GoodList B N img e.size
    good = (of_sounds (sound_files B N l s h.sounds) (among_at (placed_at pl))).0

    sl : SoundList (card_with B N img) (block_list e.head e.size)
    sl = (of_sounds (sound_files B N l s h.sounds) (among_at (placed_at pl))).1

    long : length old ≡ e.size
    long = bytes_length good sl

    -- to 0
    to_none : 0 < e.size → size ≡ 0 → Resized true call
    to_none some z =
        resized_by (calls.truncate_shrinks B N l img health w t number size te i q near (omega arith) ∙ files.shrinks_none B N img w t i size z)
        (ends_truncate h number i b pl 0 null_block w img (resized size) (λ x a. refl)
        (empty_bytes img B null_block ∙ ap (λ (n : ℕ). take n (old ++ zeros (size - length old))) (sym z))
        (empty_keeps B N l w img (held t) (before h) e i) true size code refl)

    -- smaller
    to_less : size < e.size → 0 < size → Resized true call
    to_less less some =
        let u : size - 1 < e.size = omega arith in
        let k = block_at B img (block_list e.head e.size) (index_at B (size - 1)) in
        let sh = shrink_keeps B N l (held t) w img (before h) e i (placed_at pl) size k (offset_at B (size - 1)) (hops (way (index_at B (e.size - 1)) (index_at B (size - 1))))
        some (omega arith) (lookup_sound good sl (size - 1) u) in
        resized_by (calls.truncate_shrinks B N l img health w t number size te i q near less ∙ files.shrinks_some B N img w t i size (λ z. omega arith)
        ∙ ap (shrunk t i size w img) (walk_sound good sl (size - 1) u))
        (ends_truncate h number i b pl size k w img (resized size) (λ x a. refl) (sh.plain ∙ resized_less size old (omega (arith, long)))
        sh.again true size code refl)

    -- equal
    to_same : size ≡ e.size → Resized true call
    to_same z =
        resized_by (calls.truncate_same B N l img health w t number size te i q near (omega arith) z)
        (accepted refl code (resized_same B img size pl (long ∙ sym z)) (record { kept = λ x n a. a; came_in = λ x n a. a; reads = λ x a. refl }) h)

    -- larger
    abbrev src : List ℕ
    src = zeros (size - e.size)

    abbrev o : WriteOut Lookahead
    o = puts B N l health t e e.size src w img

    src_long : length src ≡ size - e.size
    src_long = length-replicate {A = ℕ} (size - e.size) 0

    more_is : e.size ≤ size → old ++ src ≡ resized size old
    more_is m = ap (λ (n : ℕ). old ++ zeros (size - n)) (sym long) ∙ resized_more size old (omega (arith, long))

    larger : e.size < size → store.Outcome B N l (held t) e e.size src img o → Resized true (written_of t i o)
    larger m (store.written head out st) =
        subst (λ (a : Writing). Resized true (written t i a o.rest o.image)) (sym st.answer)
        (ends_truncate h number i b pl (store.new_size e e.size src) head o.rest o.image (resized size) (λ y a. (st.others y a).plain)
        (st.plain ∙ grow_plain img B e.head e.size (size - e.size) ∙ more_is (omega arith))
        (stored_again B N l (held t) w img (before h) o st.long (λ y a. (st.others y a).blocks) e i (placed_at pl) e.size src (omega (arith, src_long)) head out st)
        true size code refl)
    larger m (store.refused out un) =
        subst (λ (a : Writing). Resized true (written t i a o.rest o.image)) (sym un.answer)
        (short refl code (lt-ltb (length (file_bytes number fs)) size (omega (arith, ap length (contents.placed_bytes B img pl), long))) refl (λ y a. (un.others y a).plain)
        (again t o.rest o.image h.sounds.table
        (refused_again B N l (held t) w img (before h) o un.long (λ y a. (un.others y a).blocks) out un.window)))

    to_more : e.size < size → Resized true call
    to_more m =
        resized_by (calls.truncate_more B N l img health w t number size te i q near (omega arith) (λ z. omega arith))
        (larger m (store.store_plain B N l health t w img (before h) (tested_sizes health h te) e (among_at (placed_at pl)) e.size src
        (omega (arith, src_long)) (omega (arith, src_long))))

    all_sizes : Resized true call
    all_sizes =
        ltb_cases size e.size (λ z. Resized true call)
        (λ less. eqb_cases size 0 (λ z. Resized true call) (λ z. to_none (omega arith) z) (λ z. to_less less (omega (arith, z))))
        (λ more. eqb_cases size e.size (λ z. Resized true call) to_same (λ z. to_more (omega (arith, z))))

  pub truncate_step : Resized tested call
  truncate_step = go tested refl
    where
      found_one : (i : ℕ) → number ≤ 65535 → i < t.count → Placed number (file t i) i (held t) → tested ≡ true → find_of t number ≡ Ok i → Resized true call
      found_one i a b pl te q =
          let hf = contents.placed_holds B img pl in
          ltb_cases size_max size (λ z. Resized true call)
          (λ far. resized_by (calls.truncate_far B N l img health w t number size te i q far)
          (refused 21 (omega arith) refl (rw (meets_far number size fs a hf far)) refl))
          (λ near. all_sizes i b pl te q near (rw (meets_file_lem number size fs a hf near)))

      found_by : {r : Result ℕ Refusal} → FindView t number r → find_of t number ≡ r → tested ≡ true → Resized true call
      found_by (high k) q te =
          resized_by (calls.truncate_refused B N l img health w t number size te Invalid q) (refused 21 (omega arith) refl (rw (meets_high number size fs k)) refl)
      found_by (missing a u) q te =
          resized_by (calls.truncate_refused B N l img health w t number size te Missing q)
          (refused 1 (omega arith) refl (rw (meets_none number size fs a (contents.unnamed_holds B img u))) refl)
      found_by (at i a b pl) q te = found_one i a b pl te q

      go : (b : Bool) → tested ≡ b → Resized b call
      go false te = resized_by (calls.truncate_untested B N l img health w t number size te) (refused 21 (omega arith) refl refl refl)
      go true te = found_by (find_view t number h.sounds.table) refl te
