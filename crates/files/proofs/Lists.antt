-- The files of a table as a list: appending, putting one in, taking one out. Assumes nothing.
use mathlib.Core.Path.{◌≡◌, refl, sym, ap, ◌∙◌}
use mathlib.Core.Bool.{true, false}
use mathlib.Core.List.{List, [], ◌∷◌, ◌++◌, append-nil}
use Prim.Native.Nat.{ℕ, zero, suc, ◌+◌, ◌-◌, ◌≤◌, ◌<◌}
use native.Mathlib.Nat.{suc-add, zero-add}
use native.Mathlib.Omega.{arith}
use lib.ListN.{length, take, drop, get_or, set, replicate, length-append, length-drop, length-replicate}
use lib.Seq.{slice, sets, set-append_seam, append_snoc, take-take, take-append_seam, length-take-le}
use Rattle.layout.specs.Numbers.{files_max}
use Rattle.files.specs.declared.Entry.{Entry}
use Rattle.files.specs.declared.Table.{Table}
use Rattle.std.specs.Prelude.{Result, Ok}
use Rattle.layout.specs.declared.Refusal.{Refusal}
use Rattle.files.specs.Table.{no_entry, held, table_of, files_ok, table_ok, search_of}
use Rattle.files.specs.Change.{empty_file, insert_of, without_of}
use Rattle.files.specs.inner.Facts.{append_of, slot_for}
use Rattle.files.proofs.Tests.{ltb_cases, eqb_cases}
use Rattle.files.proofs.Laws.{count_ok, held_length, table_ok_lem}

-- files stored one by one over zero entries
pub sets_pad : (es vs : List Entry) (k : ℕ) → sets (es ++ replicate (length vs + k) no_entry) (length es) vs ≡ (es ++ vs) ++ replicate k no_entry
sets_pad es [] k = rw (zero-add k, append-nil es)
sets_pad es (v ∷ vs) k =
    let one : length (es ++ (v ∷ [])) ≡ suc (length es) = simp length-append (omega arith) in
    rw (suc-add (length vs) k, set-append_seam es no_entry (replicate (length vs + k) no_entry) v, ← append_snoc es v (replicate (length vs + k) no_entry), ← one)
    (sets_pad (es ++ (v ∷ [])) vs k ∙ ap (λ (l : List Entry). l ++ replicate k no_entry) (append_snoc es v vs))

pub append_table : (es vs : List Entry) → length es + length vs ≤ files_max → append_of (table_of es) vs ≡ table_of (es ++ vs)
append_table es vs h =
    let a : files_max - length es ≡ length vs + (files_max - (length es + length vs)) = omega arith in
    rw (a, sets_pad es vs (files_max - (length es + length vs)), length-append es vs)

-- the files of a table that was made of a list are the list
pub held_of : (es : List Entry) → held (table_of es) ≡ es
held_of es = take-append_seam es (replicate (files_max - length es) no_entry)

pub of_slots : (es : List Entry) → length es ≤ files_max → length (table_of es).files ≡ files_max
of_slots es h = simp (length-append, length-replicate) (omega arith)

pub of_ok : (es : List Entry) → length es ≤ files_max → files_ok 0 es ≡ true → table_ok (table_of es) ≡ true
of_ok es h ok = table_ok_lem (table_of es) (of_slots es h) h (rw (held_of es) ok)

pub place_le : (number : ℕ) (es : List Entry) → slot_for number es ≤ length es
unfolding slot_for
place_le number [] = omega arith
place_le number (e ∷ es) =
    let i = place_le number es in
    ltb_cases e.number number (λ b. (elim b [ true ↦ suc (slot_for number es) | false ↦ 0 ]) ≤ suc (length es)) (λ h. omega arith) (λ h. omega arith)

pub place_count : (t : Table) (number at : ℕ) → table_ok t ≡ true → at ≡ slot_for number (held t) → at ≤ t.count
place_count t number at h e = omega (arith, place_le number (held t), held_length t h)

-- an empty file put in at its place
pub insert_at : (number : ℕ) (es : List Entry)
    → insert_of number es ≡ take (slot_for number es) es ++ (empty_file number ∷ drop (slot_for number es) es)
unfolding insert_of slot_for
insert_at number [] = refl
insert_at number (e ∷ es) =
    ltb_cases e.number number
    (λ b. (elim b [ true ↦ e ∷ insert_of number es | false ↦ empty_file number ∷ (e ∷ es) ])
    ≡ take (elim b [ true ↦ suc (slot_for number es) | false ↦ 0 ]) (e ∷ es)
    ++ (empty_file number ∷ drop (elim b [ true ↦ suc (slot_for number es) | false ↦ 0 ]) (e ∷ es)))
    (λ h. ap (λ (l : List Entry). e ∷ l) (insert_at number es))
    (λ h. refl)

-- file `number` stands at place j of these files, of which the first has place i, and `without` is what is left without it
pub record Stands (number i j : ℕ) (es without : List Entry) : Type 0 where
  pub from : i ≤ j
  pub below : j - i < length es
  pub named : (get_or es (j - i) no_entry).number ≡ number
  pub left : without ≡ take (j - i) es ++ drop (suc (j - i)) es

stands_here : (number i j : ℕ) (e : Entry) (es : List Entry) → e.number ≡ number → ◌≡◌ {A = Result ℕ Refusal} (Ok i) (Ok j) → Stands number i j (e ∷ es) es
stands_here number i j e es p q =
    let z : i ≡ j = cc in
    let d : j - i ≡ zero = omega arith in
    record { from = omega arith; below = omega arith; named = rw d p; left = rw d }

stands_on : (number i j : ℕ) (e : Entry) (es ws : List Entry) → Stands number (suc i) j es ws → Stands number i j (e ∷ es) (e ∷ ws)
stands_on number i j e es ws s =
    let d : j - i ≡ suc (j - suc i) = omega (arith, s.from) in
    record {
      from = omega (arith, s.from);
      below = omega (arith, s.from, s.below);
      named = rw d s.named;
      left = rw d (ap (λ (l : List Entry). e ∷ l) s.left);
    }

pub stands : (number i j : ℕ) (es : List Entry) → search_of number es i ≡ Ok j → Stands number i j es (without_of number es)
unfolding search_of without_of
stands number i j [] q = let z : ◌≡◌ {A = ℕ} 0 1 = cc in absurd (omega arith)
stands number i j (e ∷ es) q =
    eqb_cases e.number number
    (λ b. (elim b [ true ↦ Ok i | false ↦ search_of number es (suc i) ]) ≡ Ok j
    → Stands number i j (e ∷ es) (elim b [ true ↦ es | false ↦ e ∷ without_of number es ]))
    (λ p h. stands_here number i j e es p h)
    (λ p h. stands_on number i j e es (without_of number es) (stands number (suc i) j es h))
    q

-- the two ways in which a table is made anew
module _ (t : Table) (h : table_ok t ≡ true) (at : ℕ) (le : at ≤ t.count) where
  part : take at t.files ≡ take at (held t)
  part = sym (take-take at t.count t.files le)

  part_length : length (take at (held t)) ≡ at
  part_length = length-take-le at (held t) (omega (arith, held_length t h))

  pub first_part : (z u : Table) → z ≡ table_of [] → u ≡ append_of z (slice 0 at t.files) → u ≡ table_of (take at (held t))
  first_part z u n e =
      e ∙ ap (λ (x : Table). append_of x (slice 0 at t.files)) n ∙ rw part (append_table [] (take at (held t)) (omega (arith, part_length, count_ok t h)))

  pub first_count : (z u : Table) → z ≡ table_of [] → u ≡ append_of z (slice 0 at t.files) → u.count ≡ at
  first_count z u n e = ap (λ (x : Table). x.count) (first_part z u n e) ∙ part_length

  rest_length : length (drop at (held t)) ≡ t.count - at
  rest_length = length-drop at (held t) ∙ ap (λ (n : ℕ). n - at) (held_length t h)

  pub with_file : (number : ℕ) (z u : Table) → t.count < files_max → z ≡ table_of [] → u ≡ append_of z (slice 0 at t.files)
      → append_of (record { files = set u.files at (empty_file number); count = at + 1 }) (slice at t.count t.files)
      ≡ table_of (take at (held t) ++ (empty_file number ∷ drop at (held t)))
  with_file number z u c n p =
      let a = take at (held t) in
      let e : Entry = empty_file number in
      let b = drop at (held t) in
      let q : record { files = set u.files at e; count = at + 1 } ≡ append_of (table_of a) (e ∷ []) = rw (first_part z u n p, part_length) in
      let l : length (a ++ (e ∷ [])) ≡ at + 1 = length-append a (e ∷ []) ∙ rw part_length in
      ap (λ (x : Table). append_of x b) (q ∙ append_table a (e ∷ []) (omega (arith, part_length)))
      ∙ append_table (a ++ (e ∷ [])) b (omega (arith, rest_length))
      ∙ ap table_of (append_snoc a e b)

  pub without_file : (z u : Table) → at < t.count → z ≡ table_of [] → u ≡ append_of z (slice 0 at t.files)
      → append_of u (slice (at + 1) t.count t.files) ≡ table_of (take at (held t) ++ drop (at + 1) (held t))
  without_file z u c n p =
      ap (λ (x : Table). append_of x (drop (at + 1) (held t))) (first_part z u n p)
      ∙ append_table (take at (held t)) (drop (at + 1) (held t)) (omega (arith, part_length, length-drop (at + 1) (held t), held_length t h, count_ok t h))
