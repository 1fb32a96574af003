-- What an accepted write wrote is read back from where it was written. Assumes nothing.
use mathlib.Core.Path.{◌≡◌, refl, sym, ap, ◌∙◌}
use mathlib.Core.Bool.{Bool, true, false}
use mathlib.Core.List.{List, [], ◌∷◌, ◌++◌}
use Prim.Native.Nat.{ℕ, ◌+◌, ◌-◌, ◌≤◌, min}
use native.Mathlib.Omega.{arith}
use lib.Dec.{eqb}
use lib.IntN.{pos}
use lib.ListN.{length, take, drop, length-take, length-append, length-replicate}
use lib.Seq.{drop_at, take-append_seam}
use Rattle.std.specs.Prelude.{Ok}
use Rattle.span.proofs.Parts.{sets_over}
use Rattle.layout.specs.Numbers.{number_max, size_max, accepted}
use Rattle.card.specs.inner.Cards.{card_with}
use Rattle.files.proofs.Tests.{leb_cases, bool_cases}
use Rattle.grow.specs.Setting.{State}
use Rattle.reading.specs.Calls.{read_of}
use Rattle.reading.specs.inner.Bounds.{file_position}
use Rattle.old_list.specs.Write.{zeros}
use Rattle.store.specs.Asked.{WriteAsked}
use Rattle.store.specs.inner.Calls.{ask_write}
use Rattle.demands.specs.Calls.{write, after, Shape, under}
use Rattle.demands.specs.Came.{Sounds, Came}
use Rattle.demands.specs.Plain.{PlainFile, plain_change, plain_code, has_file, file_bytes, plain_write, meets, refused, overwrite}
use Rattle.demands.specs.Looks.{read_from, plain_read}
use Rattle.demands.specs.Runs.{files_in, fitting}
use Rattle.demands.proofs.Named.{meets_high, meets_none, meets_far, meets_file_lem}
use Rattle.demands.proofs.Demands.{accepted_plain, accepted_code}
use Rattle.demands.proofs.Looks as looks
use Rattle.demands.proofs.Overwrites.{wrote_some, plain_length}

-- ---- a plain file that was written

back : (bs : List ℕ) (p : ℕ) (src : List ℕ) → take (length src) (drop p (overwrite (ask_write 0 p src) bs)) ≡ src
back bs p src =
    let front = take p (bs ++ zeros (p - length bs)) in
    let rest = src ++ drop (p + length src) bs in
    let n : length front ≡ p = length-take p (bs ++ zeros (p - length bs)) ∙ rw (length-append bs (zeros (p - length bs)), length-replicate {A = ℕ} (p - length bs) 0) (omega arith) in
    ap (take (length src)) (drop_at front rest p n) ∙ take-append_seam src (drop (p + length src) bs)

read_from_lem : (bs : List ℕ) (p : ℕ) (src buffer : List ℕ) → length buffer ≡ length src
    → read_from (overwrite (ask_write 0 p src) bs) p buffer ≡ record { answer = Ok (length src); buffer = src }
read_from_lem bs p src buffer n =
    let m : min (length buffer) (length (overwrite (ask_write 0 p src) bs) - p) ≡ length src = omega (arith, plain_length bs p src) in
    rw (m, back bs p src, sets_over buffer src n)

-- ---- among plain files

bytes_changed : (number : ℕ) (g : List ℕ → List ℕ) (fs : List PlainFile) → has_file number fs ≡ true → file_bytes number (plain_change number g fs) ≡ g (file_bytes number fs)
unfolding has_file file_bytes plain_change
bytes_changed number g (f ∷ fs) h = go (eqb f.number number) refl h (bytes_changed number g fs)
  where
    go : (t : Bool) → eqb f.number number ≡ t → has_file number (f ∷ fs) ≡ true
        → (has_file number fs ≡ true → file_bytes number (plain_change number g fs) ≡ g (file_bytes number fs))
        → file_bytes number (plain_change number g (f ∷ fs)) ≡ g (file_bytes number (f ∷ fs))
    go true q h ih = rw (plain_change, q, file_bytes, q)
    go false q h ih = rw (plain_change, q, file_bytes, q) (ih (rw (has_file, q) at h))
bytes_changed number g [] h = let z : ◌≡◌ {A = ℕ} 0 1 = cc in absurd (omega arith)

holds_changed : (number : ℕ) (g : List ℕ → List ℕ) (fs : List PlainFile) → has_file number (plain_change number g fs) ≡ has_file number fs
unfolding has_file plain_change
holds_changed number g [] = refl
holds_changed number g (f ∷ fs) = go (eqb f.number number) refl (holds_changed number g fs)
  where
    go : (t : Bool) → eqb f.number number ≡ t → has_file number (plain_change number g fs) ≡ has_file number fs
        → has_file number (plain_change number g (f ∷ fs)) ≡ has_file number (f ∷ fs)
    go true q ih = rw (plain_change, q, has_file, q)
    go false q ih = rw (plain_change, q, has_file, q) ih

-- what an accepted write passed
record Passed (number p : ℕ) (fs : List PlainFile) : Type 0 where
  number_le : number ≤ number_max
  there : has_file number fs ≡ true
  near : p ≤ size_max

passed : (fits : Bool) (number p : ℕ) (src : List ℕ) (fs : List PlainFile) → plain_code fits (write (ask_write number p src)) fs ≡ pos 0 → Passed number p fs
passed false number p src fs q = let z : ◌≡◌ {A = ℕ} 0 1 = cc in absurd (omega arith)
passed true number p src fs q =
    leb_cases number number_max (λ b. Passed number p fs)
    (λ l. bool_cases (has_file number fs) (λ b. Passed number p fs)
    (λ h. leb_cases p size_max (λ b. Passed number p fs) (λ n. record { number_le = l; there = h; near = n }) (λ f. not_met (meets_far number p fs l h f)))
    (λ h. let e = rw (meets_none number p fs l h) at q in let z : ◌≡◌ {A = ℕ} 0 1 = cc in absurd (omega arith)))
    (λ u. not_met (meets_high number p fs u))
  where
    not_met : meets (file_position number p) fs ≡ refused → Passed number p fs
    not_met m = let e = rw m at q in let z : ◌≡◌ {A = ℕ} 0 1 = cc in absurd (omega arith)

-- READ BACK. After an accepted write of at least one byte, a read of as many bytes at the same position gives them.
pub read_back : {g : Shape} {s : State} → Came g s → Sounds g s → (health : List ℕ) (w : WriteAsked) (buffer : List ℕ) → (length w.bytes ≡ 0 → ⊥)
    → length buffer ≡ length w.bytes → (after (under g health) (write w) s).code ≡ accepted
    → (let s' : State = (after (under g health) (write w) s).state in
    read_of (card_with g.B g.N s'.image) s'.table (file_position w.number w.position) buffer ≡ record { answer = Ok (length w.bytes); buffer = w.bytes })
read_back {g} {s} came sounds health w buffer some n d =
    let number = w.number in
    let p = w.position in
    let src = w.bytes in
    let old = files_in g.B s in
    let ac = accepted_plain came sounds health (write w) d in
    let ps = passed (fitting (under g health)) number p src old (accepted_code came sounds health (write w) d) in
    let fs = plain_change number (plain_write w) old in
    let h : has_file number fs ≡ true = holds_changed number (plain_write w) old ∙ ps.there in
    let b : file_bytes number fs ≡ overwrite (ask_write 0 p src) (file_bytes number old)
    = bytes_changed number (plain_write w) old ps.there ∙ sym (wrote_some number p src (file_bytes number old) some) in
    looks.read_plain ac.sounds (file_position number p) buffer ∙ ap (plain_read (file_position number p) buffer) ac.files
    ∙ rw (plain_read, meets_file_lem number p fs ps.number_le h ps.near, b) (read_from_lem (file_bytes number old) p src buffer n)
