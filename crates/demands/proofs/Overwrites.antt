-- The plain file after a write of at least one byte, and its bytes. Assumes nothing.
use mathlib.Core.Path.{◌≡◌, refl, sym, ap, ◌∙◌}
use mathlib.Core.Logic.{◌⊎◌, inl, inr}
use mathlib.Core.List.{List, [], ◌++◌, append-nil}
use Prim.Native.Nat.{ℕ, ◌+◌, ◌-◌, ◌≤◌, ◌<◌, max}
use native.Mathlib.Omega.{arith}
use borrow.Author.Tests.{lt-ltb, le-ltb}
use lib.ListN.{length, get_or, take, drop, length-append, length-replicate, get_or-replicate, length-drop, get_or-append, get_or-eq_default, drop_of_length-le}
use lib.Seq.{ext_get_or, get_or-take, get_or-drop, get_or-append-add, length-take-le, take_all}
use Rattle.old_list.specs.Write.{zeros}
use Rattle.store.specs.inner.Calls.{ask_write}
use Rattle.writes.proofs.Holds.{either}
use Rattle.writes.proofs.Plain.{Overwritten}
use Rattle.demands.specs.Plain.{overwrite, plain_write}

-- it is a write of at least one byte to a plain file
pub wrote_some : (number p : ℕ) (src bs : List ℕ) → (length src ≡ 0 → ⊥) → overwrite (ask_write number p src) bs ≡ plain_write (ask_write number p src) bs
wrote_some number p src bs n = rw (plain_write, lt-ltb 0 (length src) (omega (arith, n)))

-- a write of no bytes changes nothing
pub wrote_none : (number p : ℕ) (src bs : List ℕ) → length src ≡ 0 → plain_write (ask_write number p src) bs ≡ bs
wrote_none number p src bs n = rw (plain_write, le-ltb 0 (length src) (omega arith))

-- past the first list
get_d_past : (xs ys : List ℕ) (i : ℕ) → length xs ≤ i → get_or (xs ++ ys) i 0 ≡ get_or ys (i - length xs) 0
get_d_past xs ys i h =
    let e : length xs + (i - length xs) ≡ i = omega arith in
    (rw e at (get_or-append-add xs ys (i - length xs) 0))

get_d_zeros : (n i : ℕ) → get_or (zeros n) i 0 ≡ 0
get_d_zeros n i = go (either i n)
  where
    go : (i < n) ⊎ (n ≤ i) → get_or (zeros n) i 0 ≡ 0
    go (inl h) = get_or-replicate {A = ℕ} n i 0 0 h
    go (inr h) = get_or-eq_default (zeros n) 0 (rw (length-replicate {A = ℕ} n 0) h)

-- zeros behind a list are what reads past its end
get_d_padded : (xs : List ℕ) (n i : ℕ) → get_or (xs ++ zeros n) i 0 ≡ get_or xs i 0
get_d_padded xs n i = go (either i (length xs))
  where
    go : (i < length xs) ⊎ (length xs ≤ i) → get_or (xs ++ zeros n) i 0 ≡ get_or xs i 0
    go (inl h) = get_or-append xs (zeros n) 0 i h
    go (inr h) = get_d_past xs (zeros n) i h ∙ get_d_zeros n (i - length xs) ∙ sym (get_or-eq_default xs 0 h)

module _ (xs : List ℕ) (pos : ℕ) (d : List ℕ) where
  abbrev padded : List ℕ
  padded = xs ++ zeros (pos - length xs)

  front_length : length (take pos padded) ≡ pos
  front_length = length-take-le pos padded (omega (arith, length-append xs (zeros (pos - length xs)), length-replicate {A = ℕ} (pos - length xs) 0))

  -- its length is the larger of the old one and the end of the written bytes
  pub plain_length : length (overwrite (ask_write 0 pos d) xs) ≡ max (length xs) (pos + length d)
  plain_length =
      omega (arith, length-append (take pos padded) (d ++ drop (pos + length d) xs), front_length, length-append d (drop (pos + length d) xs), length-drop (pos + length d) xs)

  -- before the write it reads as before; a gap reads 0
  pub plain_low : (p : ℕ) → p < pos → get_or (overwrite (ask_write 0 pos d) xs) p 0 ≡ get_or xs p 0
  plain_low p h =
      get_or-append (take pos padded) (d ++ drop (pos + length d) xs) 0 p (omega (arith, front_length))
      ∙ get_or-take pos padded p 0 h ∙ get_d_padded xs (pos - length xs) p

  -- in the write it reads the written bytes
  pub plain_mid : (p : ℕ) → pos ≤ p → p < pos + length d → get_or (overwrite (ask_write 0 pos d) xs) p 0 ≡ get_or d (p - pos) 0
  plain_mid p h l =
      get_d_past (take pos padded) (d ++ drop (pos + length d) xs) p (omega (arith, front_length))
      ∙ ap (λ (n : ℕ). get_or (d ++ drop (pos + length d) xs) (p - n) 0) front_length
      ∙ get_or-append d (drop (pos + length d) xs) 0 (p - pos) (omega arith)

  -- behind the write it reads as before
  pub plain_high : (p : ℕ) → pos + length d ≤ p → get_or (overwrite (ask_write 0 pos d) xs) p 0 ≡ get_or xs p 0
  plain_high p h =
      let e : pos + length d + (p - pos - length d) ≡ p = omega arith in
      get_d_past (take pos padded) (d ++ drop (pos + length d) xs) p (omega (arith, front_length))
      ∙ ap (λ (n : ℕ). get_or (d ++ drop (pos + length d) xs) (p - n) 0) front_length
      ∙ get_d_past d (drop (pos + length d) xs) (p - pos) (omega arith)
      ∙ get_or-drop (pos + length d) xs (p - pos - length d) 0
      ∙ ap (λ (n : ℕ). get_or xs n 0) e

-- A file with these bytes is that file.
pub overwritten_is : {xs d ys : List ℕ} {pos : ℕ} → Overwritten xs pos d ys → ys ≡ overwrite (ask_write 0 pos d) xs
overwritten_is {xs} {d} {ys} {pos} o =
    ext_get_or 0 ys (overwrite (ask_write 0 pos d) xs) (o.long ∙ sym (plain_length xs pos d)) (λ p u. go p u (either p pos) (either p (pos + length d)))
  where
    go : (p : ℕ) → p < length ys → (p < pos) ⊎ (pos ≤ p) → (p < pos + length d) ⊎ (pos + length d ≤ p) → get_or ys p 0 ≡ get_or (overwrite (ask_write 0 pos d) xs) p 0
    go p u (inl a) c = o.low p a ∙ sym (plain_low xs pos d p a)
    go p u (inr a) (inl c) = o.mid p a c ∙ sym (plain_mid xs pos d p a c)
    go p u (inr a) (inr c) = o.high p c u ∙ sym (plain_high xs pos d p c)

-- a growing truncate is a write of zeros at the old size: the file with zeros behind it
pub plain_zeros : (xs : List ℕ) (n : ℕ) → overwrite (ask_write 0 (length xs) (zeros n)) xs ≡ xs ++ zeros n
plain_zeros xs n =
    let z : length xs - length xs ≡ 0 = omega arith in
    let t : take (length xs) (xs ++ []) ≡ xs = rw append-nil (take_all (length xs) xs (omega arith)) in
    let q : drop (length xs + length (zeros n)) xs ≡ [] = drop_of_length-le xs {i = length xs + length (zeros n)} (omega arith) in
    rw (z, t, q, append-nil) refl
