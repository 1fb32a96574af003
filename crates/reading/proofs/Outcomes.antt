-- What the outcome of a read tells: a refusal leaves the buffer as it came; an answer copied that many bytes, and bytes beyond keep their values.
-- Assumes nothing.
use mathlib.Core.Path.{◌≡◌, refl, ap, ◌∙◌, subst}
use mathlib.Core.List.{List}
use Prim.Native.Nat.{ℕ, ◌-◌, ◌≤◌, min}
use native.Mathlib.Omega.{arith}
use lib.IntN.{pos}
use lib.ListN.{length, get_or}
use lib.Seq.{sets, length-sets}
use Rattle.span.proofs.Runs.{get_d_sets_after}
use Rattle.std.specs.Prelude.{Result, Ok, Err}
use Rattle.layout.specs.declared.Refusal.{Refusal}
use Rattle.layout.specs.declared.Refusal.TheVariants.{Missing, Invalid, Damaged}
use Rattle.layout.specs.Refusals.{answer_code}
use Rattle.layout.specs.inner.Served.{geometry}
use Rattle.card.specs.inner.Cards.{card_with}
use Rattle.plain.specs.Reading.{Gathered}
use Rattle.files.specs.declared.Entry.{Entry}
use Rattle.files.specs.declared.Table.{Table}
use Rattle.finding.proofs.Gathers.{Gave, copied, damaged}
use Rattle.reading.specs.Calls.{given, asked_of, read_of, read_length, ReadOut}
use Rattle.reading.specs.inner.Bounds.{file_position}
use Rattle.reading.proofs.Inner.{read_in_gave}
use Rattle.reading.proofs.Asks as way
use Rattle.reading.proofs.Asks.{Way, ask_way, listed}
use Rattle.reading.proofs.Results.{read_file, read_refused}

-- The ways of a read: the refusals, which leave the buffer, and the copy of as many bytes as fit and are there.
pub data ReadView (ask : Result Entry Refusal) (p : ℕ) (buffer : List ℕ) : ReadOut → Type 0 where
  bytes : (e : Entry) (bs : List ℕ) → ask ≡ Ok e → length bs ≡ min (length buffer) (e.size - p)
      → ReadView ask p buffer (record { answer = Ok (length bs); buffer = sets buffer 0 bs })
  met_damage : (e : Entry) → ask ≡ Ok e → ReadView ask p buffer (record { answer = Err Damaged; buffer = buffer })
  missed : ask ≡ Err Missing → ReadView ask p buffer (record { answer = Err Missing; buffer = buffer })
  refused : ask ≡ Err Invalid → ReadView ask p buffer (record { answer = Err Invalid; buffer = buffer })

view_given : (ask : Result Entry Refusal) (p : ℕ) (buffer : List ℕ) (e : Entry) {g : Gathered} → ask ≡ Ok e
    → Gave (min (length buffer) (e.size - p)) g → ReadView ask p buffer (given buffer g)
view_given ask p buffer e q (copied bs l) = bytes e bs q l
view_given ask p buffer e q damaged = met_damage e q

pub read_view : (B N : ℕ) (image : List ℕ) (t : Table) (number p : ℕ) (buffer : List ℕ)
    → ReadView (asked_of (geometry B N) (length image) t (file_position number p)) p buffer (read_of (card_with B N image) t (file_position number p) buffer)
read_view B N image t number p buffer = go (ask_way B N (length image) t number p) refl
  where
    go : {a : Result Entry Refusal} → Way B N (length image) t number p a → asked_of (geometry B N) (length image) t (file_position number p) ≡ a
        → ReadView (asked_of (geometry B N) (length image) t (file_position number p)) p buffer (read_of (card_with B N image) t (file_position number p) buffer)
    go (way.met {e} k) q =
        subst (ReadView (asked_of (geometry B N) (length image) t (file_position number p)) p buffer) (read_file B N image t number p buffer q)
        (view_given (asked_of (geometry B N) (length image) t (file_position number p)) p buffer e q
        (read_in_gave image e.head p (length buffer) (listed B N (length image) t number p e q)))
    go way.missed q = subst (ReadView (asked_of (geometry B N) (length image) t (file_position number p)) p buffer) (read_refused B N image t number p buffer q) (missed q)
    go way.refused q = subst (ReadView (asked_of (geometry B N) (length image) t (file_position number p)) p buffer) (read_refused B N image t number p buffer q) (refused q)

-- ---- what follows

module _ {ask : Result Entry Refusal} {p : ℕ} {buffer : List ℕ} where
  -- a refused read leaves the buffer
  pub refusal_leaves : {o : ReadOut} → ReadView ask p buffer o → (answer_code o.answer ≡ pos 0 → ⊥) → o.buffer ≡ buffer
  refusal_leaves (bytes e bs q l) n = absurd (n refl)
  refusal_leaves (met_damage e q) n = refl
  refusal_leaves (missed q) n = refl
  refusal_leaves (refused q) n = refl

  pub length_kept : {o : ReadOut} → ReadView ask p buffer o → length o.buffer ≡ length buffer
  length_kept (bytes e bs q l) = length-sets buffer 0 bs
  length_kept (met_damage e q) = refl
  length_kept (missed q) = refl
  length_kept (refused q) = refl

  -- bytes beyond those that were read keep their values
  pub beyond_kept : {o : ReadOut} → ReadView ask p buffer o → (j d : ℕ) → read_length o.answer ≤ j → get_or o.buffer j d ≡ get_or buffer j d
  beyond_kept (bytes e bs q l) j d h = get_d_sets_after buffer 0 bs j d (omega arith)
  beyond_kept (met_damage e q) j d h = refl
  beyond_kept (missed q) j d h = refl
  beyond_kept (refused q) j d h = refl

  -- an answer gives min(room, size - position) bytes
  pub answer_tells : {o : ReadOut} → ReadView ask p buffer o → (e : Entry) → ask ≡ Ok e → answer_code o.answer ≡ pos 0
      → read_length o.answer ≡ min (length buffer) (e.size - p)
  answer_tells (bytes e bs q l) e' f c = let same : e ≡ e' = cc in l ∙ ap (λ (x : Entry). min (length buffer) (x.size - p)) same
  answer_tells (met_damage e q) e' f c = let z : ◌≡◌ {A = ℕ} 0 1 = cc in absurd (omega arith)
  answer_tells (missed q) e' f c = let z : ◌≡◌ {A = ℕ} 0 1 = cc in absurd (omega arith)
  answer_tells (refused q) e' f c = let z : ◌≡◌ {A = ℕ} 0 1 = cc in absurd (omega arith)
