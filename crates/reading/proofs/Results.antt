-- What read and stretch answer and leave, by what the tests said. Assumes nothing.
use mathlib.Core.Path.{◌≡◌, refl, sym, ap, ◌∙◌}
use mathlib.Core.List.{List}
use Prim.Native.Nat.{ℕ, ◌+◌, ◌-◌, ◌≤◌}
use native.Mathlib.Nat.{add-sub_cancel_left}
use native.Mathlib.Omega.{arith}
use lib.ListN.{length, take, drop}
use Rattle.std.specs.Prelude.{Result, Ok, Err}
use Rattle.layout.specs.declared.Refusal.{Refusal}
use Rattle.layout.specs.inner.Served.{block_list, geometry}
use Rattle.card.specs.inner.Cards.{card_with}
use Rattle.plain.specs.Reading.{read_in, stretch_in}
use Rattle.plain.specs.inner.Forms.{range}
use Rattle.files.specs.declared.Entry.{Entry}
use Rattle.files.specs.declared.Table.{Table}
use Rattle.reading.specs.declared.Part.{Part}
use Rattle.reading.specs.Calls.{given, asked_of, read_of, placed_of, stretch_of, stretch_bytes, placed_place, placed_length}
use Rattle.reading.specs.inner.Bounds.{file_position}
use Rattle.reading.proofs.Asks.{listed}
use Rattle.reading.proofs.Inner.{stretch_inside}

module _ (B N : ℕ) (image : List ℕ) (t : Table) (number p : ℕ) where
  abbrev ask : Result Entry Refusal
  ask = asked_of (geometry B N) (length image) t (file_position number p)

  -- ---- read

  module _ (buffer : List ℕ) where
    pub read_file : {e : Entry} → ask ≡ Ok e
        → given buffer (read_in (card_with B N image) (block_list e.head e.size) (range p (length buffer))) ≡ read_of (card_with B N image) t (file_position number p) buffer
    unfolding read_of
    read_file q = rw (read_of, q) refl

    pub read_refused : {r : Refusal} → ask ≡ Err r → record { answer = Err r; buffer = buffer } ≡ read_of (card_with B N image) t (file_position number p) buffer
    unfolding read_of
    read_refused q = rw (read_of, q) refl

  -- ---- stretch

  pub place_file : {e : Entry} → ask ≡ Ok e → placed_of (stretch_in (card_with B N image) (block_list e.head e.size) p) ≡ stretch_of (card_with B N image) t (file_position number p)
  unfolding stretch_of
  place_file q = rw (stretch_of, q) refl

  pub place_refused : {r : Refusal} → ask ≡ Err r → Err r ≡ stretch_of (card_with B N image) t (file_position number p)
  unfolding stretch_of
  place_refused q = rw (stretch_of, q) refl

  -- a stretch lies in the image
  pub stretch_within : placed_place (stretch_of (card_with B N image) t (file_position number p)) + placed_length (stretch_of (card_with B N image) t (file_position number p)) ≤ length image
  stretch_within = go ask refl
    where
      go : (a : Result Entry Refusal) → ask ≡ a → placed_place (stretch_of (card_with B N image) t (file_position number p)) + placed_length (stretch_of (card_with B N image) t (file_position number p)) ≤ length image
      go (Ok e) q =
          let h = stretch_inside image e.head p (listed B N (length image) t number p e q) in
          rw (sym (place_file q)) h
      go (Err r) q = rw (sym (place_refused q)) (omega arith)

  pub placed_within : (q : Result Part Refusal) (a n : ℕ) → q ≡ stretch_of (card_with B N image) t (file_position number p) → a ≡ placed_place q → n ≡ placed_length q → a + n ≤ length image
  placed_within q a n e f h = omega (arith, f ∙ ap placed_place e, h ∙ ap placed_length e, stretch_within)

-- the part that the code takes
pub stretch_part : (image : List ℕ) (s : Result Part Refusal) (q : Result Part Refusal) (a n : ℕ) → q ≡ s → a ≡ placed_place q → n ≡ placed_length q
    → take (a + n - a) (drop a image) ≡ stretch_bytes image s
stretch_part image s q a n e f h =
    ap (λ (x : ℕ). take x (drop a image)) (add-sub_cancel_left a n)
    ∙ ap (λ (x : ℕ). take n (drop x image)) (f ∙ ap placed_place e) ∙ ap (λ (x : ℕ). take x (drop (placed_place s) image)) (h ∙ ap placed_length e)
