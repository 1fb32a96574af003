-- The tests before the card is read, case by case, and what is known behind them. Assumes nothing.
use mathlib.Core.Path.{◌≡◌, refl, ap, subst}
use mathlib.Core.Bool.{Bool, true, false}
use Prim.Native.Nat.{ℕ, ◌≤◌, ◌<◌}
use native.Mathlib.Omega.{arith}
use borrow.Author.Tests.{lt-ltb, le-ltb, ltb-true, ltb-false}
use lib.Dec.{ltb}
use Rattle.std.specs.Prelude.{Result, Ok, Err}
use Rattle.layout.specs.Numbers.{files_max, size_max}
use Rattle.layout.specs.declared.Refusal.{Refusal}
use Rattle.layout.specs.declared.Refusal.TheVariants.{Missing, Invalid}
use Rattle.layout.specs.inner.Served.{geometry}
use Rattle.card.specs.Card.{good_card}
use Rattle.card.proofs.Cards.{card}
use Rattle.ctz.specs.inner.Bounds.{ListFacts}
use Rattle.files.specs.declared.Entry.{Entry}
use Rattle.files.specs.declared.Table.{Table}
use Rattle.files.specs.Table.{file, find_of}
use Rattle.files.proofs.Laws.{count_ok, table_valid}
use Rattle.files.proofs.Cases.{found_at, found_cases}
use Rattle.reading.specs.Calls.{entry_of, asked_of}
use Rattle.reading.specs.inner.Bounds.{file_position}

-- a file that is found stands in one of the slots, and its size is none too large
pub found_slot : (t : Table) (number i : ℕ) → find_of t number ≡ Ok i → i < files_max
found_slot t number i e = let h = found_at t number i e in omega (arith, h.below, count_ok t h.ok)

pub found_size : (t : Table) (number i : ℕ) → find_of t number ≡ Ok i → (file t i).size ≤ size_max
found_size t number i e = let h = found_at t number i e in (table_valid t h.ok).size_le i h.below

-- so the file that a call is about is none too large
pub entry_size : (t : Table) (number p : ℕ) (e : Entry) → entry_of t (file_position number p) ≡ Ok e → e.size ≤ size_max
entry_size t number p e q = go (find_of t number) refl (ltb size_max p) q
  where
    go : (r : Result ℕ Refusal) → find_of t number ≡ r → (b : Bool)
        → ◌≡◌ {A = Result Entry Refusal} (elim r [ Ok i ↦ elim b [ true ↦ Err Invalid | false ↦ Ok (file t i) ] | Err x ↦ Err x ]) (Ok e) → e.size ≤ size_max
    go (Ok i) f false q = let same : file t i ≡ e = cc in subst (λ (x : Entry). x.size ≤ size_max) same (found_size t number i f)
    go (Ok i) f true q = let z : ◌≡◌ {A = ℕ} 0 1 = cc in absurd (omega arith)
    go (Err x) f b q = let z : ◌≡◌ {A = ℕ} 0 1 = cc in absurd (omega arith)

module _ (B N len : ℕ) (t : Table) (number p : ℕ) where
  pub ask_card : good_card (geometry B N) len ≡ false → Err Invalid ≡ asked_of (geometry B N) len t (file_position number p)
  unfolding asked_of
  ask_card g = rw (asked_of, g) refl

  module _ (g : good_card (geometry B N) len ≡ true) where
    -- -2 or -22, as the table is asked
    pub ask_none : (r : Refusal) → find_of t number ≡ Err r → Err r ≡ asked_of (geometry B N) len t (file_position number p)
    unfolding asked_of
    ask_none r e = rw (asked_of, entry_of, g, e) refl

    pub ask_far : (i : ℕ) → find_of t number ≡ Ok i → size_max < p → Err Invalid ≡ asked_of (geometry B N) len t (file_position number p)
    unfolding asked_of
    ask_far i e h = rw (asked_of, entry_of, g, e, lt-ltb size_max p h) refl

    pub ask_file : (i : ℕ) → find_of t number ≡ Ok i → p ≤ size_max → Ok (file t i) ≡ asked_of (geometry B N) len t (file_position number p)
    unfolding asked_of
    ask_file i e h = rw (asked_of, entry_of, g, e, le-ltb size_max p h) refl

  -- what is known of a file that is handed on
  pub record Known (e : Entry) : Type 0 where
    pub good : good_card (geometry B N) len ≡ true
    pub slot : ℕ
    pub place : find_of t number ≡ Ok slot
    pub file_is : file t slot ≡ e
    pub near : p ≤ size_max

  -- the three answers
  pub data Way : Result Entry Refusal → Type 0 where
    met : {e : Entry} → Known e → Way (Ok e)
    missed : Way (Err Missing)
    refused : Way (Err Invalid)

  pub ask_way : Way (asked_of (geometry B N) len t (file_position number p))
  ask_way = go (good_card (geometry B N) len) refl
    where
      there : (g : good_card (geometry B N) len ≡ true) (i : ℕ) → find_of t number ≡ Ok i → (b : Bool) → ltb size_max p ≡ b
          → Way (asked_of (geometry B N) len t (file_position number p))
      there g i f true h = subst Way (ask_far g i f (ltb-true size_max p h)) refused
      there g i f false h =
          subst Way (ask_file g i f (ltb-false size_max p h))
          (met (record { good = g; slot = i; place = f; file_is = refl; near = ltb-false size_max p h }))

      go : (a : Bool) → good_card (geometry B N) len ≡ a → Way (asked_of (geometry B N) len t (file_position number p))
      go false g = subst Way (ask_card g) refused
      go true g =
          found_cases t number (Way (asked_of (geometry B N) len t (file_position number p))) (λ i f. there g i f (ltb size_max p) refl)
          (λ f. subst Way (ask_none g Missing f) missed) (λ f. subst Way (ask_none g Invalid f) refused)

  pub ask_tells : (e : Entry) → asked_of (geometry B N) len t (file_position number p) ≡ Ok e → Known e
  ask_tells e q = go ask_way q
    where
      go : {r : Result Entry Refusal} → Way r → r ≡ Ok e → Known e
      go (met {e = x} k) q = let same : x ≡ e = cc in subst (λ (y : Entry). Known y) same k
      go missed q = let z : ◌≡◌ {A = ℕ} 0 1 = cc in absurd (omega arith)
      go refused q = let z : ◌≡◌ {A = ℕ} 0 1 = cc in absurd (omega arith)

  -- its list lies on a card, and its size is none too large
  pub listed : (e : Entry) → asked_of (geometry B N) len t (file_position number p) ≡ Ok e → ListFacts B N e.size len
  listed e q =
      let k = ask_tells e q in
      record { card = card B N len k.good; most = omega (arith, found_size t number k.slot k.place, ap (λ (x : Entry). x.size) k.file_is) }
