-- What `found_all` answers: the first run and the rest of the indexes tell whether the run of positions is clean. Assumes nothing.
use mathlib.Core.Path.{◌≡◌, refl, sym, ◌∙◌, subst}
use mathlib.Core.List.{List}
use Prim.Native.Nat.{ℕ, ◌+◌, ◌-◌, ◌≤◌, ◌<◌, min}
use native.Mathlib.Nat.{min-le_left, min-eq_left, min-eq_right}
use native.Mathlib.Omega.{arith}
use lib.ListN.{length}
use Rattle.std.specs.Prelude.{Result, Ok, Err}
use Rattle.layout.specs.declared.Refusal.{Refusal}
use Rattle.layout.specs.Layout.{index_at}
use Rattle.card.specs.Card.{pointer}
use Rattle.card.specs.inner.Cards.{CardFacts}
use Rattle.ctz.specs.inner.Runs.{RunGives}
use Rattle.finding.specs.inner.Runs.{Tested, Answered, RunSought, Noted}
use Rattle.finding.proofs.Runs.{passed_none, passed_more, passed_all, tested_on, run_missed, run_noted}
use Rattle.finding.proofs.Parts.{never_both}
use Rattle.finding.proofs.Gathers.{on_card}
use Rattle.finding.proofs.Positions.{ordered, tested_clean}

module _ (image : List ℕ) {B N head size p n room : ℕ} (c : CardFacts B N (length image)) (a : RunSought size p n room) {top first last : ℕ}
    (e : top ≡ index_at B (size - 1)) (f : first ≡ index_at B p) (g : last ≡ index_at B (p + (n - 1)))
    {m : ℕ} (q : m ≡ min (last - first + 1) 1024) {blocks : List ℕ} (v : Result (Unit {0}) Refusal) (r : RunGives (pointer B image) N head top first m room v blocks) where
  begun : v ≡ Ok tt → Noted image B N head size p n blocks
  begun t = rw (sym e, sym f, sym g) (run_noted v t a.long (ordered (on_card c a.run) a.some f g) q r)

  answered : (w : Result (Unit {0}) Refusal) → (w ≡ Ok tt → v ≡ Ok tt) → Tested (pointer B image) N head top first last w → Answered image B N head size p n w blocks
  answered w t d = record { is = tested_clean image head B N size p n w a.some (on_card c a.run) e f g d; noted = λ h. begun (t h) }

  pub answered_lost : {d : Refusal} → v ≡ Err d → Answered image B N head size p n (Err d) blocks
  answered_lost t =
      let l = min-le_left (last - first + 1) 1024 in
      answered (Err _) (λ h. absurd (never_both h refl))
      (run_missed (pointer B image) N head top first v t (omega arith) (omega (arith, ordered (on_card c a.run) a.some f g)) r)

  pub answered_short : v ≡ Ok tt → last - first < 1024 → Answered image B N head size p n (Ok tt) blocks
  answered_short t l =
      let k : last - first + 1 ≤ 1024 = omega arith in
      let h = min-eq_left k in
      answered (Ok tt) (λ h. t) (passed_all (pointer B image) N head top first (omega (arith, ordered (on_card c a.run) a.some f g))
      (passed_more (pointer B image) N head top first v t (passed_none (pointer B image) N head top first) r))

  pub answered_on : (w : Result (Unit {0}) Refusal) → v ≡ Ok tt → 1024 ≤ last - first → Tested (pointer B image) N head top (first + 1024) last w
      → Answered image B N head size p n w blocks
  answered_on w t l d =
      let k : 1024 ≤ last - first + 1 = omega arith in
      let h : m ≡ 1024 = q ∙ min-eq_right k in
      answered w (λ h. t) (tested_on (pointer B image) N head top first v w t (subst (λ (y : ℕ). RunGives (pointer B image) N head top first y room v blocks) h r) d)
