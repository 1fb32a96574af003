-- Runs of indexes that are found, run after run. Assumes nothing.
use mathlib.Core.Path.{◌≡◌, refl, ◌∙◌, subst}
use mathlib.Core.Bool.{Bool, true, false}
use mathlib.Core.List.{List}
use Prim.Native.Nat.{ℕ, suc, ◌+◌, ◌-◌, ◌≤◌, ◌<◌, min}
use native.Mathlib.Nat.{min-le_left, le-min}
use native.Mathlib.Omega.{arith}
use borrow.Author.Tests.{ltb-true, ltb-false}
use lib.Dec.{ltb}
use lib.ListN.{get_or}
use Rattle.std.specs.Prelude.{Result, Ok, Err}
use Rattle.layout.specs.declared.Refusal.{Refusal}
use Rattle.card.specs.Card.{pointer}
use Rattle.ctz.specs.inner.Runs.{Finds, RunGives}
use Rattle.finding.specs.inner.Runs.{Tested, Held, Notable}
use Rattle.finding.proofs.Parts.{never_both}

-- ---- a run, then the next

module _ (ptr : ℕ → ℕ → ℕ) (N head top first : ℕ) where
  -- the indexes from `first` on, below i, are found
  abbrev pub Passed : ℕ → Type 0
  Passed i = (x : ℕ) → first ≤ x → x < i → (k : ℕ) × Finds ptr N head top x k

  pub passed_none : Passed first
  passed_none x l h = absurd (omega arith)

  pub passed_more : {i n room : ℕ} {blocks : List ℕ} (w : Result (Unit {0}) Refusal) → w ≡ Ok tt → Passed i → RunGives ptr N head top i n room w blocks → Passed (i + n)
  passed_more {i} {n} {blocks = blocks} w t p g x l h = go (ltb x i) refl
    where
      go : (b : Bool) → ltb x i ≡ b → (k : ℕ) × Finds ptr N head top x k
      go true b = p x l (ltb-true x i b)
      go false b =
          let e : i + (x - i) ≡ x = omega (arith, ltb-false x i b) in
          (get_or blocks (x - i) 0, subst (λ (y : ℕ). Finds ptr N head top y (get_or blocks (x - i) 0)) e (g.found t (x - i) (omega (arith, ltb-false x i b))))

  pub passed_all : {i last : ℕ} → last < i → Passed i → Tested ptr N head top first last (Ok tt)
  passed_all l p = record { found = λ e x f h. p x f (omega arith); lost = λ r e. absurd (never_both refl e) }

  -- the first run is found: the rest decides
  pub tested_on : {n room last : ℕ} {blocks : List ℕ} (v w : Result (Unit {0}) Refusal) → v ≡ Ok tt → RunGives ptr N head top first n room v blocks
      → Tested ptr N head top (first + n) last w → Tested ptr N head top first last w
  tested_on {n} {last = last} {blocks = blocks} v w t g r =
      record {
        found = λ e x l h. go e x l h (ltb x (first + n)) refl;
        lost = λ d e. let m = r.lost d e in (m.0, (m.1.0, (omega (arith, m.1.1.0), m.1.1.1, m.1.1.2)));
      }
    where
      go : w ≡ Ok tt → (x : ℕ) → first ≤ x → x ≤ last → (b : Bool) → ltb x (first + n) ≡ b → (k : ℕ) × Finds ptr N head top x k
      go e x l h true b = passed_more v t passed_none g x l (ltb-true x (first + n) b)
      go e x l h false b = r.found e x (ltb-false x (first + n) b) h

  pub run_missed : {i n room last : ℕ} {blocks : List ℕ} {d : Refusal} (w : Result (Unit {0}) Refusal) → w ≡ Err d → first ≤ i → i + n ≤ suc last
      → RunGives ptr N head top i n room w blocks → Tested ptr N head top first last (Err d)
  run_missed {i} {d = d} w t f h g =
      let m = g.lost d t in
      record {
        found = λ e. absurd (never_both e refl);
        lost = λ r e. let same = m.0 in (cc, (i + m.1.0, (omega arith, omega (arith, m.1.1.0), m.1.1.1)));
      }

-- the blocks of a run that is found are noted
pub run_noted : {ptr : ℕ → ℕ → ℕ} {N head top base last room n : ℕ} {blocks : List ℕ} (w : Result (Unit {0}) Refusal) → w ≡ Ok tt → room ≡ 1024 → base ≤ last
    → n ≡ min (last - base + 1) 1024 → RunGives ptr N head top base n room w blocks → Held ptr N head top base last blocks
run_noted {base = base} {last = last} w t l h q g =
    record {
      long = g.long ∙ l;
      block = λ m s u. let c : suc m ≤ min (last - base + 1) 1024 = le-min (omega arith) (omega arith) in g.found t m (omega arith);
    }

pub noted : {image blocks : List ℕ} {B N head top base last room n : ℕ} (w : Result (Unit {0}) Refusal) → Notable image B N head top base last room
    → n ≡ min (last - base + 1) 1024 → RunGives (pointer B image) N head top base n room w blocks → Held (pointer B image) N head top base last blocks
noted (Ok u) a q g = run_noted (Ok u) refl a.long a.inside q g
noted {base = base} {last = last} {n = n} (Err e) a q g =
    let m = (g.lost e refl).1 in
    let c = min-le_left (last - base + 1) 1024 in
    let k = a.reached (base + m.0) (omega arith) (omega (arith, m.1.0, a.inside)) in
    let lost = m.1.1 in
    let found = k.1.1 in
    let z : ◌≡◌ {A = ℕ} 0 1 = cc in
    absurd (omega arith)
