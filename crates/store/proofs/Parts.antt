-- The bytes of a trial by its parts: growth, gap and data, tail. Assumes nothing.
use mathlib.Core.Path.{◌≡◌, refl, sym, ap, ◌∙◌}
use mathlib.Core.Bool.{true, false}
use mathlib.Core.List.{List, [], ◌++◌}
use Prim.Native.Nat.{ℕ, ◌+◌, ◌-◌, ◌≤◌}
use native.Mathlib.Omega.{arith}
use borrow.Author.Tests.{ltb-true}
use lib.Dec.{ltb}
use lib.ListN.{length, take, length-append, length-drop, length-replicate}
use Rattle.trials.specs.Trial.{Trial, Ending, Fault, ends, more, whole}
use Rattle.trials.specs.Loop.{Candidate}
use Rattle.grow.specs.Growth.{offset, with, growth}
use Rattle.grow.specs.inner.Grow.{part}
use Rattle.grow.proofs.Pointed.{part_block}
use Rattle.old_list.specs.Write.{Job, Look, Found, Lost, lead, ahead, then, width, tail, trial_of}

pub length_ahead : (j : Job) (s : ℕ) → length (ahead j s) ≡ lead j s
unfolding ahead
length_ahead j s = simp (length-append, length-replicate, length-drop) (omega arith)

-- what ended in a fault stays so
then_stops : (q : Candidate) (img : List ℕ) (t : Trial) (go : List ℕ → Trial) → t.ending ≡ Fault → then q img t go ≡ t
unfolding then
then_stops q img t go e =
    let r : t ≡ record { bytes = t.bytes; ending = Fault } = ap (λ (y : Ending). record { bytes = t.bytes; ending = y }) e in
    ap (λ (u : Trial). then q img u go) r ∙ sym r

module _ (look : List ℕ → ℕ → Look) (j : Job) (q : Candidate) (img : List ℕ) where
  -- how many positions go into the block, and gap and data among them
  abbrev pub wide : ℕ
  wide = width q.B j q.size

  abbrev pub front : List ℕ
  front = take wide (ahead j q.size)

  -- a growth without a fault: gap and data follow, and then the tail on the image with them
  pub trial_whole : (g : List ℕ) → growth q img ≡ whole g → trial_of look j q img ≡ more (g ++ front) (tail look j q (with q img 0 (g ++ front)))
  unfolding trial_of then
  trial_whole g e = rw (trial_of, e) refl

  -- a growth with one
  pub trial_stops : (growth q img).ending ≡ Fault → trial_of look j q img ≡ growth q img
  unfolding trial_of
  trial_stops e =
      let i : then q img (growth q img) (λ i. whole (take (width q.B j q.size) (ahead j q.size))) ≡ growth q img = then_stops q img (growth q img) _ e in
      rw (trial_of, i) (then_stops q img (growth q img) (λ i. tail look j q i) e)

  pub tail_none : ltb (lead j q.size) wide ≡ false → tail look j q img ≡ whole []
  unfolding tail
  tail_none e = rw (tail, e) refl

  pub tail_lost : ltb (lead j q.size) wide ≡ true → look img (q.size + lead j q.size) ≡ Lost → tail look j q img ≡ ends Fault
  unfolding tail
  tail_lost e f = rw (tail, e, f) refl

  pub tail_found : (b : ℕ) → offset q ≤ q.B → ltb (lead j q.size) wide ≡ true → look img (q.size + lead j q.size) ≡ Found b
      → tail look j q img ≡ whole (part q.B b (offset q + lead j q.size) (wide - lead j q.size) img)
  unfolding tail
  tail_found b h e f =
      rw (tail, e, f)
      (ap whole (part_block q.B b (offset q + lead j q.size) (wide - lead j q.size) img (omega (arith, ltb-true (lead j q.size) wide e))))
