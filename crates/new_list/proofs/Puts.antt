-- A write behind its tests: the checkpoint, the lookups, then the growths. Assumes nothing.
use mathlib.Core.Path.{◌≡◌, refl, sym, ap, ◌∙◌}
use mathlib.Core.Bool.{Bool, true, false, ◌&&◌}
use mathlib.Core.List.{List, [], ◌∷◌, ◌++◌, append_assoc}
use Prim.Native.Nat.{ℕ, ◌+◌, ◌-◌, min, ◌≤◌}
use native.Mathlib.Omega.{arith}
use lib.Dec.{ltb}
use lib.ListN.{length}
use Rattle.std.specs.Prelude.{Ok, Err}
use Rattle.layout.specs.Layout.{index_at, start}
use Rattle.layout.specs.declared.Refusal.{Refusal}
use Rattle.layout.specs.declared.Refusal.TheVariants.{Damaged}
use Rattle.ctz.specs.inner.Bounds.{ListFacts}
use Rattle.files.specs.declared.Entry.{Entry}
use Rattle.files.specs.declared.Table.{Table}
use Rattle.window.specs.declared.Lookahead.{Lookahead}
use Rattle.window.specs.Value.{checkpoint_of}
use Rattle.window.proofs.Kept.{checkpoint_valid}
use Rattle.trials.specs.Loop.{Corrupt}
use Rattle.grow.specs.inner.Extend.{window_alloc}
use Rattle.old_list.specs.Write.{Job, Look, over, kept, zeros, when, wanted, looked, first_head, job_of}
use Rattle.old_list.specs.inner.Lookups.{looked_of, kept_wanted, tail_wanted, found_if, kept_of, look_in}
use Rattle.old_list.proofs.Looks.{looked_append, told_block, told_lost}
use Rattle.new_list.specs.inner.Put.{Wrote, head_of, on_by, on_from, WroteGives, Putting, puts}
use Rattle.new_list.specs.inner.Write.{put_of}
use Rattle.new_list.proofs.Goes.{wrote}
use Rattle.new_list.proofs.Gaps.{put_as_gap}

module _ (look : List ℕ → ℕ → Look) (img : List ℕ) (B : ℕ) where
  -- what is kept and what is copied behind it, looked for one after the other
  pub wanted_looked : (j : Job) → looked (look img) (wanted B j) ≡ (looked (look img) (kept_wanted B (kept j)) && looked (look img) (tail_wanted B (over j) j.old))
  unfolding wanted
  wanted_looked j =
      three (when (ltb 0 (index_at B (kept j))) (start B (index_at B (kept j) - 1) ∷ []))
      (when (ltb (start B (index_at B (kept j))) (kept j)) (start B (index_at B (kept j)) ∷ [])) (tail_wanted B (over j) j.old)
    where
      three : (a b c : List ℕ) → looked (look img) (a ++ (b ++ c)) ≡ (looked (look img) (a ++ b) && looked (look img) c)
      three a b c = ap (looked (look img)) (sym (append_assoc a b c)) ∙ looked_append look img (a ++ b) c

  -- ---- the lookups

  lost_at : (x : Bool) (h : ℕ) → found_if x h ≡ Look.Lost → x ≡ false
  lost_at true h e = let z : ◌≡◌ {A = ℕ} 0 1 = cc in absurd (omega arith)
  lost_at false h e = refl

  found_at : (x : Bool) (h k : ℕ) → found_if x h ≡ Look.Found k → (x ≡ true) × (h ≡ k)
  found_at true h k e = (refl, cc)
  found_at false h k e = let z : ◌≡◌ {A = ℕ} 0 1 = cc in absurd (omega arith)

  -- what the head of the first growth tells
  pub head_found : (q h : ℕ) → kept_of look B img q ≡ Look.Found h → (looked (look img) (kept_wanted B q) ≡ true) × (first_head (look img) q ≡ h)
  unfolding kept_of
  head_found q h e = found_at _ _ h e

  pub head_missed : (q : ℕ) → kept_of look B img q ≡ Look.Lost → looked (look img) (kept_wanted B q) ≡ false
  unfolding kept_of
  head_missed q e = lost_at _ _ e

  module _ (q over' old : ℕ) where
    -- a kept block is lost
    pub head_lost : kept_of look B img q ≡ Look.Lost → Err Damaged ≡ head_of look B img q over' old
    unfolding head_of
    head_lost e = rw (head_of, head_missed q e)

    module _ {h : ℕ} (e : kept_of look B img q ≡ Look.Found h) where
      -- a block of the tail is lost
      pub head_tailless : looked (look img) (tail_wanted B over' old) ≡ false → Err Damaged ≡ head_of look B img q over' old
      unfolding head_of
      head_tailless f = let k = head_found q h e in rw (head_of, k.0, f)

      -- all is found
      pub head_whole : looked (look img) (tail_wanted B over' old) ≡ true → Ok h ≡ head_of look B img q over' old
      unfolding head_of
      head_whole f = let k = head_found q h e in rw (head_of, k.0, f, k.1)

  -- what the lookups tell
  head_wanted : (j : Job) → head_of look B img (kept j) (over j) j.old ≡ looked_of (found_if (looked (look img) (wanted B j)) (first_head (look img) (kept j)))
  unfolding head_of
  head_wanted j = rw (head_of, wanted_looked j)

  pub none_found : (j : Job) (r : Refusal) → head_of look B img (kept j) (over j) j.old ≡ Err r → (looked (look img) (wanted B j) ≡ false) × (Damaged ≡ r)
  none_found j r e = let t = told_lost _ r (sym (head_wanted j) ∙ e) in (lost_at _ _ t.0, t.1)

  pub all_found : (j : Job) (h : ℕ) → head_of look B img (kept j) (over j) j.old ≡ Ok h
      → (looked (look img) (wanted B j) ≡ true) × (first_head (look img) (kept j) ≡ h)
  all_found j h e = found_at _ _ h (told_block _ h (sym (head_wanted j) ∙ e))

module _ {B N l : ℕ} {img health : List ℕ} {t : Table} {w : Lookahead} {e : Entry} {pos : ℕ} {src : List ℕ}
    (x : Putting B N l img health t w e pos src) where
  pub putting_look : ListFacts B N e.size (length img)
  putting_look = record { card = x.ready.card; most = x.most }

  module _ {v : Lookahead} (c : v ≡ checkpoint_of N w) where
    -- checkpointed, the growths may begin
    pub putting_on : Putting B N l img health t v e pos src
    putting_on =
        rw c
        (record {
          ready = record { card = x.ready.card; sizes = x.ready.sizes; window = checkpoint_valid x.ready.window; table = x.ready.table };
          known = x.known;
          most = x.most;
          fits = x.fits;
        })

    -- a block is lost
    pub put_lost : (r : Refusal) → head_of (look_in B N e) B img (min pos e.size) (pos + length src) e.size ≡ Err r
        → WroteGives (puts B N l health t e pos src w img) (record { answer = Err r; window = v }) img
    unfolding puts put_of
    put_lost r a =
        let k = none_found (look_in B N e) img B (job_of e pos src) r a in
        rw (← k.1) (wrote Corrupt img v (rw (puts, put_of, k.0, c)))

    -- all is found
    pub put_goes : {q h : ℕ} → q ≡ min pos e.size → head_of (look_in B N e) B img (min pos e.size) (pos + length src) e.size ≡ Ok h
        → {o : Wrote} {after : List ℕ} → WroteGives (on_from B N l health t e pos src v h q img) o after
        → WroteGives (puts B N l health t e pos src w img) o after
    unfolding puts put_of on_by
    put_goes {q} {h} eq a {o} {after} d =
        let k = all_found (look_in B N e) img B (job_of e pos src) h a in
        rw (puts, put_of, k.0, k.1) (rw (c, eq) at d)

-- a growing truncate's zeros are a gap
pub puts_as_gap : (B N l : ℕ) (health : List ℕ) (t : Table) (e : Entry) (size : ℕ) (w : Lookahead) (img : List ℕ) → e.size ≤ size
    → puts B N l health t e e.size (zeros (size - e.size)) w img ≡ puts B N l health t e size [] w img
unfolding puts
puts_as_gap B N l health t e size w img h =
    put_as_gap (look_in B N e) (λ (v : Lookahead). v.ckpoint) (window_alloc B N l t) health B N e.head e.size (size - e.size) size (omega arith) (checkpoint_of N w) img
