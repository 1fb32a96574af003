-- One turn of a write, way by way: what it leaves is what the rest leaves. Assumes nothing.
use mathlib.Core.Path.{◌≡◌, refl, ap, ◌∙◌}
use mathlib.Core.Bool.{true, false}
use mathlib.Core.List.{List, [], ◌∷◌}
use Prim.Native.Nat.{ℕ, suc, ◌<◌}
use borrow.Author.Tests.{lt-ltb}
use lib.Dec.{ltb}
use lib.ListN.{length}
use Rattle.health.specs.Health.{refuses_erase, refuses_program}
use Rattle.device.specs.Device.{stored, wiped}
use Rattle.device.specs.inner.Bounds.{spot}
use Rattle.trials.specs.Steps.{Erase, series, programs}
use Rattle.trials.specs.Trial.{Trial, Ending, Whole, Fault, Refused, ends, taken_by}
use Rattle.trials.specs.Loop.{Block, None, Bad, Flash, Plan, Standing, Turn, Next, Longer, Again, Ends, write_out, Written, NoRoom, Corrupt, followed, tried, turn_of, write_by, Candidate}
use Rattle.trials.proofs.Series.{series_tried}

abbrev pub at : {W : Type 0} → ℕ → ℕ → List ℕ → W → Standing W
at h s img w = record { head = h; size = s; image = img; rest = w }

-- block k, tried behind the list (h, s)
abbrev pub try_at : ℕ → ℕ → ℕ → ℕ → ℕ → Candidate
try_at B N k h s = record { B = B; N = N; k = k; head = h; size = s }

-- a block that refuses no program takes all; one that refuses takes nothing, and a list without bytes ends as it does
pub taken_all : (t : Trial) → taken_by false t ≡ t
unfolding taken_by
taken_all t = refl

pub taken_none : (t : Trial) → 0 < length t.bytes → taken_by true t ≡ ends Refused
unfolding taken_by
taken_none t h = rw (taken_by, lt-ltb 0 (length t.bytes) h)

pub taken_empty : (e : Ending) → taken_by true (ends e) ≡ ends e
unfolding taken_by
taken_empty e = refl

module _ {W : Type 0} (c : Flash W) (p : Plan) (m h s : ℕ) (img : List ℕ) (w w' : W) where
  pub done_law : ltb s p.until ≡ false → write_by c p (suc m) (at h s img w) ≡ write_out (Written h s) img w
  unfolding write_by
  done_law e = rw (write_by, e) refl

  module _ (lt : ltb s p.until ≡ true) where
    -- what follows a turn
    turned : (t : Turn W) → turn_of c p (at h s img w) ≡ t → write_by c p (suc m) (at h s img w) ≡ followed c p (at h s img w) t (λ st'. write_by c p m st')
    unfolding write_by
    turned t e = rw (write_by, lt) (ap (λ (x : Turn W). followed c p (at h s img w) x (λ st'. write_by c p m st')) e)

    pub none_law : c.alloc w img ≡ None w' → write_by c p (suc m) (at h s img w) ≡ write_out NoRoom img w'
    unfolding followed turn_of series
    none_law e = turned (record { steps = []; rest = w'; next = Ends NoRoom }) (rw (turn_of, e) refl)

    pub bad_law : c.alloc w img ≡ Bad w' → write_by c p (suc m) (at h s img w) ≡ write_out Corrupt img w'
    unfolding followed turn_of series
    bad_law e = turned (record { steps = []; rest = w'; next = Ends Corrupt }) (rw (turn_of, e) refl)

    module _ (k : ℕ) (e : c.alloc w img ≡ Block k w') where
      pub passed_law : refuses_erase c.health k ≡ true → write_by c p (suc m) (at h s img w) ≡ write_by c p m (at h s img w')
      unfolding followed turn_of series
      passed_law f = turned (record { steps = []; rest = w'; next = Again }) (rw (turn_of, e, f) refl)

      module _ (f : refuses_erase c.health k ≡ false) where
        -- what block k is to take
        abbrev due : Trial
        due = p.trial (try_at c.B c.N k h s) (wiped c.B img k)

        -- the turn of a block that took vs
        took : List ℕ → Next → Turn W
        took vs n = record { steps = Erase k ∷ programs k 0 vs; rest = w'; next = n }

        takes : (t : Trial) → taken_by (refuses_program c.health k) due ≡ t → turn_of c p (at h s img w) ≡ tried k w' t
        unfolding turn_of
        takes t g = rw (turn_of, e, f) (ap (tried k w') g)

        -- all of it
        pub whole_law : (vs : List ℕ) → taken_by (refuses_program c.health k) due ≡ record { bytes = vs; ending = Whole }
            → write_by c p (suc m) (at h s img w) ≡ write_by c p m (at k (p.reach s) (stored c.B (wiped c.B img k) (spot k 0) vs) w')
        unfolding followed tried took
        whole_law vs g =
            turned (took vs (Longer k)) (takes _ g)
            ∙ ap (λ (i : List ℕ). write_by c p m (at k (p.reach s) i w')) (series_tried c.B k vs img)

        -- nothing: erased, it stands as it is
        pub refused_law : taken_by (refuses_program c.health k) due ≡ ends Refused
            → write_by c p (suc m) (at h s img w) ≡ write_by c p m (at h s (wiped c.B img k) w')
        unfolding followed tried took stored
        refused_law g =
            turned (took [] Again) (takes _ g)
            ∙ ap (λ (i : List ℕ). write_by c p m (at h s i w')) (series_tried c.B k [] img)

        pub fault_law : (vs : List ℕ) → taken_by (refuses_program c.health k) due ≡ record { bytes = vs; ending = Fault }
            → write_by c p (suc m) (at h s img w) ≡ write_out Corrupt (stored c.B (wiped c.B img k) (spot k 0) vs) w'
        unfolding followed tried took
        fault_law vs g =
            turned (took vs (Ends Corrupt)) (takes _ g)
            ∙ ap (λ (i : List ℕ). write_out Corrupt i w') (series_tried c.B k vs img)
