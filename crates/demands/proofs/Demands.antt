-- Demands 1 and 2, of one store call. Assumes nothing.
use mathlib.Core.Path.{◌≡◌, sym, ap, ◌∙◌, subst}
use mathlib.Core.Logic.{inl, inr}
use mathlib.Core.List.{List}
use Prim.Native.Nat.{ℕ}
use native.Mathlib.Omega.{arith}
use lib.IntN.{ℤ, pos, negsuc}
use Rattle.layout.specs.Numbers.{accepted, no_space, damaged_card}
use Rattle.layout.specs.inner.Served.{block_list}
use Rattle.plain.specs.Bytes.{bytes}
use Rattle.files.specs.declared.Table.{Table}
use Rattle.files.specs.Table.{held}
use Rattle.grow.specs.Setting.{Setting, State}
use Rattle.demands.specs.Calls.{Call, Left, after, Shape, under}
use Rattle.demands.specs.Came.{Sounds, Came, called}
use Rattle.demands.specs.Plain.{plain_code}
use Rattle.demands.specs.Runs.{files_in, fitting}
use Rattle.demands.specs.Demands.{AcceptedCall, RefusedCall}
use Rattle.demands.proofs.Contents.{Plainly, Read, same_files}
use Rattle.demands.proofs.Ends.{Ends, accepted as accepted-as, refused, short}
use Rattle.demands.proofs.Came.{step, came_held}
use Rattle.demands.proofs.AnyEnd.{AnyEnd, done, unchanged, stopped, any_end}

-- 0 is no refusal number
no_refusal : {k : ℕ} {z : ℤ} → z ≡ pos 0 → z ≡ negsuc k → ⊥
no_refusal p q = let z : ◌≡◌ {A = ℕ} 0 1 = cc in omega arith

-- DEMAND 1, first half. Any image, table, window and call: a refused one hands the table back as it came,
pub refused_table : (g : Setting) (c : Call) (s : State) → ((after g c s).code ≡ accepted → ⊥) → (after g c s).state.table ≡ s.table
refused_table g c s n = go (any_end g c s)
  where
    go : AnyEnd s (after g c s) → (after g c s).state.table ≡ s.table
    go (done q) = absurd (n q)
    go (unchanged k q e) = ap (λ (x : State). x.table) e
    go (stopped k w q e) = e

-- and all else too, but after -28 and -84.
pub refused_all : (g : Setting) (c : Call) (s : State) → ((after g c s).code ≡ accepted → ⊥) → ((after g c s).code ≡ no_space → ⊥)
    → ((after g c s).code ≡ damaged_card → ⊥) → (after g c s).state ≡ s
refused_all g c s n full damaged = go (any_end g c s)
  where
    go : AnyEnd s (after g c s) → (after g c s).state ≡ s
    go (done q) = absurd (n q)
    go (unchanged _ q e) = e
    go (stopped j (inl w) q e) = absurd (full (q ∙ ap negsuc w))
    go (stopped j (inr w) q e) = absurd (damaged (q ∙ ap negsuc w))

module _ {g : Shape} {s : State} (came : Came g s) (sounds : Sounds g s) (health : List ℕ) (c : Call) where
  abbrev o : Left
  o = after (under g health) c s

  abbrev End : Type 0
  End = Ends g.B g.N g.L (fitting (under g health)) c s o

  -- DEMAND 1, second half. On sound lists, with a window that came from store calls on them, every file reads as before.
  pub refused_reads : ((after (under g health) c s).code ≡ accepted → ⊥) → RefusedCall g s (after (under g health) c s)
  refused_reads n = go (step (came_held came sounds) health c)
    where
      left_over : o.state.table ≡ s.table → Read g.B s.image o.state.image (held s.table) → Sounds g o.state → RefusedCall g s o
      left_over e r h = record {
        table = e;
        files = ap (λ (t : Table). Plainly g.B o.state.image (held t)) e ∙ same_files g.B s.image o.state.image (held s.table) r;
        reads = r;
        sounds = h;
        came = called health c came sounds;
      }

      go : End → RefusedCall g s o
      go (accepted-as q _ _ _ _) = absurd (n q)
      go (refused k _ _ _ e) =
          left_over (ap (λ (x : State). x.table) e) (λ x a. ap (λ (y : State). bytes g.B y.image (block_list x.head x.size)) e) (subst (Sounds g) (sym e) sounds)
      go (short _ _ _ e r h) = left_over e r h.sounds

  -- and no call is -84.
  pub never_damaged : (after (under g health) c s).code ≡ damaged_card → ⊥
  never_damaged d = go (step (came_held came sounds) health c)
    where
      go : End → ⊥
      go (accepted-as q _ _ _ _) = no_refusal q d
      go (refused k low q _ _) = let z : k ≡ 83 = cc in omega arith
      go (short q _ _ _ _ _) = let z : ◌≡◌ {A = ℕ} 27 83 = cc in omega arith

  -- DEMAND 2. An accepted call gives the plain files that 01 says, changes no other file, and leaves sound lists and a window that came from store calls.
  pub accepted_plain : (after (under g health) c s).code ≡ accepted → AcceptedCall g c s (after (under g health) c s)
  accepted_plain d = go (step (came_held came sounds) health c)
    where
      go : End → AcceptedCall g c s o
      go (accepted-as q _ f others h) = record { files = f; others = others; sounds = h.sounds; came = called health c came sounds }
      go (refused k _ q _ _) = absurd (no_refusal d q)
      go (short q _ _ _ _ _) = absurd (no_refusal d q)

  -- It is one that the plain files accept.
  pub accepted_code : (after (under g health) c s).code ≡ accepted → plain_code (fitting (under g health)) c (files_in g.B s) ≡ accepted
  accepted_code d = go (step (came_held came sounds) health c)
    where
      go : End → plain_code (fitting (under g health)) c (files_in g.B s) ≡ accepted
      go (accepted-as _ p _ _ _) = p
      go (refused k _ q _ _) = absurd (no_refusal d q)
      go (short q _ _ _ _ _) = absurd (no_refusal d q)
