-- The tail of a filled block, case by case: it is not due, its old block is lost, or it is copied. Assumes nothing.
use mathlib.Core.Path.{◌≡◌, refl, sym, ap, ◌∙◌}
use mathlib.Core.List.{List}
use Prim.Native.Nat.{ℕ, ◌+◌, ◌-◌, ◌*◌, ◌≤◌, ◌<◌}
use native.Mathlib.Omega.{arith}
use borrow.Author.Tests.{lt-ltb, le-ltb}
use lib.ListN.{length, take, drop}
use Rattle.std.specs.Prelude.{Result, Ok, Err}
use Rattle.layout.specs.declared.Refusal.{Refusal}
use Rattle.device.specs.inner.Steps.{Answer, program_of, StepGives}
use Rattle.device.specs.inner.Bounds.{RoomIn, CopyFrom, Blank}
use Rattle.device.proofs.Steps.{step_takes}
use Rattle.ctz.specs.inner.Bounds.{ListFacts}
use Rattle.files.specs.declared.Entry.{Entry}
use Rattle.grow.specs.declared.Failed.TheVariants as failed
use Rattle.grow.specs.inner.Attempt.{Linking}
use Rattle.grow.specs.inner.Grow.{part}
use Rattle.grow.proofs.Rooms.{room_of, source_of}
use Rattle.old_list.specs.Write.{Look}
use Rattle.old_list.specs.inner.Lookups.{looked_of, look_in}
use Rattle.old_list.proofs.Looks.{told_block, told_lost, look_below}
use Rattle.new_block.specs.inner.Fill.{lost, tail_of, FillGives, Tailing, tailed}
use Rattle.new_block.proofs.Fills.{filled}

-- `at` is how far the front goes, `r` what the lookup behind it answers
module _ {B N : ℕ} {e : Entry} {k off s m past : ℕ} {image health : List ℕ} (f : Tailing B N e k off s m past image health) (at : ℕ) (ea : at ≡ past - s) where
  pub tail_none : m ≤ at → FillGives (tail_of (look_in B N e) B k off s m past image) (Ok (s + m)) image
  unfolding tail_of
  tail_none l = filled (Ok (s + m)) image (rw (tail_of, ← ea, le-ltb at m l))

  module _ (l : at < m) where
    -- its block is looked for in the old file
    pub tail_looks : ListFacts B N e.size (length image) × (s + at < e.size)
    tail_looks = (record { card = f.card; most = f.most }, omega (arith, f.below (omega arith)))

    module _ {r : Result ℕ Refusal} (er : r ≡ looked_of (look_in B N e image (s + at))) where
      pub tail_lost : (x : Refusal) → r ≡ Err x → FillGives (tail_of (look_in B N e) B k off s m past image) (Err (failed.Refused x)) image
      unfolding tail_of
      tail_lost y x =
          let gone = told_lost (look_in B N e image (s + at)) y (sym er ∙ x) in
          rw (← gone.1) (filled lost image (rw (tail_of, ← ea, lt-ltb at m l, ← ea, gone.0)))

      module _ {ob : ℕ} (x : r ≡ Ok ob) where
        found : look_in B N e image (s + at) ≡ Look.Found ob
        found = told_block (look_in B N e image (s + at)) ob (sym er ∙ x)

        -- both runs lie in their blocks, and the new one is erased
        pub tail_asks : RoomIn B k (off + at) (m - at) image health × CopyFrom B k (off + at) ob (off + at) (m - at) image × Blank B k (off + at) (m - at) image
        tail_asks =
            let link : Linking B N k image health = record { card = f.card; known = f.known; block = f.block } in
            let room : off + at + (m - at) ≤ B = omega (arith, f.fits) in
            let below : ob < N = look_below e image (s + at) ob tail_looks.0 tail_looks.1 found in
            (room_of (off + at) (m - at) image link refl room, source_of ob (off + at) (m - at) link below room, rw ea (f.clean (omega arith)))

        pub tail_copied : {q : Answer} {after : List ℕ}
            → StepGives (program_of health B k (off + at) (take (m - at) (drop (ob * B + (off + at)) image)) image) q after
            → FillGives (tail_of (look_in B N e) B k off s m past image) (Ok (s + m)) after
        unfolding tail_of tailed part
        tail_copied {q} {after} g =
            let copied = (step_takes _ _ _ f.takes g).1 in
            filled (Ok (s + m)) after (rw (tail_of, ← ea, lt-ltb at m l, ← ea, found)
            (ap (λ (i : List ℕ). record { answer = Ok (s + m); image = i }) (sym (copied ∙ rw (tailed, part, ← ea)))))
