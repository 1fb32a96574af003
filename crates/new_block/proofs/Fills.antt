-- Filling one new block, case by case. Assumes nothing.
use mathlib.Core.Path.{◌≡◌, refl, sym, ap, ◌∙◌}
use mathlib.Core.Bool.{Bool, true, false}
use mathlib.Core.List.{List}
use Prim.Native.Nat.{ℕ, ◌+◌, ◌-◌, min, max, ◌≤◌, ◌<◌}
use native.Mathlib.Nat.{min-le_right}
use native.Mathlib.Omega.{arith}
use borrow.Author.Tests.{leb-true, leb-false}
use lib.Dec.{leb, ltb}
use lib.ListN.{length, take, drop, replicate, length-drop, drop_of_length-le}
use lib.Seq.{take_all, take-nil}
use Rattle.std.specs.Prelude.{Ok, Err}
use Rattle.layout.specs.declared.Refusal.{Refusal}
use Rattle.layout.specs.declared.Refusal.TheVariants.{Damaged}
use Rattle.layout.specs.Numbers.{size_max}
use Rattle.health.specs.Health.{refuses_program}
use Rattle.device.specs.Device.{stored}
use Rattle.device.specs.inner.Bounds.{spot, RoomIn, Blank}
use Rattle.device.specs.inner.Steps.{Answer, done, refused, program_of, StepGives}
use Rattle.device.proofs.Blanks.{blank_part}
use Rattle.device.proofs.Steps.{gives_refused, step_on, told_done, told_refused}
use Rattle.files.specs.declared.Entry.{Entry}
use Rattle.grow.specs.declared.Failed.TheVariants as failed
use Rattle.grow.specs.inner.Attempt.{Linking}
use Rattle.grow.proofs.Rooms.{room_of}
use Rattle.old_list.specs.Write.{Job, over, new, Look, job_of}
use Rattle.old_list.specs.inner.Lookups.{look_in}
use Rattle.new_block.specs.inner.Fill.{Filled, lost, front_of, FillOut, share, tail_of, fill_of, FillGives, Tailing, Filling, fronted, tailed}
use Rattle.new_block.proofs.Blanks.{front_blank}

-- ---- a run of the data, cut to what there is

take_min : (n : ℕ) (l : List ℕ) → take n l ≡ take (min n (length l)) l
take_min n l = go (leb n (length l)) refl
  where
    go : (t : Bool) → leb n (length l) ≡ t → take n l ≡ take (min n (length l)) l
    go true e = let m : min n (length l) ≡ n = omega (arith, leb-true n (length l) e) in rw m
    go false e =
        let m : min n (length l) ≡ length l = omega (arith, leb-false n (length l) e) in
        rw (m, take_all n l (omega (arith, leb-false n (length l) e)), take_all (length l) l (omega arith))

pub run_cut : (a n : ℕ) (l : List ℕ) → take n (drop a l) ≡ take (min n (length l - min a (length l))) (drop (min a (length l)) l)
run_cut a n l = go (leb a (length l)) refl
  where
    go : (t : Bool) → leb a (length l) ≡ t → take n (drop a l) ≡ take (min n (length l - min a (length l))) (drop (min a (length l)) l)
    go true e =
        let m : min a (length l) ≡ a = omega (arith, leb-true a (length l) e) in
        rw (m, ← length-drop a l) (take_min n (drop a l))
    go false e =
        let h = leb-false a (length l) e in
        let m : min a (length l) ≡ length l = omega arith in
        rw (m, drop_of_length-le l {i = a} (omega arith), drop_of_length-le l {i = length l} (omega arith))
        (take-nil n ∙ sym (take-nil (min n (length l - length l))))

-- ---- the front

module _ (health : List ℕ) (B k off s n pos : ℕ) (src img : List ℕ) where
  -- the zeros first: x is how far the gap goes
  module _ (x gap : ℕ) (ex : x ≡ pos - s) (eg : gap ≡ min x n) {r : Answer} {img₁ : List ℕ} (p : StepGives (program_of health B k off (replicate gap 0) img) r img₁) where
    pub front_spoiled : r ≡ refused → StepGives (front_of health B k off s n pos src img) refused img₁
    front_spoiled e =
        let t = told_refused (refuses_program health k) img (stored B img (spot k off) (replicate gap 0)) (sym p.answer ∙ e) in
        rw (p.image, t.1) (gives_refused _ _ _ t.0)

    pub front_goes : r ≡ done → (y from run : ℕ) → y ≡ s - pos → from ≡ min y (length src) → run ≡ min (n - gap) (length src - from)
        → {q : Answer} {img₂ : List ℕ} → StepGives (program_of health B k (off + gap) (take run (drop from src)) img₁) q img₂
        → StepGives (front_of health B k off s n pos src img) q img₂
    unfolding fronted
    front_goes e y from run ey ef er {q} {img₂} g =
        let t = told_done (refuses_program health k) img (stored B img (spot k off) (replicate gap 0)) (sym p.answer ∙ e) in
        let d : img₁ ≡ stored B img (spot k off) (replicate gap 0) = p.image ∙ t.1 in
        let u : gap ≡ min (pos - s) n = eg ∙ ap (λ (z : ℕ). min z n) ex in
        let v : take run (drop from src) ≡ take (n - gap) (drop (s - pos) src) = rw (er, ef, ey) (sym (run_cut (s - pos) (n - gap) src)) in
        rw (fronted, ← u, ← v, ← d) (step_on (refuses_program health k) img _ img₁ t.0 g)

-- ---- the whole block

pub filled : {o : FillOut} (r : Filled) (after : List ℕ) → o ≡ record { answer = r; image = after } → FillGives o r after
filled r after e = rw e (record { answer = refl; image = refl })

-- the block's share, as the code has it
pub share_is : (B : ℕ) (j : Job) (off s y m : ℕ) → y ≡ max j.old (over j) → m ≡ min (y - s) (B - off) → m ≡ share B j off s
share_is B j off s y m e f = f ∙ ap (λ (x : ℕ). min (x - s) (B - off)) e

-- the runs stay in the block
pub share_fits : (B : ℕ) (j : Job) (off s m : ℕ) → m ≡ share B j off s → off < B → off + m ≤ B
share_fits B j off s m e l = omega (arith, min-le_right (new j - s) (B - off))

pub gap_fits : (B off m x gap : ℕ) → off + m ≤ B → gap ≡ min x m → off + gap ≤ B
gap_fits B off m x gap h e = omega (arith, min-le_right x m)

-- tail is due below the old size only
tail_below : (a b s r m at : ℕ) → m ≡ min (max a b - s) r → at ≡ b - s → at < m → s + at < a
tail_below a b s r m at e f h = omega arith

share_ends : (a b s r m : ℕ) → m ≡ min (max a b - s) r → s < max a b → s + m ≤ max a b
share_ends a b s r m e l = omega arith

module _ (look : List ℕ → ℕ → Look) (health : List ℕ) (B : ℕ) (j : Job) (k off s : ℕ) (img : List ℕ) where
  pub fill_refused : refuses_program health k ≡ true → fill_of look health B j k off s img ≡ record { answer = Err failed.Spoiled; image = img }
  unfolding fill_of
  fill_refused e = rw (fill_of, e)

  pub fill_goes : refuses_program health k ≡ false
      → fill_of look health B j k off s img
      ≡ tail_of look B k off s (share B j off s) (over j) (fronted B k off s (share B j off s) j.pos j.src img)
  unfolding fill_of
  fill_goes e = rw (fill_of, e)

-- a filling is refused with -84 only
tail_refusal : (look : List ℕ → ℕ → Look) (B k off s m past : ℕ) (img : List ℕ) (q : Refusal)
    → (tail_of look B k off s m past img).answer ≡ Err (failed.Refused q) → Damaged ≡ q
unfolding tail_of
tail_refusal look B k off s m past img q = go (ltb (past - s) m) (look img (s + (past - s)))
  where
    pick : Bool → Look → FillOut
    pick x y =
        elim x [
          | false ↦ record { answer = Ok (s + m); image = img }
          | true ↦ elim y [
            | Look.Lost ↦ record { answer = lost; image = img }
            | Look.Found ob ↦ record { answer = Ok (s + m); image = tailed B k off s m ob past img }
          ]
        ]

    go : (x : Bool) (y : Look) → (pick x y).answer ≡ Err (failed.Refused q) → Damaged ≡ q
    go false y e = let z : ◌≡◌ {A = ℕ} 0 1 = cc in absurd (omega arith)
    go true Look.Lost e = cc
    go true (Look.Found ob) e = let z : ◌≡◌ {A = ℕ} 0 1 = cc in absurd (omega arith)

pub fill_refusal : (look : List ℕ → ℕ → Look) (health : List ℕ) (B : ℕ) (j : Job) (k off s : ℕ) (img : List ℕ) (q : Refusal)
    → (fill_of look health B j k off s img).answer ≡ Err (failed.Refused q) → Damaged ≡ q
fill_refusal look health B j k off s img q a = go (refuses_program health k) refl
  where
    go : (x : Bool) → refuses_program health k ≡ x → Damaged ≡ q
    go true e =
        let n : Err failed.Spoiled ≡ Err (failed.Refused q) = sym (ap (λ (o : FillOut). o.answer) (fill_refused look health B j k off s img e)) ∙ a in
        let z : ◌≡◌ {A = ℕ} 0 1 = cc in
        absurd (omega arith)
    go false e =
        tail_refusal look B k off s (share B j off s) (over j) _ q (sym (ap (λ (o : FillOut). o.answer) (fill_goes look health B j k off s img e)) ∙ a)

-- the same by the code's numbers: m is the block's share
module _ {B N : ℕ} {e : Entry} {pos : ℕ} {src : List ℕ} {k off s : ℕ} {image health : List ℕ} (f : Filling B N e pos src k off s image health)
    {y m : ℕ} (ey : y ≡ max e.size (pos + length src)) (em : m ≡ min (y - s) (B - off)) where
  shared : m ≡ share B (job_of e pos src) off s
  shared = share_is B (job_of e pos src) off s y m ey em

  fits : off + m ≤ B
  fits = share_fits B (job_of e pos src) off s m shared f.room

  pub front_asks : RoomIn B k off m image health × (length src ≤ size_max) × Blank B k off m image
  front_asks =
      let link : Linking B N k image health = record { card = f.card; known = f.known; block = f.block } in
      (room_of off m image link refl fits, omega (arith, f.fits), blank_part off m (omega arith) (omega (arith, fits)) f.clean)

  module _ {r : Answer} {img₁ : List ℕ} (p : StepGives (front_of health B k off s m pos src image) r img₁) where
    pub fill_spoiled : r ≡ refused → FillGives (fill_of (look_in B N e) health B (job_of e pos src) k off s image) (Err failed.Spoiled) img₁
    fill_spoiled x =
        let t = told_refused (refuses_program health k) image (fronted B k off s m pos src image) (sym p.answer ∙ x) in
        filled (Err failed.Spoiled) img₁ (rw (p.image, t.1) (fill_refused (look_in B N e) health B (job_of e pos src) k off s image t.0))

    module _ (x : r ≡ done) where
      stores : (refuses_program health k ≡ false) × ((front_of health B k off s m pos src image).image ≡ fronted B k off s m pos src image)
      stores = told_done (refuses_program health k) image (fronted B k off s m pos src image) (sym p.answer ∙ x)

      pub tail_asked : length img₁ ≡ length image → Tailing B N e k off s m (pos + length src) img₁ health
      tail_asked same =
          record {
            card = rw same f.card;
            known = f.known;
            most = f.most;
            block = f.block;
            takes = stores.0;
            fits = fits;
            whole = omega (arith, share_ends e.size (pos + length src) s (B - off) m shared f.left, f.most, f.fits);
            below = λ l. tail_below e.size (pos + length src) s (B - off) m (pos + length src - s) shared refl l;
            clean = λ l. rw (p.image, stores.1) (front_blank s pos src front_asks.2 l);
          }

      pub fill_on : {q : Filled} {after : List ℕ} → FillGives (tail_of (look_in B N e) B k off s m (pos + length src) img₁) q after
          → FillGives (fill_of (look_in B N e) health B (job_of e pos src) k off s image) q after
      fill_on g =
          rw (fill_goes (look_in B N e) health B (job_of e pos src) k off s image stores.0, ← shared, ← stores.1, ← p.image) g
