-- What read and stretch of one list answer, case by case. Assumes nothing.
use mathlib.Core.Path.{◌≡◌, refl, sym, ap, ◌∙◌, subst}
use mathlib.Core.Bool.{Bool, true, false}
use mathlib.Core.List.{List, []}
use Prim.Native.Nat.{ℕ, ◌+◌, ◌-◌, ◌*◌, ◌≤◌, ◌<◌, min}
use native.Mathlib.Nat.{min-le_left, min-le_right}
use native.Mathlib.Omega.{arith}
use borrow.Author.Tests.{lt-ltb, ltb-true, ltb-false}
use lib.Dec.{ltb}
use lib.ListN.{length}
use lib.Seq.{sets}
use Rattle.std.specs.Prelude.{Result, Ok, Err}
use Rattle.layout.specs.declared.Refusal.{Refusal}
use Rattle.layout.specs.declared.Refusal.TheVariants.{Damaged}
use Rattle.layout.specs.Numbers.{size_max}
use Rattle.layout.specs.inner.Served.{block_list}
use Rattle.card.specs.inner.Cards.{card_with}
use Rattle.ctz.specs.declared.Found.{Found}
use Rattle.ctz.specs.Lookup.{found_at, walk_to}
use Rattle.ctz.specs.inner.Bounds.{ListFacts}
use Rattle.plain.specs.Reading.{part_of, stretch_in, gather, read_in, Gathered}
use Rattle.plain.specs.inner.Forms.{range}
use Rattle.plain.proofs.Reading.{stretch_past}
use Rattle.finding.specs.inner.Runs.{clean, got_bytes}
use Rattle.finding.proofs.Parts.{never_both}
use Rattle.finding.proofs.Gathers.{OnCard, all_none, Gave, copied, damaged, gave, offset_below, only_damaged, step}
use Rattle.copies.specs.inner.Copies.{Roomy, Copied, copied_of}
use Rattle.reading.specs.Calls.{given, placed_of, placed_place, placed_length}

-- a position below the size has a run of bytes to the end behind it
pub ranged : {B N size len : ℕ} (p n : ℕ) → ListFacts B N size len → p + n ≤ size → OnCard B N size p n len
ranged p n l h = record { card = l.card; most = l.most; inside = h }

-- ---- read

-- as many bytes as there are and the buffer has room for
pub roomy : {size p n room : ℕ} → size ≤ size_max → n ≡ min room (size - p) → (n ≡ 0 → ⊥) → Roomy size p n room
roomy {size = size} {p} {n} {room = room} l q z =
    let left = min-le_left room (size - p) in
    let right = min-le_right room (size - p) in
    let some : 0 < n = omega arith in
    record { run = record { most = l; inside = omega arith }; some = some; fits = omega arith }

gives_copied : (n : ℕ) {g : Gathered} (buffer after : List ℕ) → Gave n g → clean g ≡ Ok tt → after ≡ sets buffer 0 (got_bytes g)
    → record { answer = Ok n; buffer = after } ≡ given buffer g
gives_copied n buffer after (copied bs e) c a = rw (a, sym e) refl
gives_copied n buffer after damaged c a = let z : ◌≡◌ {A = ℕ} 0 1 = cc in absurd (omega arith)

gives_damaged : (n : ℕ) {g : Gathered} {d : Refusal} (buffer after : List ℕ) → Gave n g → clean g ≡ Err d → after ≡ sets buffer 0 (got_bytes g)
    → record { answer = Err d; buffer = after } ≡ given buffer g
gives_damaged n buffer after (copied bs e) c a = absurd (never_both refl c)
gives_damaged n {d = d} buffer after damaged c a = let same : d ≡ Damaged = cc in rw (a, same) refl

module _ (image : List ℕ) (B N head size p : ℕ) (buffer : List ℕ) where
  pub read_none : (n : ℕ) → n ≡ min (length buffer) (size - p) → n ≡ 0
      → record { answer = Ok 0; buffer = buffer } ≡ given buffer (read_in (card_with B N image) (block_list head size) (range p (length buffer)))
  unfolding read_in
  read_none n q z = sym (ap (given buffer) (all_none image B N head size p (min (length buffer) (size - p)) (omega arith)))

  module _ (n : ℕ) (q : n ≡ min (length buffer) (size - p)) (r : OnCard B N size p n (length image)) where
    read_is : read_in (card_with B N image) (block_list head size) (range p (length buffer)) ≡ gather n (card_with B N image) (block_list head size) (range p n)
    unfolding read_in
    read_is = rw (read_in, sym q) refl

    module _ (whole : Result (Unit {0}) Refusal) (after : List ℕ) (ran : record { whole = whole; after = after } ≡ copied_of buffer (gather n (card_with B N image) (block_list head size) (range p n))) where
      told : whole ≡ clean (gather n (card_with B N image) (block_list head size) (range p n))
      unfolding copied_of
      told = ap (λ (o : Copied). o.whole) ran

      left : after ≡ sets buffer 0 (got_bytes (gather n (card_with B N image) (block_list head size) (range p n)))
      unfolding copied_of
      left = ap (λ (o : Copied). o.after) ran

      pub read_damaged : {d : Refusal} → whole ≡ Err d → record { answer = Err d; buffer = after } ≡ given buffer (read_in (card_with B N image) (block_list head size) (range p (length buffer)))
      read_damaged w = gives_damaged n buffer after (gave image head p n r) (sym told ∙ w) left ∙ sym (ap (given buffer) read_is)

      pub read_copied : whole ≡ Ok tt → record { answer = Ok n; buffer = after } ≡ given buffer (read_in (card_with B N image) (block_list head size) (range p (length buffer)))
      read_copied w = gives_copied n buffer after (gave image head p n r) (sym told ∙ w) left ∙ sym (ap (given buffer) read_is)

-- a read behind the tests gives -84, or exactly min(room, size - position) bytes
pub read_in_gave : (image : List ℕ) (head : ℕ) {B N size : ℕ} (p room : ℕ) → ListFacts B N size (length image)
    → Gave (min room (size - p)) (read_in (card_with B N image) (block_list head size) (range p room))
unfolding read_in
read_in_gave image head {B} {N} {size} p room l = go (ltb p size) refl
  where
    go : (t : Bool) → ltb p size ≡ t → Gave (min room (size - p)) (gather (min room (size - p)) (card_with B N image) (block_list head size) (range p (min room (size - p))))
    go true t =
        let r = min-le_right room (size - p) in
        gave image head p (min room (size - p)) (ranged p (min room (size - p)) l (omega (arith, ltb-true p size t)))
    go false t =
        let r = min-le_right room (size - p) in
        let z : min room (size - p) ≤ 0 = omega (arith, ltb-false p size t) in
        subst (Gave (min room (size - p))) (sym (all_none image B N head size p (min room (size - p)) z)) (copied [] (omega arith))

-- ---- stretch

pub place_past : (image : List ℕ) (B N head size p : ℕ) → size ≤ p → Ok (record { place = 0; length = 0 }) ≡ placed_of (stretch_in (card_with B N image) (block_list head size) p)
place_past image B N head size p h = sym (ap placed_of (stretch_past image B N head size p h))

pub place_found : (image : List ℕ) (B N head size p : ℕ) (w : Result Found Refusal) → p < size → walk_to (card_with B N image) (block_list head size) p ≡ w
    → placed_of (part_of B (size - p) w) ≡ placed_of (stretch_in (card_with B N image) (block_list head size) p)
unfolding stretch_in
place_found image B N head size p w h e = rw (stretch_in, lt-ltb p size h, e) refl

pub place_part : (image : List ℕ) (B N head size p : ℕ) {k off hops : ℕ} (m : ℕ) → p < size → walk_to (card_with B N image) (block_list head size) p ≡ found_at k off hops
    → m ≡ min (B - off) (size - p) → Ok (record { place = k * B + off; length = m }) ≡ placed_of (stretch_in (card_with B N image) (block_list head size) p)
place_part image B N head size p {k} {off} {hops} m h e q =
    ap (λ (x : ℕ). Ok (record { place = k * B + off; length = x })) q ∙ place_found image B N head size p (found_at k off hops) h e

pub place_lost : (image : List ℕ) (head : ℕ) {B N size : ℕ} (p : ℕ) {d : Refusal} → ListFacts B N size (length image) → p < size
    → walk_to (card_with B N image) (block_list head size) p ≡ Err d → Err d ≡ placed_of (stretch_in (card_with B N image) (block_list head size) p)
place_lost image head {B} {N} {size} p {d} l h e =
    let f = only_damaged image head (ranged p (size - p) l (omega arith)) (omega arith) e in
    let same : d ≡ Damaged = cc in
    rw same (place_found image B N head size p (Err Damaged) h f)

-- the place of a position that is found lies in the image
pub record Lies (B size p k off : ℕ) : Type 0 where
  pub offset : off < B
  pub block : k * B + B ≤ 16777216

pub lies : (image : List ℕ) (head : ℕ) {B N size : ℕ} (p : ℕ) {k off hops : ℕ} → ListFacts B N size (length image) → p < size
    → walk_to (card_with B N image) (block_list head size) p ≡ found_at k off hops → Lies B size p k off
lies image head {B} {N} {size} p {k} {off} l h e =
    let r = ranged p (size - p) l (omega arith) in
    let some : 0 < size - p = omega arith in
    let s = step image head r some (min (B - off) (size - p)) e refl in
    record {
      offset = offset_below image head r some e;
      block = omega (arith, s.inside, l.card.whole, l.card.long);
    }

-- a stretch lies in the image
pub stretch_inside : (image : List ℕ) (head : ℕ) {B N size : ℕ} (p : ℕ) → ListFacts B N size (length image)
    → placed_place (placed_of (stretch_in (card_with B N image) (block_list head size) p)) + placed_length (placed_of (stretch_in (card_with B N image) (block_list head size) p)) ≤ length image
stretch_inside image head {B} {N} {size} p l = go (ltb p size) refl (walk_to (card_with B N image) (block_list head size) p) refl
  where
    go : (t : Bool) → ltb p size ≡ t → (w : Result Found Refusal) → walk_to (card_with B N image) (block_list head size) p ≡ w
        → placed_place (placed_of (stretch_in (card_with B N image) (block_list head size) p)) + placed_length (placed_of (stretch_in (card_with B N image) (block_list head size) p)) ≤ length image
    go false t w e = rw (sym (place_past image B N head size p (ltb-false p size t))) (omega arith)
    go true t (Ok found) e =
        let h = ltb-true p size t in
        let s = step image head (ranged p (size - p) l (omega arith)) (omega arith) (min (B - found.offset) (size - p)) e refl in
        rw (sym (place_found image B N head size p (Ok found) h e)) (omega (arith, s.in_block, s.inside))
    go true t (Err d) e = rw (sym (place_lost image head p l (ltb-true p size t) e)) (omega arith)
