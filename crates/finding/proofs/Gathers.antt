-- The bytes of a run of positions, block by block: how each turn of the passes goes. Assumes nothing.
use mathlib.Core.Path.{◌≡◌, refl, sym, ap, ◌∙◌, subst}
use mathlib.Core.Bool.{Bool, true, false}
use mathlib.Core.List.{List, [], ◌++◌}
use Prim.Native.Nat.{ℕ, zero, suc, ◌+◌, ◌-◌, ◌*◌, ◌≤◌, ◌<◌, min}
use native.Mathlib.Nat.{zero-add, min-le_left, min-le_right, le-min}
use native.Mathlib.Omega.{arith}
use borrow.Author.Tests.{lt-ltb, le-ltb, ltb-true, ltb-false}
use lib.Dec.{ltb}
use lib.ListN.{length, take, drop, length-append}
use lib.Seq.{sets, length-sets}
use Rattle.span.proofs.Runs.{sets_append}
use Rattle.std.specs.Prelude.{Result, Ok, Err}
use Rattle.layout.specs.declared.Refusal.{Refusal}
use Rattle.layout.specs.declared.Refusal.TheVariants as refusal
use Rattle.layout.specs.inner.Served.{block_list}
use Rattle.layout.specs.Numbers.{size_max}
use Rattle.card.specs.inner.Cards.{CardFacts, card_with}
use Rattle.card.proofs.Cards.{block_inside}
use Rattle.ctz.specs.declared.Found.{Found}
use Rattle.ctz.specs.Lookup.{found_at, walk_to}
use Rattle.ctz.specs.inner.Bounds.{LookupAsked}
use Rattle.ctz.proofs.Lookups.{found_tells, found_answers}
use Rattle.plain.specs.Reading.{Bytes, before, gather, Gathered}
use Rattle.plain.specs.inner.Forms.{range}
use Rattle.finding.specs.inner.Bounds.{Ranged}
use Rattle.finding.specs.inner.Runs.{clean, got_bytes}
use Rattle.finding.proofs.Parts.{clean_before, bytes_before, length_part}

-- a run of positions of a list that lies on a card
pub record OnCard (B N size p n len : ℕ) : Type 0 where
  pub card : CardFacts B N len
  pub most : size ≤ size_max
  pub inside : p + n ≤ size

pub on_card : {B N size p n len : ℕ} → CardFacts B N len → Ranged size p n → OnCard B N size p n len
on_card c r = record { card = c; most = r.most; inside = r.inside }

-- what a block that was found gives: at least one byte, the part lies in the block, the block in the image, and the rest is a run too
pub record Step (B N size p n len k off m : ℕ) : Type 0 where
  pub some : 1 ≤ m
  pub most_left : m ≤ n
  pub in_block : off + m ≤ B
  pub inside : k * B + B ≤ len
  pub rest : OnCard B N size (p + m) (n - m) len

module _ (image : List ℕ) (head : ℕ) {B N size p n : ℕ} (r : OnCard B N size p n (length image)) (some : 0 < n) where
  pub sought : LookupAsked size p
  sought = record { most = r.most; below = omega (arith, r.inside) }

  pub offset_below : {k off h : ℕ} → walk_to (card_with B N image) (block_list head size) p ≡ found_at k off h → off < B
  offset_below e = (found_tells image head r.card sought e).inside

  pub only_damaged : {d : Refusal} → walk_to (card_with B N image) (block_list head size) p ≡ Err d → walk_to (card_with B N image) (block_list head size) p ≡ Err refusal.Damaged
  only_damaged e = e ∙ ap Err (found_answers image head r.card sought e)

  pub step : {k off h : ℕ} (m : ℕ) → walk_to (card_with B N image) (block_list head size) p ≡ found_at k off h → m ≡ min (B - off) n → Step B N size p n (length image) k off m
  step {k} {off} m e q =
      let t = found_tells image head r.card sought e in
      let a = min-le_left (B - off) n in
      let b = min-le_right (B - off) n in
      let o : 1 ≤ min (B - off) n = le-min (omega (arith, t.inside)) (omega arith) in
      record {
        some = omega arith;
        most_left = omega arith;
        in_block = omega (arith, t.inside);
        inside = block_inside {k = k} r.card t.below;
        rest = record { card = r.card; most = r.most; inside = omega (arith, r.inside) };
      }

module _ (image : List ℕ) (head : ℕ) {B N size : ℕ} where
  -- more fuel than bytes changes nothing
  gather_fuel : (f g p n : ℕ) → n ≤ f → n ≤ g → OnCard B N size p n (length image) → gather f (card_with B N image) (block_list head size) (range p n) ≡ gather g (card_with B N image) (block_list head size) (range p n)
  unfolding gather
  gather_fuel zero zero p n hf hg r = refl
  gather_fuel zero (suc g) p n hf hg r = rw (gather, le-ltb 0 n hf)
  gather_fuel (suc f) zero p n hf hg r = rw (gather, le-ltb 0 n hg)
  gather_fuel (suc f) (suc g) p n hf hg r = go (ltb 0 n) refl (walk_to (card_with B N image) (block_list head size) p) refl (gather_fuel f g)
    where
      go : (t : Bool) → ltb 0 n ≡ t → (w : Result Found Refusal) → walk_to (card_with B N image) (block_list head size) p ≡ w
          → ((p n : ℕ) → n ≤ f → n ≤ g → OnCard B N size p n (length image) → gather f (card_with B N image) (block_list head size) (range p n) ≡ gather g (card_with B N image) (block_list head size) (range p n))
          → gather (suc f) (card_with B N image) (block_list head size) (range p n) ≡ gather (suc g) (card_with B N image) (block_list head size) (range p n)
      go false e w q ih = rw (gather, e)
      go true e (Ok found) q ih =
          let m = min (B - found.offset) n in
          let s = step image head r (ltb-true 0 n e) m q refl in
          let less : n - m ≤ f = omega (arith, s.some, s.most_left) in
          let less' : n - m ≤ g = omega (arith, s.some, s.most_left) in
          rw (gather, e, q) (ap (before (take m (drop (found.block * B + found.offset) image))) (ih (p + m) (n - m) less less' s.rest))
      go true e (Err d) q ih = rw (gather, e, only_damaged image head r (ltb-true 0 n e) q)

-- n bytes from position p on
abbrev all : List ℕ → ℕ → ℕ → ℕ → ℕ → ℕ → ℕ → Gathered
all image B N head size p n = gather n (card_with B N image) (block_list head size) (range p n)

-- ---- how a run of n bytes goes

pub all_none : (image : List ℕ) (B N head size p n : ℕ) → n ≤ 0 → all image B N head size p n ≡ Bytes []
unfolding gather
all_none image B N head size p zero h = refl
all_none image B N head size p (suc n) h = absurd (omega arith)

pub all_damaged : (image : List ℕ) (B N head size p n : ℕ) → 0 < n → walk_to (card_with B N image) (block_list head size) p ≡ Err refusal.Damaged → all image B N head size p n ≡ Gathered.Damaged
unfolding gather
all_damaged image B N head size p zero h e = absurd (omega arith)
all_damaged image B N head size p (suc n) h e = rw (gather, lt-ltb 0 (suc n) h, e)

pub all_lost : (image : List ℕ) (head : ℕ) {B N size p n : ℕ} → OnCard B N size p n (length image) → 0 < n → {d : Refusal}
    → walk_to (card_with B N image) (block_list head size) p ≡ Err d → clean (all image B N head size p n) ≡ Err d
all_lost image head {B} {N} {size} {p} {n} r some e =
    ap clean (all_damaged image B N head size p n some (only_damaged image head r some e))
    ∙ sym (ap Err (found_answers image head r.card (sought image head r some) e))

all_turn : (image : List ℕ) (head : ℕ) {B N size : ℕ} (p n : ℕ) → OnCard B N size p n (length image) → 0 < n → {k off h : ℕ} (m : ℕ)
    → walk_to (card_with B N image) (block_list head size) p ≡ found_at k off h → m ≡ min (B - off) n
    → all image B N head size p n ≡ before (take m (drop (k * B + off) image)) (all image B N head size (p + m) (n - m))
unfolding gather
all_turn image head p zero r some m e q = absurd (omega arith)
all_turn image head {B} {N} {size} p (suc n) r some {k} {off} m e q =
    let s = step image head r some m e q in
    rw (gather, lt-ltb 0 (suc n) some, e, sym q)
    (ap (before (take m (drop (k * B + off) image)))
    (gather_fuel image head n (suc n - m) (p + m) (suc n - m) (omega (arith, s.some, s.most_left)) (omega arith) s.rest))

-- ---- the passes, turn by turn

module _ (image : List ℕ) (head : ℕ) {B N size p n : ℕ} (r : OnCard B N size p n (length image)) (some : 0 < n)
    {k off h : ℕ} (m : ℕ) (e : walk_to (card_with B N image) (block_list head size) p ≡ found_at k off h) (q : m ≡ min (B - off) n) where
  abbrev now : Gathered
  now = all image B N head size p n

  abbrev later : Gathered
  later = all image B N head size (p + m) (n - m)

  abbrev part : List ℕ
  part = take m (drop (k * B + off) image)

  pub clean_turn : clean now ≡ clean later
  clean_turn = ap clean (all_turn image head p n r some m e q) ∙ clean_before part later

  pub part_length : length part ≡ m
  part_length = let s = step image head r some m e q in length_part image (k * B + off) m (omega (arith, s.in_block, s.inside))

  pub bytes_turn : clean now ≡ Ok tt → got_bytes now ≡ part ++ got_bytes later
  bytes_turn c = ap got_bytes (all_turn image head p n r some m e q) ∙ bytes_before part later (sym clean_turn ∙ c)

  pub copy_keeps : (buffer after : List ℕ) (to : ℕ) → after ≡ sets buffer to part → length after ≡ length buffer
  copy_keeps buffer after to a = ap (λ (bs : List ℕ). length bs) a ∙ length-sets buffer to part

  pub copy_turn : (buffer after : List ℕ) (to : ℕ) → clean now ≡ Ok tt → after ≡ sets buffer to part
      → sets buffer to (got_bytes now) ≡ sets after (to + m) (got_bytes later)
  copy_turn buffer after to c a =
      ap (sets buffer to) (bytes_turn c) ∙ sets_append buffer to part (got_bytes later)
      ∙ ap (λ (x : ℕ). sets (sets buffer to part) (to + x) (got_bytes later)) part_length
      ∙ ap (λ (bs : List ℕ). sets bs (to + m) (got_bytes later)) (sym a)

  -- the first block of a run, then the rest
  pub copy_first : (buffer after end : List ℕ) → clean now ≡ Ok tt → after ≡ sets buffer 0 part → end ≡ sets after m (got_bytes later)
      → end ≡ sets buffer 0 (got_bytes now)
  copy_first buffer after end c a f =
      f ∙ ap (λ (x : ℕ). sets after x (got_bytes later)) (sym (zero-add m)) ∙ sym (copy_turn buffer after 0 c a)

  -- a run that ends in its first block
  pub copy_only : (buffer after : List ℕ) → n - m ≤ 0 → after ≡ sets buffer 0 part → (clean now ≡ Ok tt) × (after ≡ sets buffer 0 (got_bytes now))
  copy_only buffer after l a =
      let none = all_none image B N head size (p + m) (n - m) l in
      let c = clean_turn ∙ ap clean none in
      (c, copy_first buffer after after c a (sym (ap (λ (g : Gathered). sets after m (got_bytes g)) none)))

-- ---- what a run gives: exactly as many bytes as were asked for, or -84

pub data Gave (n : ℕ) : Gathered → Type 0 where
  copied : (bs : List ℕ) → length bs ≡ n → Gave n (Bytes bs)
  damaged : Gave n Gathered.Damaged

gave_before : (part : List ℕ) (m n l : ℕ) {g : Gathered} → length part ≡ m → m + n ≡ l → Gave n g → Gave l (before part g)
gave_before part m n l e w (copied bs q) = copied (part ++ bs) (length-append part bs ∙ omega arith)
gave_before part m n l e w damaged = damaged

module _ (image : List ℕ) (head : ℕ) {B N size : ℕ} where
  gave_many : (f p n : ℕ) → n ≤ f → OnCard B N size p n (length image) → Gave n (all image B N head size p n)
  gave_many zero p n hf r = subst (Gave n) (sym (all_none image B N head size p n hf)) (copied [] (omega arith))
  gave_many (suc f) p n hf r = go (ltb 0 n) refl (walk_to (card_with B N image) (block_list head size) p) refl (gave_many f)
    where
      go : (t : Bool) → ltb 0 n ≡ t → (w : Result Found Refusal) → walk_to (card_with B N image) (block_list head size) p ≡ w
          → ((p n : ℕ) → n ≤ f → OnCard B N size p n (length image) → Gave n (all image B N head size p n)) → Gave n (all image B N head size p n)
      go false t w q ih =
          let z = ltb-false 0 n t in subst (Gave n) (sym (all_none image B N head size p n z)) (copied [] (omega arith))
      go true t (Ok found) q ih =
          let m = min (B - found.offset) n in
          let some = ltb-true 0 n t in
          let s = step image head r some m q refl in
          let less : n - m ≤ f = omega (arith, s.some, s.most_left) in
          let whole : m + (n - m) ≡ n = omega (arith, s.most_left) in
          subst (Gave n) (sym (all_turn image head p n r some m q refl))
          (gave_before (take m (drop (found.block * B + found.offset) image)) m (n - m) n (part_length image head r some m q refl) whole
          (ih (p + m) (n - m) less s.rest))
      go true t (Err d) q ih =
          let some = ltb-true 0 n t in
          subst (Gave n) (sym (all_damaged image B N head size p n some (only_damaged image head r some q))) damaged

  pub gave : (p n : ℕ) → OnCard B N size p n (length image) → Gave n (all image B N head size p n)
  gave p n r = gave_many n p n (omega arith) r

  -- so a run that is not clean meets -84
  pub not_clean : (p n : ℕ) → OnCard B N size p n (length image) → (clean (all image B N head size p n) ≡ Ok tt → ⊥) → clean (all image B N head size p n) ≡ Err refusal.Damaged
  not_clean p n r w = go (gave p n r) w
    where
      go : {g : Gathered} → Gave n g → (clean g ≡ Ok tt → ⊥) → clean g ≡ Err refusal.Damaged
      go (copied bs q) w = absurd (w refl)
      go damaged w = refl
