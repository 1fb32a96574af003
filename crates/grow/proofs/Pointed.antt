-- The bytes that a growth puts into a block, copied or pointers, as the nested definitions put them there. Assumes nothing.
use mathlib.Core.Path.{◌≡◌, refl, ap, ◌∙◌}
use mathlib.Core.Logic.{◌⊎◌, inl, inr}
use mathlib.Core.Bool.{Bool, true, false}
use mathlib.Core.List.{List, [], ◌∷◌}
use Prim.Native.Nat.{ℕ, zero, suc, ◌+◌, ◌*◌, ◌≤◌, ◌<◌}
use native.Mathlib.Omega.{arith}
use lib.Dec.{ltb}
use lib.ListN.{length, take, drop, length-take, length-drop}
use lib.Seq.{take-take, drop-drop}
use Rattle.std.specs.Prelude.{Err}
use Rattle.span.specs.Words.{bytes32}
use Rattle.layout.specs.Layout.{pointers}
use Rattle.layout.specs.declared.Refusal.TheVariants as refusal
use Rattle.card.specs.Card.{block_of}
use Rattle.card.specs.inner.Cards.{CardFacts}
use Rattle.card.proofs.Cards.{block_inside}
use Rattle.device.specs.Device.{stored}
use Rattle.device.proofs.Frame.{stored_append}
use Rattle.trials.specs.Trial.{Trial, Ending, Whole, Fault, Refused, ends}
use Rattle.trials.specs.Loop.{Candidate}
use Rattle.grow.specs.Growth.{with, Link, linked, following, links}
use Rattle.grow.specs.Extend.{Growth, grown_at, GrowOut, grow_out}
use Rattle.grow.specs.inner.Grow.{part, pointers_of}

-- ---- n bytes of a block from offset o on

inner_part : (o n b : ℕ) (xs : List ℕ) → o + n ≤ b → take n (drop o (take b xs)) ≡ take n (drop o xs)
inner_part zero n b xs h = take-take n b xs (omega arith)
inner_part (suc o) n zero xs h = absurd (omega arith)
inner_part (suc o) n (suc b) [] h = refl
inner_part (suc o) n (suc b) (x ∷ xs) h = inner_part o n b xs (omega arith)

pub part_block : (B f o n : ℕ) (img : List ℕ) → o + n ≤ B → take n (drop o (block_of B img f)) ≡ part B f o n img
unfolding part
part_block B f o n img h = inner_part o n B (drop (f * B) img) h ∙ ap (take n) (drop-drop o (f * B) img)

pub part_length : (B N f n : ℕ) (img : List ℕ) → CardFacts B N (length img) → f < N → n ≤ B → length (part B f 0 n img) ≡ n
unfolding part
part_length B N f n img c l h = simp (length-take, length-drop) (omega (arith, block_inside {k = f} c l))

-- ---- what a growth leaves, by its bytes

abbrev pub grows : ℕ → ℕ → Ending → Growth
grows k off Whole = grown_at k off
grows k off Fault = Err refusal.Damaged
grows k off Refused = Err refusal.Damaged

abbrev pub given : {W : Type 0} → Candidate → ℕ → ℕ → Trial → List ℕ → W → GrowOut W
given q off o t img w = grow_out (grows q.k off t.ending) (with q img o t.bytes) w

four : (x v : ℕ) → 4 * suc x ≡ 4 * x + length (bytes32 v)
unfolding bytes32
four x v = omega arith

-- ---- pointers

pub links_nested : {W : Type 0} (q : Candidate) (off : ℕ) (w : W) (n : ℕ) (l : Link) (img : List ℕ)
    → pointers_of n q.B q.N q.k off l.x l.names img w ≡ given q off (4 * l.x) (links q n l img) img w
unfolding pointers_of links stored
links_nested q off w zero l img = refl
links_nested q off w (suc n) l img = by (ltb l.names q.N) refl (links_nested q off w n)
  where
    by : (t : Bool) → ltb l.names q.N ≡ t
        → ((l : Link) (img : List ℕ) → pointers_of n q.B q.N q.k off l.x l.names img w ≡ given q off (4 * l.x) (links q n l img) img w)
        → pointers_of (suc n) q.B q.N q.k off l.x l.names img w ≡ given q off (4 * l.x) (links q (suc n) l img) img w
    by false e ih = rw (pointers_of, links, e) refl
    by true e ih =
        let img' = linked q l img in
        let l' = following q l img in
        let a : 4 * suc l.x ≡ 4 * l.x + length (bytes32 l.names) = four l.x l.names in
        rw (pointers_of, links, e)
        (ih l' img'
        ∙ ap (λ (i : List ℕ). grow_out (grows q.k off (links q n l' img').ending) i w)
        (ap (λ (o : ℕ). with q img' o (links q n l' img').bytes) a
        ∙ stored_append q.B q.k (4 * l.x) (bytes32 l.names) (links q n l' img').bytes img))

pub links_length : (q : Candidate) (n : ℕ) (l : Link) (img : List ℕ) → (links q n l img).ending ≡ Whole → length (links q n l img).bytes ≡ 4 * n
unfolding links bytes32
links_length q zero l img h = refl
links_length q (suc n) l img h = by (ltb l.names q.N) refl (links_length q n)
  where
    by : (t : Bool) → ltb l.names q.N ≡ t → ((l : Link) (img : List ℕ) → (links q n l img).ending ≡ Whole → length (links q n l img).bytes ≡ 4 * n)
        → length (links q (suc n) l img).bytes ≡ 4 * suc n
    by false e ih =
        let z : Fault ≡ Whole = rw (links, e) at h in
        let y : ◌≡◌ {A = ℕ} 0 1 = cc in
        absurd (omega arith)
    by true e ih =
        let r : (links q n (following q l img) (linked q l img)).ending ≡ Whole = rw (links, e) at h in
        rw (links, e) (omega (arith, ih (following q l img) (linked q l img) r))

pub links_lost : (q : Candidate) (n : ℕ) (l : Link) (img : List ℕ) → 0 < n → ltb l.names q.N ≡ false → links q n l img ≡ ends Fault
unfolding links
links_lost q zero l img h e = absurd (omega arith)
links_lost q (suc n) l img h e = rw (links, e) refl

pub links_some : (q : Candidate) (n : ℕ) (l : Link) (img : List ℕ) → 0 < n → ltb l.names q.N ≡ true → 0 < length (links q n l img).bytes
unfolding links bytes32
links_some q zero l img h e = absurd (omega arith)
links_some q (suc n) l img h e = rw (links, e) (omega arith)

pub links_ends : (q : Candidate) (n : ℕ) (l : Link) (img : List ℕ) → ((links q n l img).ending ≡ Whole) ⊎ ((links q n l img).ending ≡ Fault)
unfolding links
links_ends q zero l img = inl refl
links_ends q (suc n) l img = by (ltb l.names q.N) refl (links_ends q n)
  where
    by : (t : Bool) → ltb l.names q.N ≡ t → ((l : Link) (img : List ℕ) → ((links q n l img).ending ≡ Whole) ⊎ ((links q n l img).ending ≡ Fault))
        → ((links q (suc n) l img).ending ≡ Whole) ⊎ ((links q (suc n) l img).ending ≡ Fault)
    by false e ih = inr (rw (links, e) refl)
    by true e ih = rw (links, e) (ih (following q l img) (linked q l img))

pub pointers_some : (n : ℕ) → 0 < pointers (suc n)
unfolding pointers
pointers_some n = omega arith
