-- What the records on a card's blocks ask, from the words, parts and windows that were read. Assumes nothing.
use mathlib.Core.Path.{◌≡◌, refl, sym, ap, ◌∙◌}
use mathlib.Core.Bool.{Bool, true, false}
use mathlib.Core.List.{List, [], ◌∷◌, ◌++◌}
use Prim.Native.Nat.{ℕ, ◌≤◌}
use native.Mathlib.Omega.{arith}
use borrow.Author.Tests.{eq-eqb, eqb-true, le-leb, leb-true}
use lib.Dec.{eqb, leb}
use lib.ListN.{length, take, drop}
use lib.Seq.{sets, take-length, take-append_seam}
use Rattle.std.specs.Prelude.{Option, Some, None, is_none}
use Rattle.std.proofs.lemmas.List.{length-take-le}
use Rattle.span.proofs.Parts.{part_sets}
use Rattle.layout.specs.declared.Geometry.{Geometry}
use Rattle.files.specs.declared.Table.{Table}
use Rattle.files.proofs.Tests.{both_left, both_right}
use Rattle.window.specs.declared.Lookahead.{Lookahead}
use Rattle.window.specs.declared.Windowed.{Windowed}
use Rattle.grow.specs.Extend.{Growth, extend_of}
use Rattle.grow.specs.inner.Setting.{setting, state}
use Rattle.grow.specs.inner.Gives.{GrewGives}
use Rattle.told_windows.specs.declared.TidExtend.{TidExtend}
use Rattle.told_windows.specs.Windows.{grew_told}
use Rattle.records.specs.Records.{word_of, bytes_at, geometry_of, image_of, window_of, table_at}
use Rattle.replay.specs.Blocks.{bytes_agree, grew_equal, grown_equal, extend_equal, grown_on, answer_on}

-- the same bytes
bytes_refl : (a : List ℕ) → bytes_agree a a ≡ true
unfolding bytes_agree
bytes_refl [] = refl
bytes_refl (x ∷ xs) = rw (eq-eqb x x refl) (bytes_refl xs)

bytes_same : (a b : List ℕ) → bytes_agree a b ≡ true → a ≡ b
unfolding bytes_agree
bytes_same [] [] h = refl
bytes_same [] (y ∷ ys) h = let z : ◌≡◌ {A = ℕ} 0 1 = cc in absurd (omega arith)
bytes_same (x ∷ xs) [] h = let z : ◌≡◌ {A = ℕ} 0 1 = cc in absurd (omega arith)
bytes_same (x ∷ xs) (y ∷ ys) h =
    let e : x ≡ y = eqb-true x y (both_left (eqb x y) (bytes_agree xs ys) h) in
    let f : xs ≡ ys = bytes_same xs ys (both_right (eqb x y) (bytes_agree xs ys) h) in
    rw (e, f)

bytes_decide : (a b : List ℕ) (r : Bool) → (r ≡ true → a ≡ b) → (a ≡ b → r ≡ true) → r ≡ bytes_agree a b
bytes_decide a b true f g = sym (rw (← f refl) (bytes_refl a))
bytes_decide a b false f g = go (bytes_agree a b) refl
  where
    go : (t : Bool) → bytes_agree a b ≡ t → false ≡ t
    go true h = g (bytes_same a b h)
    go false h = refl

-- the growth that the question asks, from the words, parts and windows that were read
pub grew_on : (list : List ℕ) (at card l p q u h s : ℕ) (before copy : List ℕ) (g : Geometry) (health : List ℕ) (t : Table) (w : Lookahead) (r : Windowed Growth) (after : List ℕ)
    → card ≡ word_of list at 4
    → before ≡ image_of list card
    → copy ≡ before
    → g ≡ geometry_of list card
    → l ≡ word_of list card 2
    → p ≡ word_of list card 5
    → health ≡ bytes_at list p g.block_count
    → q ≡ word_of list card 6
    → t ≡ table_at list q
    → u ≡ word_of list at 5
    → w ≡ window_of list u
    → h ≡ word_of list at 7
    → s ≡ word_of list at 8
    → GrewGives (extend_of (setting g.block_size g.block_count l health) (state w t copy) (record { head = h; size = s })) r after
    → GrewGives (grown_on list at) r after
grew_on list at card l p q u h s before copy g health t w r after a b c d e f i j k m n o v x =
    rw (v, o, n, m, k, j, i, f, e, d, c, b, a) at x

module _ (list : List ℕ) (at card : ℕ) (before : List ℕ) (a : card ≡ word_of list at 4) (b : before ≡ image_of list card) (r : Windowed Growth) (after : List ℕ) (x : GrewGives (grown_on list at) r after) where
  -- there is room, and the answer is told
  pub answer_is : (answer : TidExtend) → answer ≡ grew_told r → length before ≤ 2048 → Some answer ≡ answer_on list at
  answer_is answer k h =
      let e : length (image_of list (word_of list at 4)) ≤ 2048 = rw (← a, ← b) h in
      rw (k, x.answer, x.window, answer_on, le-leb (length (image_of list (word_of list at 4))) 2048 e)

  -- the image stands in front of what the space has beyond
  pub image_is : (rest : List ℕ) → length after ≡ length before → take (length (image_of list (word_of list at 4))) (after ++ rest) ≡ (grown_on list at).image
  image_is rest h = rw (← a, ← b, ← h) (take-append_seam after rest) ∙ x.image

-- the front of a space that bytes were copied to
pub front : (space after image : List ℕ) → length image ≤ length space → after ≡ sets space 0 (take (length image) (drop 0 image)) → take (length image) after ≡ image
front space after image h e =
    ap (take (length image)) (e ∙ ap (sets space 0) (take-length image)) ∙ part_sets space 0 image (omega arith)

-- where a growth answers, there is room
pub room : (list : List ℕ) (at : ℕ) (o : Option TidExtend) → o ≡ answer_on list at → is_none o ≡ false → length (image_of list (word_of list at 4)) ≤ 2048
room list at o e n = go (leb (length (image_of list (word_of list at 4))) 2048) refl
  where
    go : (t : Bool) → leb (length (image_of list (word_of list at 4))) 2048 ≡ t → length (image_of list (word_of list at 4)) ≤ 2048
    go true h = leb-true (length (image_of list (word_of list at 4))) 2048 h
    go false h =
        let f : o ≡ None = e ∙ rw (answer_on, h) in
        let z : ◌≡◌ {A = Bool} true false = rw f at n in
        let u : ◌≡◌ {A = ℕ} 0 1 = cc in absurd (omega arith)

-- the image is compared whole
pub image_same : (list : List ℕ) (at card q : ℕ) (before space wanted : List ℕ) (y : Bool)
    → card ≡ word_of list at 4
    → before ≡ image_of list card
    → q ≡ word_of list at 9
    → wanted ≡ bytes_at list q (length before)
    → length (image_of list (word_of list at 4)) ≤ 2048
    → length space ≡ 2048
    → take (length (image_of list (word_of list at 4))) space ≡ (grown_on list at).image
    → (y ≡ true → take (length before) space ≡ wanted)
    → (take (length before) space ≡ wanted → y ≡ true)
    → y ≡ extend_equal true list at
unfolding extend_equal grown_equal grew_equal
image_same list at card q before space wanted y a b u v h k x f g =
    let n : length (grown_on list at).image ≡ length (image_of list (word_of list at 4)) =
    sym (ap length x) ∙ length-take-le (length (image_of list (word_of list at 4))) space (omega arith) in
    bytes_decide (take (length before) space) wanted y f g
    ∙ rw (extend_equal, le-leb (length (image_of list (word_of list at 4))) 2048 h, grown_equal, grew_equal, n, v, u, b, a, x)
