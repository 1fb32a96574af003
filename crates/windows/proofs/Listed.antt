-- What the visits tell of what is listed, and how that changes with the table. Assumes nothing.
use mathlib.Core.Path.{◌≡◌, refl, ap, ◌∙◌, sym}
use mathlib.Core.Bool.{Bool, true, false, ◌&&◌, ◌||◌, or_assoc}
use mathlib.Core.List.{List, [], ◌∷◌, ◌++◌}
use Prim.Native.Nat.{ℕ, zero, suc}
use lib.ListN.{get_or, set}
use Rattle.span.specs.Members.{has}
use Rattle.window.specs.Scan.{Seen, if_ok, listed_of, seen_all}
use Rattle.window.proofs.Cases.{no_both}
use Rattle.windows.proofs.Views.{Became, Lists, Tells, Below}
use Rattle.windows.proofs.Has.{below_append, below_none, has_append, not_in_both, not_in_left, not_in_none, not_in_right, or_both_false, or_left_false, or_right_false}

-- what the visit of no file tells
abbrev pub unseen : Seen
unseen = record { blocks = []; ok = true }

-- each visit hands over blocks of the card only
pub data AllBelow (n : ℕ) : List Seen → Type 0 where
  none : AllBelow n []
  one : {v : Seen} {vs : List Seen} → Below n v.blocks → AllBelow n vs → AllBelow n (v ∷ vs)

seen_low : (n : ℕ) (vs : List Seen) → AllBelow n vs → Below n (seen_all vs).blocks
unfolding seen_all
seen_low n [] none = below_none n
seen_low n (v ∷ vs) (one h r) = below_append n v.blocks (if_ok v.ok (seen_all vs).blocks) h (go v.ok (seen_low n vs r))
  where
    go : (t : Bool) → Below n (seen_all vs).blocks → Below n (if_ok t (seen_all vs).blocks)
    go true k = k
    go false k = below_none n

seen_cover : (vs : List Seen) → (seen_all vs).ok ≡ true → (b : ℕ) → has (seen_all vs).blocks b ≡ false → has (listed_of vs) b ≡ false
unfolding seen_all listed_of
seen_cover [] ok b e = e
seen_cover (v ∷ vs) ok b e = go v.ok ok e (seen_cover vs)
  where
    go : (t : Bool) → (t && (seen_all vs).ok) ≡ true → has (v.blocks ++ if_ok t (seen_all vs).blocks) b ≡ false
        → ((seen_all vs).ok ≡ true → (b : ℕ) → has (seen_all vs).blocks b ≡ false → has (listed_of vs) b ≡ false) → has (v.blocks ++ listed_of vs) b ≡ false
    go true o e ih = not_in_both _ _ b (not_in_left v.blocks (seen_all vs).blocks b e) (ih o b (not_in_right v.blocks (seen_all vs).blocks b e))
    go false o e ih = absurd (no_both false o refl)

-- THEOREM. The visits tell what is listed.
pub tells : (n : ℕ) (vs : List Seen) → AllBelow n vs → Tells n (listed_of vs) (seen_all vs)
tells n vs h = record { low = seen_low n vs h; cover = seen_cover vs }

pub data AllOk : List Seen → Type 0 where
  none : AllOk []
  one : {v : Seen} {vs : List Seen} → v.ok ≡ true → AllOk vs → AllOk (v ∷ vs)

seen_ok : (vs : List Seen) → AllOk vs → (seen_all vs).ok ≡ true
unfolding seen_all
seen_ok [] none = refl
seen_ok (v ∷ vs) (one h r) = rw h (seen_ok vs r)

seen_same : (vs : List Seen) → AllOk vs → (seen_all vs).blocks ≡ listed_of vs
unfolding seen_all listed_of
seen_same [] none = refl
seen_same (v ∷ vs) (one h r) = rw h (ap (λ (l : List ℕ). v.blocks ++ l) (seen_same vs r))

-- THEOREM. Where no visit fails they hand over exactly what is listed.
pub lists : (n : ℕ) (vs : List Seen) → AllBelow n vs → AllOk vs → Lists n (listed_of vs) (seen_all vs)
lists n vs h k = record { low = seen_low n vs h; ok = seen_ok vs k; same = λ b. ap (λ (l : List ℕ). has l b) (seen_same vs k) }

pub lists_tells : {n : ℕ} {listed : List ℕ} {seen : Seen} → Lists n listed seen → Tells n listed seen
lists_tells t = record { low = t.low; cover = λ _ b e. sym (t.same b) ∙ e }

-- a block that is not listed is in no file
pub not_in_file : (vs : List Seen) (k : ℕ) (b : ℕ) → has (listed_of vs) b ≡ false → has (get_or vs k unseen).blocks b ≡ false
unfolding listed_of
not_in_file [] k b e = not_in_none b
not_in_file (v ∷ vs) zero b e = not_in_left v.blocks (listed_of vs) b e
not_in_file (v ∷ vs) (suc k) b e = not_in_file vs k b (not_in_right v.blocks (listed_of vs) b e)

-- THEOREM. One file changed: its blocks were its own before, or handed out.
pub became_set : (vs : List Seen) (k : ℕ) (v : Seen) (out : List ℕ) → Became (get_or vs k unseen).blocks out v.blocks → Became (listed_of vs) out (listed_of (set vs k v))
unfolding listed_of
became_set [] k v out h b e f = e
became_set (x ∷ vs) zero v out h b e f =
    not_in_both v.blocks (listed_of vs) b (h b (not_in_left x.blocks (listed_of vs) b e) f) (not_in_right x.blocks (listed_of vs) b e)
became_set (x ∷ vs) (suc k) v out h b e f =
    not_in_both x.blocks (listed_of (set vs k v)) b (not_in_left x.blocks (listed_of vs) b e) (became_set vs k v out h b (not_in_right x.blocks (listed_of vs) b e) f)

listed_append : (xs ys : List Seen) (b : ℕ) → has (listed_of (xs ++ ys)) b ≡ ((has (listed_of xs) b) || (has (listed_of ys) b))
unfolding listed_of has
listed_append [] ys b = refl
listed_append (x ∷ xs) ys b = has_append x.blocks (listed_of (xs ++ ys)) b ∙ ap (λ (t : Bool). ((has x.blocks b) || t)) (listed_append xs ys b)
    ∙ sym (or_assoc (has x.blocks b) (has (listed_of xs) b) (has (listed_of ys) b)) ∙ ap (λ (t : Bool). (t || (has (listed_of ys) b))) (sym (has_append x.blocks (listed_of xs) b))

listed_both : (xs ys : List Seen) (b : ℕ) → has (listed_of xs) b ≡ false → has (listed_of ys) b ≡ false → has (listed_of (xs ++ ys)) b ≡ false
listed_both xs ys b p q = listed_append xs ys b ∙ or_both_false (has (listed_of xs) b) (has (listed_of ys) b) p q

listed_left : (xs ys : List Seen) (b : ℕ) → has (listed_of (xs ++ ys)) b ≡ false → has (listed_of xs) b ≡ false
listed_left xs ys b e = or_left_false (has (listed_of xs) b) (has (listed_of ys) b) (sym (listed_append xs ys b) ∙ e)

listed_right : (xs ys : List Seen) (b : ℕ) → has (listed_of (xs ++ ys)) b ≡ false → has (listed_of ys) b ≡ false
listed_right xs ys b e = or_right_false (has (listed_of xs) b) (has (listed_of ys) b) (sym (listed_append xs ys b) ∙ e)

-- THEOREM. An empty file made, a file removed.
pub became_made : (xs ys : List Seen) (v : Seen) → v.blocks ≡ [] → Became (listed_of (xs ++ ys)) [] (listed_of (xs ++ (v ∷ ys)))
unfolding listed_of
became_made xs ys v z b e f =
    let q : has [] b ≡ has v.blocks b = ap (λ (l : List ℕ). has l b) (sym z) in
    listed_both xs (v ∷ ys) b (listed_left xs ys b e) (not_in_both v.blocks (listed_of ys) b (sym q ∙ f) (listed_right xs ys b e))

pub became_removed : (xs ys : List Seen) (v : Seen) → Became (listed_of (xs ++ (v ∷ ys))) [] (listed_of (xs ++ ys))
unfolding listed_of
became_removed xs ys v b e f =
    listed_both xs ys b (listed_left xs (v ∷ ys) b e) (not_in_right v.blocks (listed_of ys) b (listed_right xs (v ∷ ys) b e))
