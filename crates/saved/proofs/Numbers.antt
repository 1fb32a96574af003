-- The groups of a number, and reading them back. Assumes nothing.
use mathlib.Core.Path.{◌≡◌, refl, ap, ◌∙◌}
use mathlib.Core.Bool.{true, false}
use mathlib.Core.List.{List, [], ◌∷◌, ◌++◌}
use Prim.Native.Nat.{ℕ, zero, suc, ◌+◌, ◌-◌, ◌*◌, ◌/◌, ◌%◌, ◌^◌, ◌≤◌, ◌<◌}
use native.Mathlib.Nat.{le_refl}
use native.Mathlib.Omega.{arith}
use borrow.Author.Tests.{lt-ltb, le-ltb, le-leb, eq-eqb, ne_eqb}
use lib.ListN.{length, get_or}
use Rattle.files.proofs.Tests.{ltb_cases, leb_cases, eqb_cases}
use Rattle.saved.specs.Load.{damaged, read, read_number, up_to, read_up_to, then_read, group_before, Parsed}
use Rattle.saved.specs.Save.{groups, groups_by}
use Rattle.saved.specs.inner.Steps.{Counted}

-- more room changes nothing
enough : (f g n : ℕ) → n ≤ f → n ≤ g → groups_by f n ≡ groups_by g n
unfolding groups_by
enough zero zero n h k = refl
enough zero (suc g) n h k = rw (groups_by, lt-ltb n 128 (omega arith))
enough (suc f) zero n h k = rw (groups_by, lt-ltb n 128 (omega arith))
enough (suc f) (suc g) n h k =
    ltb_cases n 128
    (λ b. ◌≡◌ {A = List ℕ} (elim b [ true ↦ n ∷ [] | false ↦ (128 + n % 128) ∷ groups_by f (n / 128) ])
    (elim b [ true ↦ n ∷ [] | false ↦ (128 + n % 128) ∷ groups_by g (n / 128) ]))
    (λ l. refl)
    (λ l. ap (λ (x : List ℕ). (128 + n % 128) ∷ x) (enough f g (n / 128) (omega arith) (omega arith)))

by_more : (k n : ℕ) → 128 ≤ n → groups_by (suc k) n ≡ (128 + n % 128) ∷ groups_by k (n / 128)
unfolding groups_by
by_more k n h = rw (groups_by, le-ltb n 128 h)

by_last : (k n : ℕ) → n < 128 → groups_by k n ≡ n ∷ []
unfolding groups_by
by_last zero n h = refl
by_last (suc k) n h = rw (groups_by, lt-ltb n 128 h)

pub groups_last : (n : ℕ) → n < 128 → groups n ≡ n ∷ []
unfolding groups
groups_last n h = by_last n n h

pub groups_more : (n : ℕ) → 128 ≤ n → groups n ≡ (128 + n % 128) ∷ groups (n / 128)
unfolding groups
groups_more zero h = absurd (omega arith)
groups_more (suc n) h =
    by_more n (suc n) h ∙ ap (λ (x : List ℕ). (128 + suc n % 128) ∷ x) (enough n (suc n / 128) (suc n / 128) (omega arith) (le_refl (suc n / 128)))

pub length_last : (n : ℕ) → n < 128 → length (groups n) ≡ 1
length_last n h = ap length (groups_last n h)

pub length_more : (n : ℕ) → 128 ≤ n → length (groups n) ≡ suc (length (groups (n / 128)))
length_more n h = ap length (groups_more n h)

-- at most five groups for 32 bits
pub five : (n : ℕ) → n < 2 ^ 32 → length (groups n) ≤ 5
five n h =
    ltb_cases n 128 (λ _. length (groups n) ≤ 5) (λ l. omega (arith, length_last n l))
    (λ l. ltb_cases (n / 128) 128 (λ _. length (groups n) ≤ 5) (λ m. omega (arith, length_more n l, length_last (n / 128) m))
    (λ m. ltb_cases (n / 128 / 128) 128 (λ _. length (groups n) ≤ 5)
    (λ o. omega (arith, length_more n l, length_more (n / 128) m, length_last (n / 128 / 128) o))
    (λ o. ltb_cases (n / 128 / 128 / 128) 128 (λ _. length (groups n) ≤ 5)
    (λ p. omega (arith, length_more n l, length_more (n / 128) m, length_more (n / 128 / 128) o, length_last (n / 128 / 128 / 128) p))
    (λ p. omega (
      arith,
      length_more n l,
      length_more (n / 128) m,
      length_more (n / 128 / 128) o,
      length_more (n / 128 / 128 / 128) p,
      length_last (n / 128 / 128 / 128 / 128) (omega arith),
    )))))

pub counted_five : (n r : ℕ) → n < 2 ^ 32 → r ≡ length (groups n) → Counted (groups n) 5 r
counted_five n r h e = record { is = e; small = omega (arith, five n h) }

-- what follows a group that is not the last, and a last one
pub read_last : (b : ℕ) (bs : List ℕ) → b < 128 → read_number (b ∷ bs) ≡ read b bs
unfolding read_number
read_last b bs h = rw (read_number, lt-ltb b 128 h)

pub read_more : (b : ℕ) (bs : List ℕ) → 128 ≤ b → read_number (b ∷ bs) ≡ group_before b (read_number bs)
unfolding read_number
read_more b bs h = rw (read_number, le-ltb b 128 h)

pub more_some : (b v : ℕ) (rest : List ℕ) → (v ≡ 0 → ⊥) → group_before b (read v rest) ≡ read (b - 128 + 128 * v) rest
unfolding group_before
more_some b v rest h = rw (group_before, then_read, ne_eqb v 0 h)

pub more_none : (b v : ℕ) (rest : List ℕ) → v ≡ 0 → group_before b (read v rest) ≡ damaged
unfolding group_before
more_none b v rest h = rw (group_before, then_read, eq-eqb v 0 h)

-- a number's groups read back
read_by : (f n : ℕ) (rest : List ℕ) → n ≤ f → read_number (groups n ++ rest) ≡ read n rest
read_by zero n rest h = rw (groups_last n (omega arith)) (read_last n rest (omega arith))
read_by (suc f) n rest h =
    ltb_cases n 128 (λ _. read_number (groups n ++ rest) ≡ read n rest)
    (λ l. rw (groups_last n l) (read_last n rest l))
    (λ l.
    let v : 128 + n % 128 - 128 + 128 * (n / 128) ≡ n = omega arith in
    rw (groups_more n l)
    (read_more (128 + n % 128) (groups (n / 128) ++ rest) (omega arith)
    ∙ ap (group_before (128 + n % 128)) (read_by f (n / 128) rest (omega arith))
    ∙ more_some (128 + n % 128) (n / 128) rest (λ z. omega arith)
    ∙ ap (λ (x : ℕ). read x rest) v))

pub read_groups : (n : ℕ) (rest : List ℕ) → read_number (groups n ++ rest) ≡ read n rest
read_groups n rest = read_by n n rest (le_refl n)

-- bytes, as a slice holds them
abbrev pub Bytes : List ℕ → Type 0
Bytes bs = (k : ℕ) → k < length bs → get_or bs k 0 < 256

pub tail_bytes : (b : ℕ) (bs : List ℕ) → Bytes (b ∷ bs) → Bytes bs
tail_bytes b bs h = λ k l. h (suc k) (omega arith)

-- bytes that were read are the groups of the number, and those that follow
pub record WasRead (n : ℕ) (rest bs : List ℕ) : Type 0 where
  pub written : bs ≡ groups n ++ rest
  pub after : Bytes rest

groups_of : (b v : ℕ) → 128 ≤ b → b < 256 → (v ≡ 0 → ⊥) → groups (b - 128 + 128 * v) ≡ b ∷ groups v
groups_of b v l h z =
    let n : ℕ = b - 128 + 128 * v in
    let r : 128 + n % 128 ≡ b = omega arith in
    let q : n / 128 ≡ v = omega arith in
    groups_more n (omega arith) ∙ rw (r, q)

last_was : (b n : ℕ) (bs rest : List ℕ) → b < 128 → Bytes (b ∷ bs) → read b bs ≡ read n rest → WasRead n rest (b ∷ bs)
last_was b n bs rest l h e =
    let x : b ≡ n = cc in
    let y : bs ≡ rest = cc in
    record { written = rw (← x, ← y, groups_last b l); after = rw (← y) (tail_bytes b bs h) }

more_was : (b n : ℕ) (bs rest : List ℕ) → 128 ≤ b → Bytes (b ∷ bs) → (r : Parsed ℕ) → ((v : ℕ) (w : List ℕ) → r ≡ read v w → WasRead v w bs)
    → group_before b r ≡ read n rest → WasRead n rest (b ∷ bs)
unfolding group_before
more_was b n bs rest l h damaged ih = λ e. let z : ◌≡◌ {A = ℕ} 0 1 = cc in absurd (omega arith)
more_was b n bs rest l h (read v w) ih =
    eqb_cases v 0 (λ t. (elim t [ true ↦ damaged | false ↦ read (b - 128 + 128 * v) w ]) ≡ read n rest → WasRead n rest (b ∷ bs))
    (λ q e. let z : ◌≡◌ {A = ℕ} 0 1 = cc in absurd (omega arith))
    (λ q e.
    let x : b - 128 + 128 * v ≡ n = cc in
    let y : w ≡ rest = cc in
    let i = ih v w refl in
    record {
      written = ap (λ (u : List ℕ). b ∷ u) i.written ∙ rw (← x, ← y, groups_of b v l (h 0 (omega arith)) q);
      after = rw (← y) i.after;
    })

pub number_was : (bs : List ℕ) (n : ℕ) (rest : List ℕ) → Bytes bs → read_number bs ≡ read n rest → WasRead n rest bs
unfolding read_number
number_was [] n rest h e = let z : ◌≡◌ {A = ℕ} 0 1 = cc in absurd (omega arith)
number_was (b ∷ bs) n rest h e =
    ltb_cases b 128 (λ t. (elim t [ true ↦ read b bs | false ↦ group_before b (read_number bs) ]) ≡ read n rest → WasRead n rest (b ∷ bs))
    (λ l q. last_was b n bs rest l h q)
    (λ l q. more_was b n bs rest l h (read_number bs) (λ v w p. number_was bs v w (tail_bytes b bs h) p) q)
    e

-- in range
pub up_to_lem : (limit n : ℕ) (rest : List ℕ) → n ≤ limit → read_up_to limit (groups n ++ rest) ≡ read n rest
unfolding read_up_to up_to
up_to_lem limit n rest h = rw (read_groups n rest, up_to, then_read, le-leb n limit h)

pub reading_cases : {A : Type 0} (r : Parsed A) (P : Parsed A → Type 0) → (r ≡ damaged → P damaged) → ((a : A) (w : List ℕ) → r ≡ read a w → P (read a w)) → P r
reading_cases damaged P f g = f refl
reading_cases (read a w) P f g = g a w refl

pub record InRange (limit n : ℕ) (rest bs : List ℕ) : Type 0 where
  pub in_range : n ≤ limit
  pub was : WasRead n rest bs

pub up_to_was : (limit : ℕ) (bs : List ℕ) (n : ℕ) (rest : List ℕ) → Bytes bs → read_up_to limit bs ≡ read n rest → InRange limit n rest bs
unfolding read_up_to up_to
up_to_was limit bs n rest h =
    reading_cases (read_number bs) (λ r. up_to limit r ≡ read n rest → InRange limit n rest bs)
    (λ p e. let z : ◌≡◌ {A = ℕ} 0 1 = cc in absurd (omega arith))
    (λ v w p. leb_cases v limit (λ t. (elim t [ true ↦ read v w | false ↦ damaged ]) ≡ read n rest → InRange limit n rest bs)
    (λ l e.
    let x : v ≡ n = cc in
    let y : w ≡ rest = cc in
    record { in_range = omega arith; was = number_was bs n rest h (p ∙ e) })
    (λ l e. let z : ◌≡◌ {A = ℕ} 0 1 = cc in absurd (omega arith)))

pub up_to_le : (limit : ℕ) (bs : List ℕ) (n : ℕ) (rest : List ℕ) → read_up_to limit bs ≡ read n rest → n ≤ limit
unfolding read_up_to up_to
up_to_le limit bs n rest =
    reading_cases (read_number bs) (λ r. up_to limit r ≡ read n rest → n ≤ limit)
    (λ p e. let z : ◌≡◌ {A = ℕ} 0 1 = cc in absurd (omega arith))
    (λ v w p. leb_cases v limit (λ t. (elim t [ true ↦ read v w | false ↦ damaged ]) ≡ read n rest → n ≤ limit)
    (λ l e. let x : v ≡ n = cc in omega arith)
    (λ l e. let z : ◌≡◌ {A = ℕ} 0 1 = cc in absurd (omega arith)))
