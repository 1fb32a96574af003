-- Reading a number group by group: what the groups so far are worth, and what the rest adds. Assumes nothing.
use mathlib.Core.Path.{◌≡◌, refl, sym, ap, ◌∙◌}
use mathlib.Core.Bool.{true, false, ◌&&◌}
use mathlib.Core.List.{List, ◌∷◌}
use Prim.Native.Nat.{ℕ, zero, ◌+◌, ◌-◌, ◌*◌, ◌≤◌, ◌<◌, ◌^◌}
use native.Mathlib.Nat.{mul-add, mul_assoc, mul-le-mul, le_refl, add_assoc}
use native.Mathlib.Numerals.{add-one}
use native.Mathlib.Omega.{arith}
use borrow.Author.Tests.{lt-ltb, le-ltb, le-leb, lt-leb, eq-eqb, ne_eqb}
use lib.ListN.{length, drop, get_or, drop_of_length-le}
use lib.Seq.{drop-cons}
use lib.Dec.{ltb, leb, eqb}
use Rattle.files.proofs.Tests.{eqb_cases, leb_cases, bool_cases}
use Rattle.saved.specs.declared.read.NumberRead.{NumberRead}
use Rattle.std.specs.Prelude.{Option, Some, None}
use Rattle.saved.specs.Load.{damaged, read, read_number, up_to, read_up_to, then_read, group_before, Parsed}
use Rattle.saved.specs.inner.Steps.{Scaled, a_number, last_of, number_told, number_next, NumberPost}
use Rattle.saved.proofs.Numbers.{read_last, read_more, more_some, more_none}

-- a number that follows groups worth `value`, and counts `scale`-fold
unfoldable pub join : ℕ → ℕ → Parsed ℕ → Parsed ℕ
join value scale damaged = damaged
join value scale (read w rest) = elim (ltb 1 scale && eqb w 0) [ true ↦ damaged | false ↦ read (value + scale * w) rest ]

pub join_start : (r : Parsed ℕ) → r ≡ join 0 1 r
unfolding join
join_start damaged = refl
join_start (read w rest) = ap (λ (x : ℕ). read x rest) (omega arith)

long : (scale w : ℕ) → 1 < scale → w ≡ 0 → (ltb 1 scale && eqb w 0) ≡ true
long scale w h z = rw (lt-ltb 1 scale h, eq-eqb w 0 z)

pub short : (scale w : ℕ) → (w ≡ 0 → ⊥) → (ltb 1 scale && eqb w 0) ≡ false
short scale w z = rw (ne_eqb w 0 z) (bool_cases (ltb 1 scale) (λ b. (b && false) ≡ false) (λ e. refl) (λ e. refl))

pub join_none : (value scale w : ℕ) (rest : List ℕ) → 1 < scale → w ≡ 0 → join value scale (read w rest) ≡ damaged
unfolding join
join_none value scale w rest h z = rw (join, long scale w h z)

pub join_some : (value scale w : ℕ) (rest : List ℕ) → (w ≡ 0 → ⊥) → join value scale (read w rest) ≡ read (value + scale * w) rest
unfolding join
join_some value scale w rest z = rw (join, short scale w z)

join_damaged : (value scale : ℕ) → join value scale damaged ≡ damaged
unfolding join
join_damaged value scale = refl

more_damaged : (b : ℕ) → group_before b damaged ≡ damaged
unfolding group_before
more_damaged b = refl

regroup : (value scale d w : ℕ) → value + scale * (d + 128 * w) ≡ value + scale * d + scale * 128 * w
regroup value scale d w = rw (mul-add scale d (128 * w), ← mul_assoc scale 128 w, ← add_assoc value (scale * d) (scale * 128 * w))

-- a group that is not the last
pub join_more : (value scale b : ℕ) → zero < scale → (r : Parsed ℕ) → join value scale (group_before b r) ≡ join (value + scale * (b - 128)) (scale * 128) r
join_more value scale b h damaged = rw (more_damaged b) (join_damaged value scale ∙ sym (join_damaged (value + scale * (b - 128)) (scale * 128)))
join_more value scale b h (read w rest) =
    eqb_cases w 0 (λ _. join value scale (group_before b (read w rest)) ≡ join (value + scale * (b - 128)) (scale * 128) (read w rest))
    (λ z. rw (more_none b w rest z) (join_damaged value scale ∙ sym (join_none (value + scale * (b - 128)) (scale * 128) w rest (omega arith) z)))
    (λ z. rw (more_some b w rest z)
    (join_some value scale (b - 128 + 128 * w) rest (λ q. z (omega arith))
    ∙ ap (λ (x : ℕ). read x rest) (regroup value scale (b - 128) w)
    ∙ sym (join_some (value + scale * (b - 128)) (scale * 128) w rest z)))

-- too large, whatever follows
pub join_large : (limit value scale : ℕ) → limit < scale → 1 < scale → (r : Parsed ℕ) → up_to limit (join value scale r) ≡ damaged
unfolding up_to
join_large limit value scale h k damaged = rw (join_damaged value scale)
join_large limit value scale h k (read w rest) =
    eqb_cases w 0 (λ _. up_to limit (join value scale (read w rest)) ≡ damaged)
    (λ z. rw (join_none value scale w rest k z))
    (λ z.
    let p : scale * 1 ≤ scale * w = mul-le-mul (le_refl scale) (omega arith) in
    rw (join_some value scale w rest z, up_to, then_read, lt-leb (value + scale * w) limit (omega arith)))

-- the last group, case by case
pub not_long : (scale b : ℕ) → (b ≡ 0 → ⊥) → (ltb 1 scale && eqb b 0) ≡ false
not_long scale b z = short scale b z

pub is_one : (scale b : ℕ) → scale ≤ 1 → (ltb 1 scale && eqb b 0) ≡ false
is_one scale b h = rw (le-ltb 1 scale h)

module _ (value scale b limit next : ℕ) where
  pub last_long : 1 < scale → b ≡ 0 → None ≡ last_of value scale b limit next
  unfolding last_of
  last_long h z = rw (last_of, long scale b h z)

  pub last_fits : (ltb 1 scale && eqb b 0) ≡ false → value + scale * b ≤ limit → Some (a_number (value + scale * b) next) ≡ last_of value scale b limit next
  unfolding last_of
  last_fits e h = rw (last_of, e, le-leb (value + scale * b) limit h)

  pub last_large : (ltb 1 scale && eqb b 0) ≡ false → limit < value + scale * b → None ≡ last_of value scale b limit next
  unfolding last_of
  last_large e h = rw (last_of, e, lt-leb (value + scale * b) limit h)

-- the last group, as a reading
pub last_is : (bytes : List ℕ) (value scale b limit next : ℕ) → up_to limit (join value scale (read b (drop next bytes))) ≡ number_told bytes (last_of value scale b limit next)
unfolding last_of join up_to
last_is bytes value scale b limit next =
    bool_cases (ltb 1 scale && eqb b 0)
    (λ t. up_to limit (elim t [ true ↦ damaged | false ↦ read (value + scale * b) (drop next bytes) ])
    ≡ number_told bytes (elim t [ true ↦ None | false ↦ elim (leb (value + scale * b) limit) [ true ↦ Some (a_number (value + scale * b) next) | false ↦ None ] ]))
    (λ e. refl)
    (λ e. leb_cases (value + scale * b) limit
    (λ t. (elim t [ true ↦ read (value + scale * b) (drop next bytes) | false ↦ damaged ]) ≡ number_told bytes (elim t [ true ↦ Some (a_number (value + scale * b) next) | false ↦ None ]))
    (λ l. refl) (λ l. refl))

last_next : (value scale b limit next : ℕ) → number_next (last_of value scale b limit next) ≤ next
unfolding last_of
last_next value scale b limit next =
    bool_cases (ltb 1 scale && eqb b 0)
    (λ t. number_next (elim t [ true ↦ None | false ↦ elim (leb (value + scale * b) limit) [ true ↦ Some (a_number (value + scale * b) next) | false ↦ None ] ]) ≤ next)
    (λ e. omega arith)
    (λ e. leb_cases (value + scale * b) limit
    (λ t. number_next (elim t [ true ↦ Some (a_number (value + scale * b) next) | false ↦ None ]) ≤ next) (λ l. omega arith) (λ l. omega arith))

pub start_is : (limit : ℕ) (bs : List ℕ) → read_up_to limit bs ≡ up_to limit (join 0 1 (read_number bs))
unfolding read_up_to
start_is limit bs = ap (up_to limit) (join_start (read_number bs))

-- the loop's turn and its ends, over the bytes from place i on
module _ (bytes : List ℕ) (at limit value scale i : ℕ) (inv : read_up_to limit (drop at bytes) ≡ up_to limit (join value scale (read_number (drop i bytes)))) where
  pub number_turn : (b : ℕ) → i < length bytes → b ≡ get_or bytes i 0 → 128 ≤ b → zero < scale
      → read_up_to limit (drop at bytes) ≡ up_to limit (join (value + scale * (b - 128)) (scale * 128) (read_number (drop (i + 1) bytes)))
  number_turn b l e h p =
      let d : drop i bytes ≡ b ∷ drop (i + 1) bytes = rw (e, add-one i) (drop-cons bytes i 0 l) in
      inv ∙ ap (up_to limit) (ap (join value scale) (ap read_number d ∙ read_more b (drop (i + 1) bytes) h) ∙ join_more value scale b p (read_number (drop (i + 1) bytes)))

  pub number_last : (b : ℕ) (r : Option NumberRead) → i < length bytes → b ≡ get_or bytes i 0 → b < 128 → r ≡ last_of value scale b limit (i + 1) → NumberPost bytes at limit r
  number_last b r l e h q =
      let d : drop i bytes ≡ b ∷ drop (i + 1) bytes = rw (e, add-one i) (drop-cons bytes i 0 l) in
      rw q
      (record {
        told = inv ∙ ap (λ (x : Parsed ℕ). up_to limit (join value scale x)) (ap read_number d ∙ read_last b (drop (i + 1) bytes) h)
            ∙ last_is bytes value scale b limit (i + 1);
        next_le = omega (arith, last_next value scale b limit (i + 1));
      })

  pub number_over : (b : ℕ) → i < length bytes → b ≡ get_or bytes i 0 → 128 ≤ b → zero < scale → limit < scale * 128 → NumberPost bytes at limit None
  number_over b l e h p k =
      record {
        told = number_turn b l e h p ∙ join_large limit (value + scale * (b - 128)) (scale * 128) k (omega arith) (read_number (drop (i + 1) bytes));
        next_le = omega arith;
      }

  pub number_end : length bytes ≤ i → NumberPost bytes at limit None
  unfolding read_number up_to join
  number_end h = record { told = inv ∙ rw (drop_of_length-le bytes h); next_le = omega arith }

-- ---- lengths

product : (scale d : ℕ) → scale ≤ 2 ^ 32 → d < 128 → scale * d ≤ scale * 127
product scale d h k = mul-le-mul (le_refl scale) (omega arith)

-- what is added keeps below the next scale
pub group_below : (value scale d : ℕ) → value < scale → scale ≤ 2 ^ 32 → d < 128 → value + scale * d < scale * 128
group_below value scale d v h k = omega (arith, product scale d h k)

pub group_fits : (value scale b : ℕ) → Scaled value scale → b < 256 → value + scale * (b - 128) < 2 ^ 40
group_fits value scale b s h = omega (arith, group_below value scale (b - 128) s.below s.scale_le (omega arith), s.scale_le)
