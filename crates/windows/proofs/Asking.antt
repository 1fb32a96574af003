-- What is left to hand out: the blocks that are not used, in circular order, how many of them are good, and what asking for them gives.
use mathlib.Core.Path.{◌≡◌}
use mathlib.Core.Bool.{Bool, true, false}
use mathlib.Core.List.{List, [], ◌∷◌}
use Prim.Native.Nat.{ℕ, zero, suc, ◌+◌, ◌-◌, ◌%◌, ◌≤◌, ◌<◌}
use Rattle.layout.specs.declared.Refusal.TheVariants as refusal
use Rattle.span.specs.Members.{has}
use Rattle.std.specs.Prelude.{Ok, Err}
use Rattle.window.specs.declared.Lookahead.{Lookahead}
use Rattle.window.specs.Allocate.{alloc_of, Answer}
use Rattle.window.specs.Scan.{Seen}
use Rattle.window.specs.inner.Facts.{ValidWindow, scope}
use Rattle.windows.specs.Space.{good_unused}
use Rattle.windows.proofs.Views.{Lists, On, Says, exactly}

-- how many good blocks are not listed
abbrev pub good_unlisted : (ℕ → Bool) → ℕ → List ℕ → ℕ
good_unlisted good N listed = good_unused good N (has listed)

abbrev pub unless_used : Bool → ℕ → List ℕ → List ℕ
unless_used true b bs = bs
unless_used false b bs = b ∷ bs

-- those of the last c blocks of the circle that starts at base which are not used: at the places n - c up to n
unfoldable pub unused_from : ℕ → ℕ → (ℕ → Bool) → ℕ → List ℕ
unused_from base n used zero = []
unused_from base n used (suc c) = unless_used (used ((base + (n - suc c)) % n)) ((base + (n - suc c)) % n) (unused_from base n used c)

abbrev pub bit : Bool → ℕ
bit true = 1
bit false = 0

-- how many of a list are good
unfoldable pub good_in : (ℕ → Bool) → List ℕ → ℕ
good_in good [] = 0
good_in good (b ∷ bs) = bit (good b) + good_in good bs

-- good and not used
abbrev pub spare : (ℕ → Bool) → (ℕ → Bool) → ℕ → Bool
spare good used b = elim (used b) [ true ↦ false | false ↦ good b ]

-- allocation asked again and again until it answers -28: the blocks handed out, in order
pub data SpentWindow (n l : ℕ) (seen : Seen) : Lookahead → List ℕ → Lookahead → Type 0 where
  last : {w : Lookahead} → (alloc_of (scope n l) seen w).answer ≡ Err refusal.NoSpace → SpentWindow n l seen w [] (alloc_of (scope n l) seen w).window
  more : {w v : Lookahead} {bs : List ℕ} (b : ℕ) → (alloc_of (scope n l) seen w).answer ≡ Ok b → SpentWindow n l seen (alloc_of (scope n l) seen w).window bs v → SpentWindow n l seen w (b ∷ bs) v

abbrev pub enough : ℕ → Bool → Bool
enough zero t = true
enough (suc m) t = t

abbrev pub on_answer : Answer → (ℕ → Bool) → Bool
on_answer (Ok b) f = f b
on_answer (Err e) f = false

-- allocation asked until m good blocks were handed out (true), or it answers a number below 0 (false); at most f times
unfoldable pub ask_of : ℕ → (ℕ → Bool) → ℕ → ℕ → Seen → ℕ → Lookahead → Bool
ask_of zero good n l seen m w = false
ask_of (suc f) good n l seen m w =
    enough m (on_answer (alloc_of (scope n l) seen w).answer (λ b. ask_of f good n l seen (m - bit (good b)) (alloc_of (scope n l) seen w).window))

-- On the circle of base, the marks of window w say what is used, and beyond what is left of it that is what is listed.
pub record Knows (n l : ℕ) (listed : List ℕ) (used : ℕ → Bool) (base : ℕ) (w : Lookahead) : Type 0 where
  pub valid : ValidWindow w n l
  pub says : Says (exactly used) n w
  pub on : On base n w
  pub later : (k : ℕ) → n - w.ckpoint + (w.size - w.next) ≤ k → k < n → has listed ((base + k) % n) ≡ used ((base + k) % n)

-- WITHIN ONE CALL, from any window: the blocks `out` were handed out, the last first. `all` holds for every choice of the good ones.
pub record ExactCall (n l : ℕ) (listed : List ℕ) (used : ℕ → Bool) (w : Lookahead) (out : List ℕ) : Type 1 where
  pub base : ℕ
  pub base_lt : base < n
  pub knows : Knows n l listed used base w
  pub all : (good : ℕ → Bool) → good_unused good n used ≡ good_in good out + good_in good (unused_from base n used w.ckpoint)

-- a list in order onto one that has the last first
abbrev pub onto_last : List ℕ → List ℕ → List ℕ
onto_last [] out = out
onto_last (b ∷ bs) out = onto_last bs (b ∷ out)

-- Blocks are asked for until m good ones came (true) or the answer is -28 (false): what a write does, growth by growth, whatever it does between the
-- allocations, as long as the visits hand over what they did. The blocks handed out stand in order.
pub data Needs (n l : ℕ) (listed : List ℕ) (good : ℕ → Bool) : ℕ → Lookahead → List ℕ → Lookahead → Bool → Type 0 where
  done : {w : Lookahead} → Needs n l listed good 0 w [] w true
  good_one : {m : ℕ} {w v : Lookahead} {out : List ℕ} {r : Bool} (b : ℕ) (seen : Seen) → Lists n listed seen → (alloc_of (scope n l) seen w).answer ≡ Ok b → good b ≡ true
      → Needs n l listed good m (alloc_of (scope n l) seen w).window out v r → Needs n l listed good (suc m) w (b ∷ out) v r
  bad_one : {m : ℕ} {w v : Lookahead} {out : List ℕ} {r : Bool} (b : ℕ) (seen : Seen) → Lists n listed seen → (alloc_of (scope n l) seen w).answer ≡ Ok b → good b ≡ false
      → Needs n l listed good (suc m) (alloc_of (scope n l) seen w).window out v r → Needs n l listed good (suc m) w (b ∷ out) v r
  no_space : {m : ℕ} {w : Lookahead} (seen : Seen) → Lists n listed seen → (alloc_of (scope n l) seen w).answer ≡ Err refusal.NoSpace
      → Needs n l listed good (suc m) w [] (alloc_of (scope n l) seen w).window false
