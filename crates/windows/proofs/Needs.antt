-- A call that asks for blocks until it has m good ones: what its window and its blocks are. Assumes nothing.
use mathlib.Core.Path.{◌≡◌, refl, ap, ◌∙◌, sym}
use mathlib.Core.Bool.{Bool, false}
use mathlib.Core.List.{List, [], ◌∷◌}
use Prim.Native.Nat.{ℕ, suc, ◌+◌}
use native.Mathlib.Omega.{arith}
use borrow.Author.Tests.{le-leb, lt-leb}
use lib.Dec.{leb}
use Rattle.window.specs.declared.Lookahead.{Lookahead}
use Rattle.window.specs.Value.{checkpoint_of}
use Rattle.window.specs.inner.Facts.{ValidWindow, GoodScope}
use Rattle.windows.specs.Space.{used_for, good_unused}
use Rattle.windows.proofs.Views.{Became, During, fewer, is_block, more, start, stopped, wrote, WindowCame, Allocations}
use Rattle.windows.proofs.Asking.{Needs, bad_one, bit, done, good_one, good_in, no_space, ExactCall, onto_last}
use Rattle.windows.proofs.Exact.{good_cons, good_nil, lists_shows}
use Rattle.windows.proofs.InCall.{goes_on, stays}
use Rattle.windows.proofs.Listed.{lists_tells}
use Rattle.windows.proofs.Space.{exact_begins, exact_full, exact_goes}

-- THEOREM. Blocks are asked for until m good ones came, by steps of any kind: that fails with -28 exactly if fewer than m good blocks are not used.
needs_from : {n l : ℕ} {listed : List ℕ} {used good : ℕ → Bool} {m : ℕ} {w v : Lookahead} {out : List ℕ} {r : Bool} (before : List ℕ) → GoodScope n l
    → ExactCall n l listed used w before → Needs n l listed good m w out v r → r ≡ leb (good_in good before + m) (good_unused good n used)
needs_from {n} {l} {listed} {used} {good} before z s done = sym (le-leb (good_in good before + 0) (good_unused good n used) (omega (arith, s.all good)))
needs_from {n} {l} {listed} {used} {good} {r = r} before z s (good_one {m = m} b seen t e g rest) =
    let i = needs_from (b ∷ before) z (exact_goes n l listed used seen z (lists_shows t) b s e) rest in
    let j : bit (good b) ≡ 1 = ap (λ (x : Bool). bit x) g in
    let k : good_in good (b ∷ before) + m ≡ good_in good before + suc m = omega (arith, good_cons good b before) in
    i ∙ ap (λ (x : ℕ). leb x (good_unused good n used)) k
needs_from {n} {l} {listed} {used} {good} {r = r} before z s (bad_one {m = m} b seen t e g rest) =
    let i = needs_from (b ∷ before) z (exact_goes n l listed used seen z (lists_shows t) b s e) rest in
    let j : bit (good b) ≡ 0 = ap (λ (x : Bool). bit x) g in
    let k : good_in good (b ∷ before) + suc m ≡ good_in good before + suc m = omega (arith, good_cons good b before) in
    i ∙ ap (λ (x : ℕ). leb x (good_unused good n used)) k
needs_from {n} {l} {listed} {used} {good} before z s (no_space {m = m} seen t e) =
    sym (lt-leb (good_in good before + suc m) (good_unused good n used) (omega (arith, exact_full n l listed used seen z (lists_shows t) good s e)))

pub needs_exact : {n l : ℕ} {listed : List ℕ} {good : ℕ → Bool} {m : ℕ} {w v : Lookahead} {out : List ℕ} {r : Bool} → GoodScope n l → ValidWindow w n l
    → Needs n l listed good m (checkpoint_of n w) out v r → r ≡ leb m (good_unused good n (used_for n listed w))
needs_exact {n} {l} {listed} {good} {m} {w = w} z g q =
    let e : good_in good [] + m ≡ m = omega (arith, good_nil good) in
    needs_from [] z (exact_begins n l listed w g) q ∙ ap (λ (x : ℕ). leb x (good_unused good n (used_for n listed w))) e

-- THEOREM. And on any window: they are different, unlisted, below N, and no more in the window.
pub needs_during : {n l : ℕ} {listed : List ℕ} {good : ℕ → Bool} {m : ℕ} {w v : Lookahead} {out : List ℕ} {r : Bool} (before : List ℕ) → GoodScope n l
    → During n l listed w before → Needs n l listed good m w out v r → During n l listed v (onto_last out before)
needs_during before z s done = s
needs_during {n} {l} {listed} before z s (good_one b seen t e g rest) = needs_during (b ∷ before) z (goes_on n l listed seen z (lists_tells t) b s e) rest
needs_during {n} {l} {listed} before z s (bad_one b seen t e g rest) = needs_during (b ∷ before) z (goes_on n l listed seen z (lists_tells t) b s e) rest
needs_during {n} {l} {listed} before z s (no_space seen t e) = stays n l listed seen z (lists_tells t) s e

-- THEOREM. And it came from store calls again: a write that got its blocks lists no more than before and those; one that stopped, no more than before.
needs_came_from : {n l : ℕ} {listed : List ℕ} {good : ℕ → Bool} {m : ℕ} {w u v : Lookahead} {out before : List ℕ} {r : Bool} (now : List ℕ)
    → WindowCame n l listed w → Allocations n l listed (checkpoint_of n w) before u → Needs n l listed good m u out v r
    → Became listed (onto_last out before) now → (r ≡ false → Became listed [] now) → WindowCame n l now v
needs_came_from now c q done h f = wrote now c q h
needs_came_from now c q (good_one b seen t e g rest) h f = needs_came_from now c (more b seen q (lists_tells t) e) rest h f
needs_came_from now c q (bad_one b seen t e g rest) h f = needs_came_from now c (more b seen q (lists_tells t) e) rest h f
needs_came_from now c q (no_space seen t e) h f = fewer now (stopped seen c q (lists_tells t) (ap is_block e)) (f refl)

pub needs_came : {n l : ℕ} {listed : List ℕ} {good : ℕ → Bool} {m : ℕ} {w v : Lookahead} {out : List ℕ} {r : Bool} (now : List ℕ)
    → WindowCame n l listed w → Needs n l listed good m (checkpoint_of n w) out v r
    → Became listed (onto_last out []) now → (r ≡ false → Became listed [] now) → WindowCame n l now v
needs_came now c q h f = needs_came_from now c start q h f
