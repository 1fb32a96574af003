-- A window that came from store calls is valid, and clean for what is listed. Assumes nothing.
use mathlib.Core.Path.{◌≡◌, refl, ◌∙◌, sym}
use mathlib.Core.Bool.{true}
use mathlib.Core.List.{List, []}
use Prim.Native.Nat.{ℕ, ◌≤◌}
use native.Mathlib.Omega.{arith}
use Rattle.span.specs.Members.{has}
use Rattle.window.specs.declared.Lookahead.{Lookahead}
use Rattle.window.specs.Scan.{Seen, scan_of}
use Rattle.window.specs.Value.{checkpoint_of, fresh_of}
use Rattle.window.specs.inner.Facts.{ValidWindow, GoodScope, scope}
use Rattle.window.proofs.Kept.{fresh_valid}
use Rattle.windows.proofs.Views.{Became, During, Tells, fewer, fresh, stopped, wrote, WindowCame, Allocations, CleanWindow}
use Rattle.windows.proofs.InCall.{clean_after, running, still_clean, still_valid}
use Rattle.windows.proofs.Scan.{scan_exact}

-- a fresh window is clean for any list, and so is each that has nothing left
pub empty_clean : (n : ℕ) (listed : List ℕ) (w : Lookahead) → w.size ≤ w.next → CleanWindow n listed w
empty_clean n listed w h o a b = absurd (omega arith)

pub fresh_clean : (n l s : ℕ) (listed : List ℕ) → CleanWindow n listed (fresh_of (scope n l) s)
fresh_clean n l s listed = empty_clean n listed (fresh_of (scope n l) s) (omega arith)

-- a checkpoint keeps it
pub checkpoint_clean : (n : ℕ) (listed : List ℕ) (w : Lookahead) → CleanWindow n listed w → CleanWindow n listed (checkpoint_of n w)
checkpoint_clean n listed w c = c

-- a scan that succeeds makes it so, whatever the window was
pub scan_clean : (n l : ℕ) (listed : List ℕ) (seen : Seen) (w : Lookahead) → GoodScope n l → ValidWindow w n l → Tells n listed seen → seen.ok ≡ true
    → CleanWindow n listed (scan_of (scope n l) seen w).window
unfolding scan_of
scan_clean n l listed seen w z g t ok = rw ok (λ o a b e. t.cover ok _ (sym (scan_exact n l w seen.blocks z g t.low o b) ∙ e))

-- it survives when less is listed
pub fewer_clean : (n : ℕ) (listed now : List ℕ) (w : Lookahead) → Became listed [] now → CleanWindow n listed w → CleanWindow n now w
unfolding has
fewer_clean n listed now w h c o a b e = h _ (c o a b e) refl

-- THEOREM.
pub came : {n l : ℕ} {listed : List ℕ} {w : Lookahead} → GoodScope n l → WindowCame n l listed w → ValidWindow w n l × CleanWindow n listed w
came {n} {l} z (fresh s listed h) = (fresh_valid n l s h, fresh_clean n l s listed)
came {n} {w = w} z (fewer {listed = before} now c h) = let r = came z c in (r.0, fewer_clean n before now w h r.1)
came z (wrote now c r h) = let q = came z c in let d = running z q.0 q.1 r in (d.valid, clean_after now d h)
came {n} {l} {listed} z (stopped seen c r t e) =
    let q = came z c in let d = running z q.0 q.1 r in (still_valid n l listed seen z t d, still_clean n l listed seen z t d)

-- THEOREM. So, of each call on such a window: what it hands out is different, unlisted, below N, and no more in the window.
pub in_call : {n l : ℕ} {listed out : List ℕ} {w v : Lookahead} → GoodScope n l → WindowCame n l listed w → Allocations n l listed (checkpoint_of n w) out v → During n l listed v out
in_call z c r = let q = came z c in running z q.0 q.1 r
