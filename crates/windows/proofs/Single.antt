-- One allocation on a clean window, with no call around it. Assumes nothing.
use mathlib.Core.Path.{◌≡◌, refl, ap, ◌∙◌, sym}
use mathlib.Core.Bool.{false}
use mathlib.Core.List.{List}
use Prim.Native.Nat.{ℕ, ◌+◌, ◌<◌}
use native.Mathlib.Nat.{mod-lt}
use Rattle.span.specs.Members.{has}
use Rattle.std.specs.Prelude.{Ok}
use Rattle.window.specs.declared.Lookahead.{Lookahead}
use Rattle.window.specs.Allocate.{alloc_of, Answer}
use Rattle.window.specs.Scan.{Seen}
use Rattle.window.specs.inner.Facts.{ValidWindow, GoodScope, scope}
use Rattle.windows.proofs.Views.{cleanly, View, handed, full, bad, Tells, CleanWindow}
use Rattle.windows.proofs.Alloc.{some_on, alloc_view}
use Rattle.windows.proofs.Answers.{block_eq, not_block, not_damaged}

module _ {n l : ℕ} {listed : List ℕ} {seen : Seen} {w : Lookahead} (z : GoodScope n l) (g : ValidWindow w n l) (c : CleanWindow n listed w) (t : Tells n listed seen) where
  -- THEOREM. The block handed out is one of the card, and no file has it.
  pub handed_out : {b : ℕ} → (alloc_of (scope n l) seen w).answer ≡ Ok b → (b < n) × (has listed b ≡ false)
  handed_out {b} e =
      go (alloc_view (cleanly listed) _ n l seen z t.low (λ ok x. t.cover ok x) w g c (some_on n l w g)).view e
    where
      go : {base : ℕ} {q : Answer} {v : Lookahead} → View (cleanly listed) base n seen.ok w.ckpoint q v → q ≡ Ok b
          → (b < n) × (has listed b ≡ false)
      go {base} (handed {b = k} h o) e =
          let same : k ≡ b = block_eq k b e in (
            rw (sym same ∙ h.is) (mod-lt (base + h.place) z.n_pos),
            ap (λ (x : ℕ). has listed x) (sym same) ∙ h.says refl,
          )
      go (full _ _ _) e = not_block b _ e
      go (bad _ _ _) e = not_damaged b _ e
