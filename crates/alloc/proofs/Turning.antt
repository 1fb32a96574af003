-- An allocation, search by search: what is left of it from the window as it stands. Assumes nothing.
use mathlib.Core.Path.{◌≡◌, refl, ap, sym, ◌∙◌}
use Prim.Native.Nat.{ℕ, zero, suc, ◌+◌, ◌≤◌, ◌<◌}
use native.Mathlib.Omega.{arith}
use Rattle.std.specs.Prelude.{Option, Some, None, Result, Ok, Err}
use Rattle.layout.specs.declared.Refusal.{Refusal}
use Rattle.layout.specs.declared.Refusal.TheVariants.{NoSpace}
use Rattle.window.specs.declared.Lookahead.{Lookahead}
use Rattle.window.specs.declared.Windowed.{Windowed}
use Rattle.window.specs.Allocate.{take_of, alloc_by, alloc_of}
use Rattle.window.specs.Scan.{Seen, scan_of}
use Rattle.window.specs.inner.Facts.{ValidWindow, GoodScope, scope}
use Rattle.window.proofs.Turns.{left, alloc_block, alloc_none, alloc_refused, alloc_again, again_valid, again_less}

-- a search that used the window up at count 0 ends the allocation
pub ends_at_zero : (n l : ℕ) (seen : Seen) (k : ℕ) (v : Lookahead) → (take_of n v).answer ≡ None → (take_of n v).window.ckpoint ≡ 0
    → alloc_by (suc k) (scope n l) seen v ≡ record { answer = Err NoSpace; window = (take_of n v).window }
ends_at_zero n l seen k v e z = alloc_none n l seen v (take_of n v) refl e k z

module _ (n l : ℕ) (seen : Seen) (v₀ : Lookahead) where
  -- the allocation from the window v₀ comes to that from the window v, with `spare` searches more than one
  pub record Allocating (v : Lookahead) : Type 0 where
    pub spare : ℕ
    pub valid : ValidWindow v n l
    pub enough : left v ≤ spare
    pub rest : alloc_by (suc spare) (scope n l) seen v ≡ alloc_of (scope n l) seen v₀

  pub allocating : ValidWindow v₀ n l → Allocating v₀
  unfolding alloc_of
  allocating g = record {
    spare = v₀.ckpoint + 1;
    valid = g;
    enough = omega arith;
    rest = ap (λ (k : ℕ). alloc_by k (scope n l) seen v₀) (omega arith);
  }

  one_less : (v : Lookahead) {u : Lookahead} (k : ℕ) → ValidWindow u n l → left u < left v → left v ≤ k
      → ((j : ℕ) → alloc_by (suc j) (scope n l) seen v ≡ alloc_by j (scope n l) seen u) → alloc_by (suc k) (scope n l) seen v ≡ alloc_of (scope n l) seen v₀ → Allocating u
  one_less v zero g a b s e = absurd (omega arith)
  one_less v (suc k) g a b s e = record { spare = k; valid = g; enough = omega arith; rest = sym (s (suc k)) ∙ e }

  module _ {v : Lookahead} (a : Allocating v) {r : Windowed (Option ℕ)} (p : r ≡ take_of n v) where
    pub answers_block : {b : ℕ} → r.answer ≡ Some b → record { answer = Ok b; window = r.window } ≡ alloc_of (scope n l) seen v₀
    answers_block e = sym (alloc_block n l seen v r p a.spare _ e) ∙ a.rest

    module _ (e : r.answer ≡ None) where
      module _ (z : r.window.ckpoint ≡ 0 → ⊥) {s : Windowed (Result Unit Refusal)} (q : s ≡ scan_of (scope n l) seen r.window) where
        pub answers_refused : (x : Refusal) → s.answer ≡ Err x → record { answer = Err x; window = s.window } ≡ alloc_of (scope n l) seen v₀
        answers_refused x o = sym (alloc_refused n l seen v r p e z s q a.spare x o) ∙ a.rest

        module _ (o : s.answer ≡ Ok tt) (h : GoodScope n l) where
          pub less_left : left s.window < left v
          less_left = again_less n l seen v r p e z s q o a.valid h

          pub allocates_on : Allocating s.window
          allocates_on =
              one_less v a.spare (again_valid n l seen v r p e z s q o a.valid) less_left a.enough
              (alloc_again n l seen v r p e z s q o) a.rest
