-- Any store call on any state, sound or not: a refused one hands the table back as it came. Assumes nothing.
use mathlib.Core.Path.{◌≡◌, refl}
use mathlib.Core.Logic.{◌⊎◌, inl, inr}
use Prim.Native.Nat.{ℕ}
use lib.IntN.{pos, negsuc}
use Rattle.std.specs.Prelude.{Result, Ok, Err}
use Rattle.layout.specs.Refusals.{refusal_code}
use Rattle.layout.specs.declared.Refusal.{Refusal}
use Rattle.layout.specs.declared.Refusal.TheVariants as refusal
use Rattle.files.specs.declared.Table.{Table}
use Rattle.files.specs.Change.{changed}
use Rattle.files.proofs.Kept.{create_cases, remove_cases}
use Rattle.grow.specs.Setting.{Setting, State}
use Rattle.store.specs.Store.{StoreOut}
use Rattle.store.proofs.Refusals as refusals
use Rattle.demands.specs.Calls.{Call, create, remove, write, truncate, look, Left, changed_in, stored_in, after}

-- accepted; refused, with all as it came; or -28 or -84, with the table as it came
pub data AnyEnd (s : State) (o : Left) : Type 0 where
  done : o.code ≡ pos 0 → AnyEnd s o
  unchanged : (k : ℕ) → o.code ≡ negsuc k → o.state ≡ s → AnyEnd s o
  stopped : (k : ℕ) → (k ≡ 27) ⊎ (k ≡ 83) → o.code ≡ negsuc k → o.state.table ≡ s.table → AnyEnd s o

module _ (s : State) where
  abbrev t : Table
  t = s.table

  -- a refusal that leaves all as it came
  refused_all : (r : Refusal) → AnyEnd s (record { code = refusal_code r; state = s })
  refused_all refusal.Missing = unchanged 1 refl refl
  refused_all refusal.TableFull = unchanged 11 refl refl
  refused_all refusal.Exists = unchanged 16 refl refl
  refused_all refusal.Invalid = unchanged 21 refl refl
  refused_all refusal.TooLarge = unchanged 26 refl refl
  refused_all refusal.NoSpace = unchanged 27 refl refl
  refused_all refusal.Damaged = unchanged 83 refl refl

  -- a create or remove that is not accepted hands the table back
  refused_any : (a : Result (Unit {0}) Refusal) → (a ≡ Ok tt → ⊥) → AnyEnd s (changed_in s (changed a t))
  refused_any (Ok u) n = absurd (n refl)
  refused_any (Err r) n = refused_all r

  stored_any : {o : StoreOut} → refusals.Ends s.window t s.image o → AnyEnd s (stored_in o)
  stored_any (refusals.kept (Ok u)) = done refl
  stored_any (refusals.kept (Err r)) = refused_all r
  stored_any (refusals.done w i size head image) = done refl
  stored_any (refusals.full w image) = stopped 27 (inl refl) refl refl
  stored_any (refusals.damaged w image) = stopped 83 (inr refl) refl refl

-- Each call ends in one of these ways, whatever it is given.
pub any_end : (g : Setting) (c : Call) (s : State) → AnyEnd s (after g c s)
unfolding after
any_end g (create number) s = create_cases s.table number (λ o. AnyEnd s (changed_in s o)) (refused_any s) (λ q. done refl)
any_end g (remove number) s = remove_cases s.table number (λ o. AnyEnd s (changed_in s o)) (refused_any s) (λ q. done refl)
any_end g (write w) s =
    stored_any s (refusals.write_ends g.B g.N g.L s.image g.health s.window s.table w.number w.position w.bytes)
any_end g (truncate t) s =
    stored_any s (refusals.truncate_ends g.B g.N g.L s.image g.health s.window s.table t.number t.size)
any_end g look s = done refl
