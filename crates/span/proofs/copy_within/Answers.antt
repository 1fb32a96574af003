-- `span::copy_within` meets its contract: what the library pastes is a run of stores. Assumes nothing.
use Prim.Native.Nat.{◌+◌, ◌-◌}
use mathlib.Core.Path.{◌≡◌, sym}
use native.Mathlib.Omega.{arith}
use lib.ListN.{length, take, drop, length-drop}
use lib.Seq.{sets-eq, length-take-le}
use Rattle.span.proofs.copy_within.Goals as goal

pub returns : goal.returns
returns c =
    let a = c.args in
    let from : a.from + a.n - a.from ≡ a.n = omega arith in
    let run = take a.n (drop a.from a.s.now) in
    let all : length run ≡ a.n = length-take-le a.n (drop a.from a.s.now) (simp length-drop (omega arith)) in
    rw (c.copy_within.ensures.after, from) (rw all at (sym (sets-eq run a.s.now a.to (omega arith))))
