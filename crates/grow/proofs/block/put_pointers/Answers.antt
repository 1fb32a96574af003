-- `grow::block::put_pointers` meets its contract: the pointers from the first on are those that are left from `x` on. Assumes nothing.
use mathlib.Core.Path.{refl, ◌∙◌}
use Prim.Native.Nat.{◌*◌, ◌-◌}
use native.Mathlib.Omega.{arith}
use Rattle.std.proofs.lemmas.Result.{err_from_is_err_and}
use Rattle.device.proofs.Blanks.{blank_part}
use Rattle.grow.proofs.Rooms.{room_of, asked_of, gives}
use Rattle.grow.proofs.Pointers.{put_start, words_blank, put_done, put_damaged, put_spoiled, put_turn}
use borrow.Author.Rules.{rules}
use Rattle.grow.proofs.block.put_pointers.Goals as goal

pub loop-x-init : goal.loop-x-init
loop-x-init c =
    (search rules, refl, put_start _ _ _ _ _ _ _ _, blank_part (4 * 0) (4 * (c.args.count - 0)) (omega arith) (omega arith) c.requires.2)

pub returns-then-n-cur : goal.returns-then-n-cur
returns-then-n-cur c =
    let a = c.args in
    gives _ _
    (c.loop-x.invariant.2
    ∙ put_damaged a.health.now a.b a.n a.k (4 * a.count) a.count c.loop-x.x c.loop-x.cur c.loop-x.image (search rules) (search rules))

pub program_word-requires : goal.program_word-requires
program_word-requires c =
    (room_of _ _ _ c.requires.0 c.loop-x.invariant.1 (omega arith), blank_part _ _ (omega arith) (omega arith) c.loop-x.invariant.3)

pub returns-in_err-program_word : goal.returns-in_err-program_word
returns-in_err-program_word c =
    let a = c.args in
    let p = err_from_is_err_and c.from_residual.result c.from_residual.ensures.1 in
    rw (p.1, p.2)
    (gives _ _
    (c.loop-x.invariant.2
    ∙ put_spoiled a.health.now a.b a.n a.k (4 * a.count) a.count c.loop-x.x c.loop-x.cur c.loop-x.image (search rules) (search rules)
    c.program_word.ensures c.in_err-program_word.was))

pub pointer-cur-requires : goal.pointer-cur-requires
pointer-cur-requires c =
    asked_of _ _ _ c.requires.0 (omega (arith, c.program_word.auto.image)) (omega arith) (omega arith)

pub loop-x-preserved : goal.loop-x-preserved
loop-x-preserved c =
    let a = c.args in (
      search rules,
      search rules,
      c.loop-x.invariant.2
          ∙ put_turn a.health.now a.b a.n a.k (4 * a.count) a.count c.loop-x.x c.loop-x.cur c.loop-x.image (search rules) (search rules)
          c.program_word.ensures _ c.in_ok-program_word.was c.pointer-cur.ensures,
      words_blank a.health.now a.count c.loop-x.x c.loop-x.cur (search rules) c.program_word.ensures
          c.loop-x.invariant.3,
    )

pub returns : goal.returns
returns c =
    let a = c.args in
    gives _ _
    (c.loop-x.invariant.2
    ∙ put_done a.health.now a.b a.n a.k (4 * a.count) a.count c.loop-x.x c.loop-x.cur c.loop-x.image (search rules))
