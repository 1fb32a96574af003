-- `store::file::truncate_file` meets its contract: test by test; a growth's zeros are a gap up to the new size. Assumes nothing.
use mathlib.Core.Path.{sym}
use native.Mathlib.Omega.{arith}
use Rattle.store.proofs.Tested.{putting, shrinking}
use Rattle.store.proofs.Files.{gives, finishes, shrinks_keeps, cut_far, cut_shrinks, cut_same, cut_grows}
use Rattle.store.proofs.file.truncate_file.Goals as goal

pub returns-then-size-gt-FILE_MAX : goal.returns-then-size-gt-FILE_MAX
returns-then-size-gt-FILE_MAX c =
    let a = c.args in
    gives (cut_far a.b a.n a.l a.image.now a.health.now a.w a.t a.i a.size c.if-size-gt-FILE_MAX.true) c.left.ensures

pub shrink-requires : goal.shrink-requires
shrink-requires c = shrinking c.requires _ c.if-size-old.true

pub returns-then-size-old : goal.returns-then-size-old
returns-then-size-old c =
    let a = c.args in
    rw (cut_shrinks a.b a.n a.l a.image.now a.health.now a.w a.t a.i a.size c.if-size-gt-FILE_MAX.false c.if-size-old.true)
    (record { stored = c.shrink.ensures; image = sym (shrinks_keeps _ _ _ _ _ _ _).0 })

pub returns-then-size-old-2 : goal.returns-then-size-old-2
returns-then-size-old-2 c =
    let a = c.args in
    gives (cut_same a.b a.n a.l a.image.now a.health.now a.w a.t a.i a.size c.if-size-gt-FILE_MAX.false c.if-size-old.false c.if-size-old-2.true)
    c.left-then-size-old-2.ensures

pub put-wrote-requires : goal.put-wrote-requires
put-wrote-requires c =
    putting c.requires _ _ (omega (arith, c.if-size-gt-FILE_MAX.false))

pub returns : goal.returns
returns c =
    let a = c.args in
    rw (cut_grows a.b a.n a.l a.image.now a.health.now a.w a.t a.i a.size c.if-size-gt-FILE_MAX.false c.if-size-old.false c.if-size-old-2.false)
    (finishes a.t a.i c.put-wrote.ensures c.finish.ensures)
