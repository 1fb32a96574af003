-- `store::file::write_file` meets its contract: test by test, then the write and the change of the table. Assumes nothing.
use native.Mathlib.Omega.{arith}
use Rattle.store.proofs.Tested.{putting}
use Rattle.store.proofs.Files.{gives, finishes, file_far, file_large, file_none, file_some}
use Rattle.store.proofs.file.write_file.Goals as goal

pub returns-then-pos-gt-FILE_MAX : goal.returns-then-pos-gt-FILE_MAX
returns-then-pos-gt-FILE_MAX c =
    let a = c.args in
    gives (file_far a.b a.n a.l a.image.now a.health.now a.w a.t a.i a.pos a.«data».now c.if-pos-gt-FILE_MAX.true) c.left.ensures

pub returns-then-pos-data : goal.returns-then-pos-data
returns-then-pos-data c =
    let a = c.args in
    let h = c.if-pos-gt-FILE_MAX.false in
    gives (file_large a.b a.n a.l a.image.now a.health.now a.w a.t a.i a.pos a.«data».now h (omega (arith, c.if-pos-data.true)))
    c.left-then-pos-data.ensures

pub returns-then-data-eq0 : goal.returns-then-data-eq0
returns-then-data-eq0 c =
    let a = c.args in
    let h = c.if-pos-gt-FILE_MAX.false in
    gives (file_none a.b a.n a.l a.image.now a.health.now a.w a.t a.i a.pos a.«data».now h (omega (arith, c.if-pos-data.false))
    c.if-data-eq0.true) c.left-then-data-eq0.ensures

pub put-wrote-requires : goal.put-wrote-requires
put-wrote-requires c =
    putting c.requires _ _ (omega (arith, c.if-pos-gt-FILE_MAX.false, c.if-pos-data.false))

pub returns : goal.returns
returns c =
    let a = c.args in
    let h = c.if-pos-gt-FILE_MAX.false in
    rw (file_some a.b a.n a.l a.image.now a.health.now a.w a.t a.i a.pos a.«data».now h (omega (arith, c.if-pos-data.false)) c.if-data-eq0.false)
    (finishes a.t a.i c.put-wrote.ensures c.finish.ensures)
