-- `files::valid_entry` meets its contract: each test that led to a return settles a part of `entry_ok`. Assumes nothing.
use mathlib.Core.Path.{◌∙◌}
use borrow.Author.Tests.{le-leb, lt-leb}
use Rattle.files.specs.Table.{entry_ok}
use Rattle.files.proofs.Laws.{entry_last, head_empty, head_some}
use Rattle.files.proofs.valid_entry.Goals as goal

pub returns-then-e-least : goal.returns-then-e-least
unfolding entry_ok
returns-then-e-least c = simp (lt-leb _ _ c.if-e-least.true)

pub returns-then-e-gt-NUMBER_MAX : goal.returns-then-e-gt-NUMBER_MAX
unfolding entry_ok
returns-then-e-gt-NUMBER_MAX c = simp (le-leb _ _ c.if-e-least.false, lt-leb _ _ c.if-e-gt-NUMBER_MAX.true)

pub returns-then-e-gt-FILE_MAX : goal.returns-then-e-gt-FILE_MAX
unfolding entry_ok
returns-then-e-gt-FILE_MAX c =
    simp (le-leb _ _ c.if-e-least.false, le-leb _ _ c.if-e-gt-NUMBER_MAX.false, lt-leb _ _ c.if-e-gt-FILE_MAX.true)

pub returns-then-e-eq0 : goal.returns-then-e-eq0
returns-then-e-eq0 c =
    head_empty _ c.if-e-eq0.true ∙ entry_last _ _ c.if-e-least.false c.if-e-gt-NUMBER_MAX.false c.if-e-gt-FILE_MAX.false

pub returns : goal.returns
returns c =
    head_some _ c.if-e-eq0.false ∙ entry_last _ _ c.if-e-least.false c.if-e-gt-NUMBER_MAX.false c.if-e-gt-FILE_MAX.false
