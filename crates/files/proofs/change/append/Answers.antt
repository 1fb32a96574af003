-- `files::change::append` meets its contract: the copied part is the files stored one after another. Assumes nothing.
use borrow.Author.Rules.{rules}
use Rattle.files.proofs.Turns.{append_copied}
use Rattle.files.proofs.change.append.Goals as goal

pub returns : goal.returns
returns c = append_copied _ _ _ _ _ (search rules) c.requires c.copy_from_slice.ensures.after
