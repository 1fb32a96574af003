-- `turned` hands back the index from which blocks are noted, where the block asked for is one of them. Assumes nothing.
use Rattle.finding.proofs.turned.Goals as goal

pub note-requires : goal.note-requires
note-requires c =
    record {
      list = c.requires.list;
      inside = c.requires.inside;
      reached = c.requires.reached;
      long = c.requires.held.long;
    }
