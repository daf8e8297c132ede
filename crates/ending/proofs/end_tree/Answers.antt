use Rattle.ending.specs.Ended.{ended}
use Rattle.ending.proofs.end_tree.Goals as goal

pub returns : goal.returns
unfolding ended
returns c = rw (c.take_entries.ensures, c.return_blocks.ensures, c.field_of.ensures, c.channels_of-channels.ensures, c.tree_of-tree.ensures)
