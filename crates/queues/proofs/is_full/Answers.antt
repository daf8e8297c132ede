use Rattle.queues.specs.Ring.{full}
use Rattle.queues.proofs.is_full.Goals as goal

pub returns : goal.returns
unfolding full
returns c = rw (c.word-2.ensures, c.word.ensures)
