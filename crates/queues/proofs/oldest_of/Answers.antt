use Rattle.queues.specs.Ring.{oldest_byte}
use Rattle.queues.proofs.oldest_of.Goals as goal

pub returns : goal.returns
unfolding oldest_byte
returns c = rw (c.read_byte.ensures, c.word.ensures)
