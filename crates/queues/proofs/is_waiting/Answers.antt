use Rattle.queues.specs.Ring.{waits}
use Rattle.queues.proofs.is_waiting.Goals as goal

pub returns : goal.returns
unfolding waits
returns c = rw c.word.ensures
