use Rattle.queues.proofs.Ring.{round_below, round_above}
use mathlib.Core.Path.{sym}
use Rattle.queues.specs.Ring.{index}
use Rattle.queues.proofs.index_of.Goals as goal

pub returns-then-x-n : goal.returns-then-x-n
unfolding index
returns-then-x-n c = rw c.word.ensures (sym (round_below _ _ (rw (c.word.ensures, c.word-n.ensures) at c.if-x-n.true)))

pub returns : goal.returns
unfolding index
returns c = rw (c.word.ensures, c.word-n.ensures) (sym (round_above _ _ (rw (c.word.ensures, c.word-n.ensures) at c.if-x-n.false)))
