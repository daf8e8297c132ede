use native.Mathlib.Omega.{arith}
use Rattle.queues.proofs.Ring.{index_below, waits_some}
use Rattle.queues.specs.Ring.{fetched}
use Rattle.queues.proofs.take_oldest.Goals as goal

pub overflow_cast-next : goal.overflow_cast-next
overflow_cast-next c =
    let R = c.requires.1.0 in
    let l = waits_some _ _ c.requires.1.1 in
    let h = R.held in
    let m = R.most in
    let x = index_below c.args.p.now c.args.i R 1 (omega arith) in
    rw c.index_of-next.ensures (omega arith)

pub overflow_sub-count : goal.overflow_sub-count
overflow_sub-count c = rw c.word-count.ensures (waits_some _ _ c.requires.1.1)

pub returns : goal.returns
unfolding fetched
returns c = rw (c.put-2.ensures, c.put.ensures, c.word-count.ensures, c.index_of-next.ensures)
