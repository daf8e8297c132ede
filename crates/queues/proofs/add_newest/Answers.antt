use native.Mathlib.Omega.{arith}
use Rattle.queues.proofs.Ring.{index_below}
use Rattle.queues.specs.Ring.{sent}
use Rattle.queues.proofs.add_newest.Goals as goal

pub write_byte-requires : goal.write_byte-requires
write_byte-requires c =
    let R = c.requires.1.0 in
    let m = R.most in
    let h = R.held in
    let x = index_below c.args.p.now c.args.i R _ h in
    ((c.requires.0.0, rw (c.index_of-j.ensures, c.word-count.ensures) (omega arith)), c.requires.0.1)

pub returns : goal.returns
unfolding sent
returns c = rw (c.put.ensures, c.write_byte.ensures, c.index_of-j.ensures, c.word-count.ensures)
