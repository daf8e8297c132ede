use Rattle.fresh.proofs.Clear.{cleared_all}
use Rattle.fresh.specs.Fresh.{fresh}
use Rattle.fresh.proofs.write_fresh.Goals as goal

pub returns : goal.returns
unfolding fresh
returns c = rw (c.put-6.ensures, c.put-5.ensures, c.put-4.ensures, c.put-3.ensures, c.put_members.ensures, c.put-2.ensures, c.put.ensures, c.clear.ensures, cleared_all c.args.p.now c.args.n c.requires.0)
