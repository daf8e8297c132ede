use Rattle.ending.specs.Ended.{returned}
use Rattle.ending.proofs.return_blocks.Goals as goal

pub returns : goal.returns
unfolding returned
returns c = rw (c.sweep-2.ensures, c.sweep.ensures, c.area_upto-end.ensures.0, c.area_upto-middle.ensures.0)
