use native.Mathlib.Omega.{arith}
use Rattle.picture.proofs.Records.{positions_named}
use Rattle.entering.specs.Entry.{entered}
use Rattle.entering.proofs.enter.Goals as goal

pub number_of-requires : goal.number_of-requires
number_of-requires c = (c.requires.1, omega (arith, c.requires.0.1.0, positions_named c.args.t))

pub returns : goal.returns
unfolding entered
returns c = rw (c.count_entry.ensures, c.write_record.ensures, c.number_of.ensures)
