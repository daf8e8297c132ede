use native.Mathlib.Omega.{arith}
use Rattle.picture.proofs.Records.{shared, all_zero_cleared}
use Rattle.entering.specs.Entry.{recorded}
use borrow.Author.Rules.{rules}
use Rattle.entering.proofs.write_record.Goals as goal

pub put_field-requires : goal.put_field-requires
put_field-requires c = (c.requires.0, (c.requires.1.0, shared c.args.t _ (omega arith)))

pub put_field-requires-2 : goal.put_field-requires-2
put_field-requires-2 c = (search rules, (c.requires.1.0, shared c.args.t _ (omega arith)))

pub put_field-requires-3 : goal.put_field-requires-3
put_field-requires-3 c = (search rules, (c.requires.1.0, shared c.args.t _ (omega arith)))

pub returns : goal.returns
unfolding recorded
returns c = rw (c.put_field-3.ensures, c.put_field-2.ensures, c.put_field.ensures, all_zero_cleared c.args.p.now c.args.t c.args.k c.requires.1.1)
