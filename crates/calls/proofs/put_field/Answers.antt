use Rattle.calls.proofs.put_field.Goals as goal

pub returns : goal.returns
returns c = rw (c.put.ensures, c.slot_of.ensures.0)
