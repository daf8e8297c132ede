use Rattle.asking.specs.Ask.{room}
use borrow.Author.Tests.{eq-eqb, ne_eqb}
use Rattle.asking.proofs.room_of.Goals as goal

pub returns-then-k-eq0 : goal.returns-then-k-eq0
unfolding room
returns-then-k-eq0 c = rw (eq-eqb _ _ c.if-k-eq0.true)

pub returns : goal.returns
unfolding room
returns c = rw (ne_eqb _ _ c.if-k-eq0.false, c.field_of.ensures)
