use Rattle.asking.specs.Ask.{answered}
use Rattle.asking.proofs.answer.Goals as goal

pub returns : goal.returns
unfolding answered
returns c = rw (c.put-5.ensures, c.put-4.ensures, c.room_of.ensures, c.put-3.ensures, c.standing_of.ensures, c.put-2.ensures, c.field_of-2.ensures, c.put.ensures, c.next_member.ensures, c.tree_of.ensures, c.tag_of-tag.ensures, c.field_of.ensures)
