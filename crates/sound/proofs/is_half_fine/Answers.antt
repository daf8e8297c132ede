use Rattle.sound_whole.proofs.Room.{tables_within, area_within}
use Rattle.sound.proofs.is_half_fine.Goals as goal

pub new-tables-requires : goal.new-tables-requires
new-tables-requires c = tables_within _ c.requires

pub walk_blocks-requires : goal.walk_blocks-requires
walk_blocks-requires c = (rw (c.new-tables.ensures, c.area_upto-e.ensures.0) (area_within _ c.requires c.area_of-a.result), c.area_upto-e.ensures.1)
