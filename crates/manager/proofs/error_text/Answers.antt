use mir.ValLaws.{to_z-of_z}
use mir.Syntax.{w32}
use Rattle.manager.proofs.error_text.Goals as goal

pub returns : goal.returns
returns c = rw (to_z-of_z w32 c.args.key c.ranges.key) at c.error_text.ensures
