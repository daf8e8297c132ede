use Rattle.std.proofs.Common.{rules}
use Rattle.sound.proofs.Fused.{tested_is}
use Rattle.sound.specs.Test.{tested}
use Rattle.sound.proofs.is_sound.Goals as goal

pub returns-then-is_half_fine : goal.returns-then-is_half_fine
unfolding tested
returns-then-is_half_fine c = rw (← tested_is _) (search rules)

pub returns-else-is_half_fine : goal.returns-else-is_half_fine
unfolding tested
returns-else-is_half_fine c = rw (← tested_is _) (search rules)
