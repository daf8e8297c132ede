use native.Mathlib.Omega.{arith}
use Rattle.blocks.proofs.Walk.{next_le}
use Rattle.sound_areas.proofs.is_untouched.Goals as goal

pub overflow_add-next : goal.overflow_add-next
overflow_add-next c = let n = next_le c.args.p.now c.args.i c.args.e in let r = c.next_block-next.ensures in omega arith
