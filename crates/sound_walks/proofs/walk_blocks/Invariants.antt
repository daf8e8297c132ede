use Rattle.sound_walks.proofs.Left.{Left}
use Prim.Native.Nat.{◌-◌}
use Rattle.sound_walks.proofs.walk_blocks.Given as goal

abbrev pub invariant-loop-i : goal.invariant-loop-i
invariant-loop-i l = Left l.p l.t l.b l.e l.i l.found

abbrev pub decreases-loop-i : goal.decreases-loop-i
decreases-loop-i l = l.e - l.i
