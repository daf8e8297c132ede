use Rattle.freeing.specs.Sweep.{sweep}
use Rattle.blocks.specs.Walk.{starts}
use lib.ListN.{length}
use Prim.Native.Nat.{◌-◌}
use mathlib.Core.Path.{◌≡◌}
use Rattle.freeing.proofs.sweep.Given as goal

abbrev pub invariant-loop-i : goal.invariant-loop-i
invariant-loop-i l = (length l.p ≡ length l.initial.p) × (sweep l.initial.p l.e l.set l.block l.e (starts l.initial.p l.base l.e) ≡ sweep l.p l.e l.set l.block l.r (starts l.p l.i l.e))

abbrev pub decreases-loop-i : goal.decreases-loop-i
decreases-loop-i l = l.e - l.i
