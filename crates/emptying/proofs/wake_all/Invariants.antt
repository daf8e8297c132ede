use Rattle.picture.specs.Layout.{positions}
use Rattle.picture.specs.declared.Table.TheVariants.{Jobs}
use mathlib.Core.Path.{◌≡◌}
use Prim.Native.Nat.{◌≤◌, ◌-◌}
use lib.ListN.{length}
use Rattle.emptying.specs.Taken.{woken}
use Rattle.emptying.specs.Each.{each}
use Rattle.emptying.proofs.wake_all.Given as goal

abbrev pub invariant-loop-k : goal.invariant-loop-k
invariant-loop-k l = (l.k ≤ positions Jobs) × ((length l.p ≡ length l.initial.p) × (l.p ≡ each (woken l.set l.key) l.k l.initial.p))

abbrev pub decreases-loop-k : goal.decreases-loop-k
decreases-loop-k l = positions Jobs - l.k
