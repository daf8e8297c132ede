use Rattle.picture.specs.Layout.{positions}
use Rattle.picture.specs.declared.Table.TheVariants.{Jobs}
use mathlib.Core.Path.{◌≡◌}
use Prim.Native.Nat.{◌≤◌, ◌-◌}
use Rattle.asking.specs.Next.{next_below}
use Rattle.asking.proofs.next_member.Given as goal

abbrev pub invariant-loop-k : goal.invariant-loop-k
invariant-loop-k l = (l.k ≤ positions Jobs) × (l.n ≡ next_below l.k l.p l.set l.tag)

abbrev pub decreases-loop-k : goal.decreases-loop-k
decreases-loop-k l = positions Jobs - l.k
