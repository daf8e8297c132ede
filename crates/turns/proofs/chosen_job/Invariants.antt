use Prim.Native.Nat.{◌-◌, ◌≤◌}
use mathlib.Core.Path.{◌≡◌}
use Rattle.picture.specs.declared.Table.TheVariants.{Jobs}
use Rattle.picture.specs.Layout.{positions}
use Rattle.turns.specs.Pick.{chosen_below}
use Rattle.turns.proofs.chosen_job.Given as goal

abbrev pub invariant-loop-k : goal.invariant-loop-k
invariant-loop-k l = (l.m ≤ positions Jobs) × (l.k ≤ positions Jobs) × (l.m ≡ chosen_below l.p l.k)

abbrev pub decreases-loop-k : goal.decreases-loop-k
decreases-loop-k l = positions Jobs - l.k
