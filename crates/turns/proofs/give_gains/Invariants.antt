use Prim.Native.Nat.{◌-◌, ◌≤◌}
use lib.ListN.{length}
use mathlib.Core.Path.{◌≡◌}
use Rattle.picture.specs.Records.{accumulated_field}
use Rattle.picture.specs.declared.Table.TheVariants.{Jobs}
use Rattle.picture.specs.Layout.{positions}
use Rattle.turns.specs.Fields.{set_each}
use Rattle.turns.specs.Pick.{accumulated_after}
use Rattle.turns.proofs.give_gains.Given as goal

abbrev pub invariant-loop-k : goal.invariant-loop-k
invariant-loop-k l = (l.k ≤ positions Jobs) × (length l.p ≡ length l.initial.p) × (l.p ≡ set_each l.initial.p accumulated_field (accumulated_after l.initial.p l.m) l.k)

abbrev pub decreases-loop-k : goal.decreases-loop-k
decreases-loop-k l = positions Jobs - l.k
