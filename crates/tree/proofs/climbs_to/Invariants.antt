use Rattle.picture.specs.Numbers.{tag_weight}
use mathlib.Core.Path.{◌≡◌}
use Prim.Native.Nat.{◌<◌, ◌-◌}
use Rattle.picture.specs.declared.Table.TheVariants.{Jobs}
use Rattle.picture.specs.Layout.{positions}
use Rattle.tree.specs.Tree.{climbs}
use Rattle.tree.proofs.climbs_to.Given as goal

abbrev pub invariant-loop : goal.invariant-loop
invariant-loop l = (l.j < tag_weight) × (climbs (positions Jobs) l.p l.t l.k ≡ climbs (positions Jobs - l.counter) l.p l.t l.j)
