use Prim.Native.Nat.{◌+◌, ◌-◌, ◌<◌, ◌≤◌}
use mathlib.Core.Path.{◌≡◌}
use Rattle.picture.specs.Layout.{positions}
use Rattle.picture.specs.Numbers.{tag_weight}
use Rattle.picture.specs.declared.Table.TheVariants.{Jobs}
use Rattle.report_lines.specs.Line.{depth, depth_within}
use Rattle.report_lines.proofs.depth_of.Given as goal

abbrev pub invariant-loop-n : goal.invariant-loop-n
invariant-loop-n l = (l.n ≤ positions Jobs) × (l.j < tag_weight) × (depth l.p l.t l.k ≡ l.n + depth_within (positions Jobs - l.n) l.p l.t l.j)
