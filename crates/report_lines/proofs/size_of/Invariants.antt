use Prim.Native.Nat.{◌≤◌, ◌-◌}
use mathlib.Core.Path.{◌≡◌}
use Rattle.words.specs.Bits.{bit}
use Rattle.words.specs.Each.{count}
use Rattle.picture.specs.Layout.{positions}
use Rattle.picture.specs.declared.Table.TheVariants.{Jobs}
use Rattle.report_lines.proofs.size_of.Given as goal

abbrev pub invariant-loop-k : goal.invariant-loop-k
invariant-loop-k l = (l.k ≤ positions Jobs) × ((l.n ≤ l.k) × (l.n ≡ count (bit l.members) l.k))

abbrev pub decreases-loop-k : goal.decreases-loop-k
decreases-loop-k l = positions Jobs - l.k
