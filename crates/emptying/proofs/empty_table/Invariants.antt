use mathlib.Core.Path.{◌≡◌}
use Prim.Native.Nat.{◌≤◌, ◌-◌}
use lib.ListN.{length}
use Rattle.emptying.specs.Taken.{blanked}
use Rattle.emptying.specs.Each.{each}
use Rattle.emptying.proofs.empty_table.Given as goal

abbrev pub invariant-loop-k : goal.invariant-loop-k
invariant-loop-k l = (l.k ≤ l.k-end) × ((length l.p ≡ length l.initial.p) × (l.p ≡ each (blanked l.t l.set) l.k l.initial.p))

abbrev pub decreases-loop-k : goal.decreases-loop-k
decreases-loop-k l = l.k-end - l.k
