use Prim.Native.Nat.{ℕ, ◌-◌, ◌≤◌}
use lib.ListN.{length}
use mathlib.Core.Path.{◌≡◌}
use mathlib.Core.List.{List}
use Rattle.words.specs.Signed.{bits}
use Rattle.picture.specs.declared.Table.TheVariants.{Jobs}
use Rattle.picture.specs.Records.{timeout, timeout_field}
use Rattle.picture.specs.Layout.{positions}
use Rattle.turns.specs.Fields.{set_each}
use Rattle.turns.specs.Tick.{fallen}
use Rattle.turns.proofs.tick_frame.Given as goal

-- what position i of p gets
abbrev pub after : List ℕ → ℕ → ℕ
after p i = bits (fallen (timeout p i))

abbrev pub invariant-loop-k : goal.invariant-loop-k
invariant-loop-k l = (l.k ≤ positions Jobs) × (length l.p ≡ length l.initial.p) × (l.p ≡ set_each l.initial.p timeout_field (after l.initial.p) l.k)

abbrev pub decreases-loop-k : goal.decreases-loop-k
decreases-loop-k l = positions Jobs - l.k
