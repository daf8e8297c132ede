-- The longwords of the last tags lie before the heap.
use Prim.Native.Nat.{ℕ, ◌<◌, ◌≤◌}
use native.Mathlib.Omega.{arith}
use Rattle.picture.specs.Layout.{last_word, heap_base}
use Rattle.picture.specs.declared.Table.{Table}
use Rattle.picture.specs.declared.Table.TheVariants.{Jobs, Channels}

pub last_before : (t : Table) (n : ℕ) → heap_base ≤ n → last_word t < n
last_before Jobs n l = omega arith
last_before Channels n l = omega arith
