-- How many longwords the room of a block has.
use Prim.Native.Nat.{ℕ, ◌+◌, ◌-◌, ◌/◌}
use mathlib.Core.Path.{◌≡◌}
use native.Mathlib.Omega.{arith}

pub room_count : (i n : ℕ) → (i + n / 4) - (i + 4) ≡ n / 4 - 4
room_count i n = omega arith
