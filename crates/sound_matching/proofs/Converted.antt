-- A test as a number is what `one` says of it.
use Prim.Native.Nat.{◌≤◌}
use mathlib.Core.Path.{◌≡◌, refl}
use mathlib.Core.Bool.{Bool, true, false}
use native.Mathlib.Omega.{arith}
use mir.Val.{bool_byte}
use Rattle.words.specs.Each.{one}

pub one_converted : (b : Bool) → bool_byte b ≡ one b
one_converted true = refl
one_converted false = refl

pub one_small : (b : Bool) → one b ≤ 1
one_small true = omega arith
one_small false = omega arith
