use Prim.Native.Nat.{◌*◌, ◌%◌, ◌^◌}
use mathlib.Core.Path.{◌≡◌}
use mathlib.Core.Bool.{Bool, true, false, cond}
use lib.Bits.{bit_or, or_zero_r}
use mir.Val.{bool_byte}
use native.Mathlib.Nat.{zero-mul}
use Rattle.masks.specs.Masks.{with_bit}
use Rattle.masks.proofs.Masks.{one_shifted, with_bit_is}
use Rattle.masks.proofs.with_passing.Goals as goal

pub returns : goal.returns
returns c =
    go c.args.passes
  where
    go : (b : Bool) → bit_or c.args.set (bool_byte b * 2 ^ c.args.k % 18446744073709551616) ≡ cond b (with_bit c.args.set c.args.k) c.args.set
    go true = rw (one_shifted c.args.k c.requires) (with_bit_is _ _)
    go false = rw (zero-mul (2 ^ c.args.k)) (or_zero_r c.args.set)
