use mathlib.Core.Path.{◌≡◌}
use Prim.Native.Nat.{◌+◌, ◌-◌}
use native.Mathlib.Omega.{arith}
use Rattle.masks.proofs.Masks.{without_bit_le}
use Rattle.channels.specs.Effects.{forgotten}
use Rattle.channels.proofs.forget.Goals as goal

pub put_members-requires : goal.put_members-requires
put_members-requires c =
    let l = without_bit_le c.members_at.result c.args.k in
    rw c.without_member-left.ensures (omega (arith, c.members_at.ensures.1))

pub returns : goal.returns
unfolding forgotten
returns c =
    let z : c.slot_of-slot.result + c.width_of.result - c.slot_of-slot.result ≡ c.width_of.result = omega arith in
    rw (c.put_members.ensures, c.clear.ensures, z, c.width_of.ensures, c.slot_of-slot.ensures.0, c.without_member-left.ensures, c.members_at.ensures.0)
