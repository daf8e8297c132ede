use Prim.Native.Nat.{ℕ, ◌<◌, ◌≤◌}
use native.Mathlib.Omega.{arith}
use Rattle.picture.specs.Layout.{last_word, heap_base}
use Rattle.picture.specs.declared.Table.{Table}
use Rattle.picture.specs.declared.Table.TheVariants.{Jobs, Channels}
use Rattle.picture.proofs.Members.{positions_within, length_with_members}
use Rattle.masks.proofs.Masks.{with_bit_fits}
use Rattle.entering.specs.Entry.{counted}
use Rattle.entering.proofs.count_entry.Goals as goal

within : (t : Table) (n : ℕ) → heap_base ≤ n → last_word t < n
within Jobs n l = omega arith
within Channels n l = omega arith

pub with_member-requires : goal.with_member-requires
with_member-requires c = omega (arith, c.requires.1, positions_within c.args.t)

pub put_members-requires : goal.put_members-requires
put_members-requires c = (c.requires.0, rw c.with_member.ensures (with_bit_fits _ _ _ c.requires.1 c.members_at-set.ensures.1))

pub put_at-requires : goal.put_at-requires
put_at-requires c = rw (c.last_of.ensures, c.put_members.ensures, length_with_members c.args.p.now c.args.t c.with_member.result) (within c.args.t _ c.requires.0)

pub returns : goal.returns
unfolding counted
returns c = rw (c.put_at.ensures, c.last_of.ensures, c.put_members.ensures, c.with_member.ensures, c.members_at-set.ensures.0)
