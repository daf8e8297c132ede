use Rattle.std.proofs.Common.{refl, sym, ◌∙◌, arith}
use Rattle.blocks.proofs.Starts.{starts_rising, rising_weaker}
use Rattle.memory.specs.Memory.{is_plain_room}
use Rattle.memory.proofs.is_plain_room.Goals as goal

pub loop-i-init : goal.loop-i-init
loop-i-init c = rw (c.into_iter-i-iterator.ensures.into_iter_gives, c.of_area-i-items.ensures) (tt, tt, starts_rising _ _ _, refl)

pub is_plain_at-requires : goal.is_plain_at-requires
is_plain_at-requires c = let r = rw c.in-Some.ensures.steps at c.loop-i.invariant.2 in omega (arith, c.type_inv.p 4)

pub loop-i-preserved : goal.loop-i-preserved
loop-i-preserved c =
    let v = c.loop-i.invariant in
    let z = c.in-Some.ensures.steps in
    let r = rw z at v.2 in
    (tt, tt, rising_weaker _ _ _ _ (omega arith) r.1.1, v.3 ∙ rw (z, sym c.is_plain_at.ensures ∙ c.if-is_plain_at.false))

pub returns-then-is_plain_at : goal.returns-then-is_plain_at
unfolding is_plain_room
returns-then-is_plain_at c = sym (c.loop-i.invariant.3 ∙ rw (c.in-Some.ensures.steps, sym c.is_plain_at.ensures ∙ c.if-is_plain_at.true))

pub returns : goal.returns
unfolding is_plain_room
returns c = sym (c.loop-i.invariant.3 ∙ rw c.in-None.ensures.steps.0)
