use Rattle.std.proofs.Common.{refl, sym, ◌∙◌, arith}
use Rattle.blocks.proofs.Starts.{starts_rising, rising_weaker}
use Rattle.placing.specs.Place.{longest}
use Rattle.placing.proofs.longest_free.Goals as goal

pub loop-i-init : goal.loop-i-init
loop-i-init c = rw (c.into_iter-i-iterator.ensures.into_iter_gives, c.new-i-items.ensures) (tt, tt, starts_rising _ _ _, refl)

pub loop-i-preserved : goal.loop-i-preserved
loop-i-preserved c =
    let v = c.loop-i.invariant in
    let z = c.in-Some.ensures.steps in
    let r = rw z at v.2 in
    (tt, tt, rising_weaker _ _ _ _ (omega arith) r.1.1, v.3 ∙ rw (z, c.longer_of-best.ensures))

pub returns : goal.returns
unfolding longest
returns c = sym (c.loop-i.invariant.3 ∙ rw c.in-None.ensures.steps.0)
