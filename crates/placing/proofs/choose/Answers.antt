use Rattle.std.proofs.Common.{refl, sym, ◌∙◌, arith}
use Rattle.blocks.proofs.Starts.{starts_rising, rising_weaker}
use Rattle.placing.specs.Place.{chosen}
use Rattle.placing.proofs.choose.Goals as goal

pub loop-i-init : goal.loop-i-init
loop-i-init c = rw (c.into_iter-i-iterator.ensures.into_iter_gives, c.new-i-items.ensures) (tt, tt, refl, starts_rising _ _ _, refl)

pub loop-i-preserved : goal.loop-i-preserved
loop-i-preserved c =
    let v = c.loop-i.invariant in
    let z = c.in-Some.ensures.steps in
    let r = rw z at v.3 in
    (tt, tt, v.2, rising_weaker _ _ _ _ (omega arith) r.1.1, v.4 ∙ rw (z, sym c.is_fit.ensures ∙ c.if-is_fit.false))

pub returns-in-None : goal.returns-in-None
unfolding chosen
returns-in-None c = let v = c.loop-i.invariant in v.2 ∙ sym (v.4 ∙ rw c.in-None.ensures.steps.0)

pub returns-then-is_fit : goal.returns-then-is_fit
unfolding chosen
returns-then-is_fit c = sym (c.loop-i.invariant.4 ∙ rw (c.in-Some.ensures.steps, sym c.is_fit.ensures ∙ c.if-is_fit.true))
