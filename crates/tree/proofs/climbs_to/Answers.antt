use mathlib.Core.Path.{◌≡◌, sym, ◌∙◌}
use Prim.Native.Nat.{◌-◌, ◌+◌}
use native.Mathlib.Omega.{arith}
use Rattle.picture.specs.Layout.{positions}
use Rattle.picture.specs.declared.Table.TheVariants.{Jobs}
use Rattle.tree.proofs.Climb.{climbs_here, climbs_ends, climbs_stops, climbs_up}
use Rattle.tree.proofs.climbs_to.Goals as goal

pub returns-then-j-t : goal.returns-then-j-t
returns-then-j-t c = sym (c.loop.invariant.1 ∙ climbs_here _ _ _ _ c.if-j-t.true)

pub returns-then-owner : goal.returns-then-owner
returns-then-owner c = sym (c.loop.invariant.1 ∙ climbs_stops _ _ _ _ (omega arith) c.if-j-t.false (sym c.word-owner.ensures ∙ c.if-owner.true))

pub loop-preserved : goal.loop-preserved
loop-preserved c =
    let w = c.word-owner.ensures in
    let e : positions Jobs - c.loop.counter - 1 ≡ positions Jobs - (c.loop.counter + 1) = omega arith in
    (c.position_of-j.ensures.1, c.loop.invariant.1 ∙ climbs_up _ _ _ _ (omega arith) c.if-j-t.false (rw w at c.if-owner.false) ∙ rw (e, c.position_of-j.ensures.0, w))

pub returns : goal.returns
returns c = sym (c.loop.invariant.1 ∙ climbs_ends _ _ _ _ (omega arith))
