use Prim.Native.Nat.{◌≤◌}
use mathlib.Core.Path.{◌≡◌, ◌∙◌, ap}
use Rattle.picture.specs.declared.Table.TheVariants.{Jobs}
use Rattle.picture.specs.Layout.{positions}
use Rattle.turns.specs.Pick.{chosen_below, chosen_job}
use Rattle.turns.proofs.Pick.{chosen_none, chosen_next, preferred_within}
use native.Mathlib.Omega.{arith}
use Rattle.turns.proofs.chosen_job.Goals as goal

pub loop-k-init : goal.loop-k-init
loop-k-init c = (omega arith, omega arith, chosen_none c.args.p.now)

pub loop-k-preserved : goal.loop-k-preserved
loop-k-preserved c =
    let d = c.loop-k in
    let p = c.args.p.now in
    let l : c.preferred-m.result ≤ positions Jobs = rw c.preferred-m.ensures (preferred_within p d.m d.k c.loop-k-test.true d.invariant.0) in
    (l, omega arith, chosen_next p d.m d.k c.preferred-m.result d.invariant.2 c.preferred-m.ensures)

pub returns : goal.returns
unfolding chosen_job
returns c =
    let e : c.loop-k.k ≡ positions Jobs = omega arith in
    (c.loop-k.invariant.2 ∙ ap (chosen_below c.args.p.now) e, c.loop-k.invariant.0)
