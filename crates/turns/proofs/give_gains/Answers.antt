use lib.ListN.{length-set}
use mathlib.Core.Path.{◌≡◌, refl, ◌∙◌, ap}
use Rattle.picture.specs.Records.{accumulated_field}
use Rattle.picture.specs.declared.Table.TheVariants.{Jobs}
use Rattle.picture.specs.Layout.{positions}
use Rattle.turns.specs.Fields.{set_each}
use Rattle.turns.specs.Pick.{accumulated_after}
use Rattle.turns.proofs.Pick.{gain_ahead}
use Rattle.turns.proofs.Fields.{set_each_none, set_each_next}
use native.Mathlib.Omega.{arith}
use Rattle.turns.proofs.give_gains.Goals as goal

pub loop-k-init : goal.loop-k-init
loop-k-init c = (omega arith, refl, set_each_none c.args.p.now accumulated_field (accumulated_after c.args.p.now c.args.m))

pub loop-k-preserved : goal.loop-k-preserved
loop-k-preserved c =
    let d = c.loop-k in
    let a = c.args in
    (omega arith, rw c.put_field.ensures (simp length-set d.invariant.1), c.put_field.ensures ∙ set_each_next a.p.now accumulated_field (accumulated_after a.p.now a.m) d.p d.k c.accumulated_after-v.result d.invariant.2 ((rw c.new.ensures at c.accumulated_after-v.ensures) ∙ gain_ahead a.p.now d.p a.m d.k d.invariant.2))

pub returns : goal.returns
returns c =
    let a = c.args in
    let e : c.loop-k.k ≡ positions Jobs = omega arith in
    c.loop-k.invariant.2 ∙ ap (set_each a.p.now accumulated_field (accumulated_after a.p.now a.m)) e
