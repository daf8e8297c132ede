use Rattle.picture.specs.Layout.{positions}
use Rattle.picture.specs.declared.Table.TheVariants.{Jobs}
use Rattle.ending.specs.Remove.{at_rest}
use mathlib.Core.Path.{◌≡◌, sym, ap}
use mathlib.Core.Bool.{not}
use Rattle.words.proofs.Each.{every_not, every_next}
use Rattle.ending.specs.Remove.{inactive}
use native.Mathlib.Omega.{arith}
use Rattle.ending.proofs.is_inactive.Goals as goal

pub returns-then-is_member-is_active : goal.returns-then-is_member-is_active
unfolding inactive at_rest
returns-then-is_member-is_active c =
    let s = c.args in
    sym (every_not (at_rest s.p.now s.set) (positions Jobs) c.loop-k.k c.loop-k-test.true (ap not (rw (c.is_active.ensures, c.is_member.ensures) at c.if-is_member-is_active.true)))

pub loop-k-preserved : goal.loop-k-preserved
unfolding at_rest
loop-k-preserved c =
    let s = c.args in
    (omega arith, every_next (at_rest s.p.now s.set) c.loop-k.k c.loop-k.invariant.1 (ap not (rw (c.is_active.ensures, c.is_member.ensures) at c.if-is_member-is_active.false)))

pub returns : goal.returns
unfolding inactive
returns c = let e : c.loop-k.k ≡ positions Jobs = omega arith in sym (rw e at c.loop-k.invariant.1)
