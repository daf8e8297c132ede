use mathlib.Core.Path.{◌≡◌}
use Prim.Native.Nat.{◌+◌, ◌-◌}
use native.Mathlib.Omega.{arith}
use Rattle.picture.specs.Layout.{positions}
use Rattle.picture.specs.declared.Table.TheVariants.{Jobs}
use Rattle.report_lines.specs.Line.{depth}
use Rattle.report_lines.proofs.Depth.{found_here, found_last, passes_up}
use Rattle.report_lines.proofs.depth_of.Goals as goal

pub loop-n-init : goal.loop-n-init
unfolding depth
loop-n-init c = (omega arith, omega arith, omega arith)

pub returns-then-j-t : goal.returns-then-j-t
returns-then-j-t c = found_here _ _ _ _ _ _ c.loop-n.invariant.2 c.if-j-t.true

pub loop-n-preserved : goal.loop-n-preserved
loop-n-preserved c =
    let e : positions Jobs - c.loop-n.n - 1 ≡ positions Jobs - (c.loop-n.n + 1) = omega arith in
    (omega arith, c.position_of-j.ensures.1, rw e at (passes_up _ _ _ _ _ _ c.loop-n.invariant.2 (omega arith) c.if-j-t.false _ _ c.word-owner.ensures c.position_of-j.ensures.0))

pub returns : goal.returns
returns c =
    let n : c.loop-n.n ≡ positions Jobs = omega arith in
    let l : positions Jobs - c.loop-n.n ≡ 0 = omega arith in
    rw n at (found_last _ _ _ _ _ _ c.loop-n.invariant.2 l)
