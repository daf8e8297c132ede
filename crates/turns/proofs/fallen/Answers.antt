use mathlib.Core.Path.{◌≡◌, sym, ◌∙◌, subst}
use mathlib.Core.Bool.{false}
use lib.IntN.{pos, ◌-ℤ◌}
use lib.Signed.{le_z}
use mir.Syntax.{w32}
use mir.Val.{SFits}
use mir.ValLaws.{to_z-of_z}
use Rattle.turns.proofs.Tick.{at_most_zero, above_zero, fallen_fits}
use Rattle.turns.proofs.fallen.Goals as goal

pub returns-then-timeout-le0 : goal.returns-then-timeout-le0
returns-then-timeout-le0 c =
    let e = to_z-of_z w32 c.args.timeout c.ranges.timeout in
    e ∙ at_most_zero c.args.timeout (rw e at c.if-timeout-le0.true)

pub overflow_sub-result : goal.overflow_sub-result
overflow_sub-result c = rw (to_z-of_z w32 c.args.timeout c.ranges.timeout) ((let z : SFits w32 (c.args.timeout -ℤ pos 1) = let t = c.args.timeout in subst (SFits w32) (sym (above_zero t (let z : le_z c.args.timeout (pos 0) ≡ false = rw (to_z-of_z w32 c.args.timeout c.ranges.timeout) at c.if-timeout-le0.false in z))) (fallen_fits t c.ranges.timeout) in z))

pub returns : goal.returns
returns c =
    let t = c.args.timeout in
    rw (to_z-of_z w32 t c.ranges.timeout) (to_z-of_z w32 (t -ℤ pos 1) ((let z : SFits w32 (c.args.timeout -ℤ pos 1) = let t = c.args.timeout in subst (SFits w32) (sym (above_zero t (let z : le_z c.args.timeout (pos 0) ≡ false = rw (to_z-of_z w32 c.args.timeout c.ranges.timeout) at c.if-timeout-le0.false in z))) (fallen_fits t c.ranges.timeout) in z)) ∙ above_zero t ((let z : le_z c.args.timeout (pos 0) ≡ false = rw (to_z-of_z w32 c.args.timeout c.ranges.timeout) at c.if-timeout-le0.false in z)))
