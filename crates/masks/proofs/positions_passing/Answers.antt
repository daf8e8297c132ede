use mathlib.Core.Path.{refl, sym, ◌∙◌}
use native.Mathlib.Omega.{arith}
use Rattle.masks.specs.Masks.{mask}
use Rattle.masks.proofs.Masks.{mask_more}
use Rattle.masks.proofs.positions_passing.Goals as goal

pub loop-k-init : goal.loop-k-init
unfolding mask
loop-k-init g c = (omega arith, refl)

pub loop-k-preserved : goal.loop-k-preserved
loop-k-preserved g c =
    let l = c.loop-k in
    (omega arith, c.with_passing-set.ensures ∙ rw (l.invariant.1, c.requires.1.1.1 _ _ c.loop-k-test.true c.passes.ensures) (sym (mask_more _ _)))
