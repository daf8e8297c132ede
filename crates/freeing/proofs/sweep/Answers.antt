use Rattle.freeing.proofs.Steps.{length_freed, length_joined, sweep_end, sweep_more}
use Rattle.freeing.specs.Sweep.{swept}
use Rattle.blocks.proofs.Walk.{next_falls}
use lib.ListN.{length}
use mathlib.Core.Path.{refl, sym, ap, ◌∙◌}
use Rattle.freeing.proofs.sweep.Goals as goal

pub loop-i-init : goal.loop-i-init
loop-i-init c = (refl, refl)

pub loop-i-smaller : goal.loop-i-smaller
loop-i-smaller c = next_falls _ _ _ _ c.next_block-end.ensures c.loop-i-test.true

pub loop-i-preserved : goal.loop-i-preserved
loop-i-preserved c =
    let v = c.loop-i.invariant in (
      ap length c.join_block.ensures ∙ length_joined _ _ _ _ ∙ ap length c.free_block.ensures ∙ length_freed _ _ _ _ ∙ v.0,
      v.1 ∙ sweep_more _ _ _ _ _ _ c.loop-i-test.true ∙ rw (c.join_block.ensures, c.run_start-s.ensures, c.free_block.ensures, c.next_block-end.ensures),
    )

pub shape_of-p : goal.shape_of-p
shape_of-p c = c.loop-i.invariant.0

pub returns : goal.returns
unfolding swept
returns c = sym (c.loop-i.invariant.1 ∙ sweep_end _ _ _ _ _ _ c.loop-i-test.false)
