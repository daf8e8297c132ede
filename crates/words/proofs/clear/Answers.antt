use Rattle.words.proofs.Words.{clear_end, clear_more}
use mathlib.Core.Path.{sym, ◌∙◌}
use Rattle.words.proofs.clear.Goals as goal

pub loop-i-preserved : goal.loop-i-preserved
loop-i-preserved c = c.loop-i.invariant ∙ clear_more _ _ _ c.loop-i-test.true ∙ rw c.put.ensures

pub returns : goal.returns
returns c = sym (c.loop-i.invariant ∙ clear_end _ _ _ c.loop-i-test.false)
