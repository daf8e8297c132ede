use mathlib.Core.Path.{sym, ◌∙◌}
use lib.ListN.{length-set}
use Rattle.program_writing.proofs.Writer.{written_more, written_none}
use Rattle.program_writing.proofs.write_digits.Goals as goal

pub loop-k-preserved : goal.loop-k-preserved
loop-k-preserved c =
    let d = c.loop-k in
    (simp length-set d.invariant.0, d.invariant.1 ∙ written_more _ _ _ _ c.loop-k-test.true ∙ rw c.capital_of.ensures)

pub returns : goal.returns
returns c = sym (c.loop-k.invariant.1 ∙ written_none _ _ _ _ c.loop-k-test.false)
