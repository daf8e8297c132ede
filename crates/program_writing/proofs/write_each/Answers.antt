use mathlib.Core.Path.{refl, sym, ◌∙◌}
use Rattle.program_writing.proofs.Writer.{words_more, words_none, length_written}
use native.Mathlib.Omega.{arith}
use Rattle.program_writing.proofs.write_each.Goals as goal

pub loop-word-init : goal.loop-word-init
loop-word-init c = (omega arith, refl, refl)

pub loop-word-preserved : goal.loop-word-preserved
loop-word-preserved c =
    let d = c.loop-word in
    (omega arith, rw c.write_digits.ensures (length_written _ _ _ _ ∙ d.invariant.1), d.invariant.2 ∙ words_more _ _ _ _ c.loop-word-test.true ∙ rw c.write_digits.ensures)

pub returns : goal.returns
returns c = let d = c.loop-word in sym (d.invariant.2 ∙ words_none _ _ _ _ c.loop-word-test.false)
