use mathlib.Core.Path.{◌∙◌}
use Rattle.report_lines.proofs.Order.{length_lines}
use Rattle.report_table.specs.Answer.{report_answer}
use Rattle.report_table.proofs.report_tree.Goals as goal

pub put_lines-requires : goal.put_lines-requires
put_lines-requires c = let e = c.in-Ok.ensures in rw length_lines e.1

pub returns-in-Ok : goal.returns-in-Ok
unfolding report_answer
returns-in-Ok c = let e = c.in-Ok.ensures in (rw (← e.0, ← e.2, length_lines), c.put_lines.ensures ∙ rw e.2)
