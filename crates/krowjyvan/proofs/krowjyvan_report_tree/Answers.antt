-- The lines that are stored are the report's.
use mathlib.Core.Path.{◌∙◌}
use mir.Syntax.{w32}
use mir.ValLaws.{to_z-of_z}
use borrow.Author.Rules.{rules}
use Rattle.report_lines.proofs.Order.{length_lines}
use Rattle.krowjyvan.specs.Lines.{lines_longwords}
use Rattle.krowjyvan.proofs.krowjyvan_report_tree.Goals as goal

pub put_lines-requires : goal.put_lines-requires
put_lines-requires c = let e = c.in-Ok.ensures in rw length_lines e.1

pub returns-in-Ok : goal.returns-in-Ok
returns-in-Ok c = let e = c.in-Ok.ensures in (e.0, (rw (← e.2, length_lines), c.put_lines.ensures ∙ rw e.2))

pub returns-in-Err : goal.returns-in-Err
unfolding lines_longwords
returns-in-Err c = let e = c.in-Err.ensures in (to_z-of_z w32 c.from.result (record { sfits = search rules }) ∙ c.from.ensures ∙ e.0, (rw (← e.1), rw (← e.1)))
