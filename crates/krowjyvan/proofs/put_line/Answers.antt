use mathlib.Core.Path.{◌∙◌}
use native.Mathlib.Omega.{arith}
use Rattle.report_table.specs.Longwords.{line_longwords}
use Rattle.krowjyvan.proofs.Lines.{written_at}
use Rattle.krowjyvan.proofs.put_line.Goals as goal

pub returns : goal.returns
returns c = written_at c.args.table.now (line_longwords c.args.line) _ _ _ (omega arith) (omega arith) (c.copy_from_slice.ensures.after ∙ c.longwords_of.ensures)
