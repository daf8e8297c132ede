-- What a report answers (rule 108): "the key and how many lines were written, 0 with a refusal".
use Rattle.std.specs.Prelude.{ℕ, List, length}
use Rattle.report_lines.specs.Report.{report_key, report_lines}
use Rattle.report_table.specs.declared.Report.{Report}

unfoldable pub report_answer : List ℕ → ℕ → ℕ → Report
report_answer p top lent = record { key = report_key p top lent; count = length (report_lines p top lent) }
