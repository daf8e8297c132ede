use Rattle.std.proofs.Common.{arith}
use Rattle.program_digits.proofs.Reader.{digits_part}
use Rattle.program_lines.proofs.Meaning.{report_left_over, report_whole}
use Rattle.program_lines.proofs.frames.read_report.Goals as goal

pub number_at-requires-clause-good : goal.number_at-requires-clause-good
number_at-requires-clause-good c = digits_part _ 0 _ 2 8 c.requires (omega arith)

pub returns-then-line-eq-REPORT : goal.returns-then-line-eq-REPORT
returns-then-line-eq-REPORT c = report_whole _ c.if-line-eq-REPORT.true _ c.number_at.ensures.value

pub returns-else-line-eq-REPORT : goal.returns-else-line-eq-REPORT
returns-else-line-eq-REPORT c = report_left_over _ c.if-line-eq-REPORT.false
