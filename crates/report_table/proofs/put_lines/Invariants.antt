-- The lines that are still to come stand behind those that are written, and there is room for them.
use Rattle.std.proofs.Common.{◌≡◌, ◌+◌, ◌≤◌, length}
use Rattle.std.proofs.lemmas.List.Edits.{sets}
use Rattle.std.specs.Iterator.Adapters.{enumerate_source, enumerate_count}
use Rattle.report_lines.specs.Report.{lines_left}
use Rattle.report_table.proofs.put_lines.Given as goal

abbrev pub invariant-loop-i : goal.invariant-loop-i
invariant-loop-i l =
    (enumerate_count l.i-iterator + length (lines_left (enumerate_source l.i-iterator)) ≤ length l.table)
    × (sets l.table (enumerate_count l.i-iterator) (lines_left (enumerate_source l.i-iterator)) ≡ sets l.initial.table 0 (lines_left l.fn.lines))
