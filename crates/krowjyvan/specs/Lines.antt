-- The lines of a report for a hub in C, which lends a table of longwords: five a line (rule 129).
use Rattle.std.specs.Prelude.{ℕ, ◌/◌, List, [], ◌∷◌, ◌++◌, length}
use Rattle.report_lines.specs.declared.JobLine.{JobLine}
use Rattle.report_table.specs.Longwords.{line_longwords}

-- how many lines a table lends
abbrev pub lines_lent : List ℕ → ℕ
lines_lent table = length table / 5

-- the longwords of lines, one after the other
unfoldable pub lines_longwords : List JobLine → List ℕ
lines_longwords [] = []
lines_longwords (line ∷ lines) = line_longwords line ++ lines_longwords lines
