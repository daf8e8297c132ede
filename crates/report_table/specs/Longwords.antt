-- A line of a report as longwords (rule 117): "five fields .. a line (suspended 1 or 0)".
use Rattle.std.specs.Prelude.{ℕ, List, [], ◌∷◌}
use Rattle.words.specs.Each.{one}
use Rattle.report_lines.specs.declared.JobLine.{JobLine}

abbrev pub line_longwords : JobLine → List ℕ
line_longwords l = l.number ∷ l.owner ∷ l.depth ∷ l.priority ∷ one l.suspended ∷ []
