-- What a session's line F2 gives (rule 117): "five fields of 8 digits a line (suspended 1 or 0), or the key".
use Rattle.std.specs.Prelude.{ℕ, ◌*◌, cond, List, [], ◌∷◌, map, ℤ}
use Rattle.words.specs.Signed.{bits, eq_z}
use Rattle.picture.specs.Keys.{done}
use Rattle.picture.specs.Layout.{positions}
use Rattle.picture.specs.declared.Table.TheVariants.{Jobs}
use Rattle.report_lines.specs.Report.{report_key, report_lines}
use Rattle.report_lines.specs.declared.JobLine.{JobLine}
use Rattle.report_table.specs.Longwords.{line_longwords}

-- a line of an answer for each line of the report, or the key
abbrev pub told : ℤ → List JobLine → List (List ℕ)
told key ls = cond (eq_z key done) (map line_longwords ls) ((bits key ∷ []) ∷ [])

-- a session lends a line for every position
unfoldable pub reported : List ℕ → ℕ → List (List ℕ)
reported p top = told (report_key p top (positions Jobs)) (report_lines p top (positions Jobs))

-- a line is five longwords of eight digits and a line feed
abbrev pub line_width : ℕ
line_width = 41

-- and there are at most as many as positions
abbrev pub longest_report : ℕ
longest_report = line_width * positions Jobs
