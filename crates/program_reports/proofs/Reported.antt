-- What a report in a table of its own gives.
use Prim.Native.Nat.{ℕ, ◌≤◌}
use mathlib.Core.Path.{◌≡◌, sym, ap}
use mathlib.Core.Bool.{true, false}
use mathlib.Core.List.{List, [], ◌∷◌, map}
use native.Mathlib.Omega.{arith}
use lib.ListN.{length, take}
use lib.Seq.{sets}
use Rattle.words.specs.Signed.{bits, eq_z}
use Rattle.picture.specs.Keys.{done}
use Rattle.picture.specs.Layout.{positions}
use Rattle.picture.specs.declared.Table.TheVariants.{Jobs}
use Rattle.program_writing.proofs.Room.{first_of}
use Rattle.report_lines.specs.Report.{report_key, report_lines}
use Rattle.report_lines.specs.declared.JobLine.{JobLine}
use Rattle.report_lines.proofs.Report.{lines_within}
use Rattle.report_table.specs.Answer.{report_answer}
use Rattle.report_table.specs.Longwords.{line_longwords}
use Rattle.report_table.specs.declared.Report.{Report}
use Rattle.program_reports.specs.Reports.{reported}

module _ (p : List ℕ) (top : ℕ) (r : Report) (e : r ≡ report_answer p top (positions Jobs)) where
  key_is : report_key p top (positions Jobs) ≡ r.key
  unfolding report_answer
  key_is = sym (ap (λ (s : Report). s.key) e)

  count_is : r.count ≡ length (report_lines p top (positions Jobs))
  unfolding report_answer
  count_is = ap (λ (s : Report). s.count) e

  pub count_within : r.count ≤ positions Jobs
  count_within = rw count_is (lines_within p top (positions Jobs))

  pub reported_refused : eq_z r.key done ≡ false → reported p top ≡ (bits r.key ∷ []) ∷ []
  unfolding reported
  reported_refused f = rw (key_is, f)

  pub reported_told : eq_z r.key done ≡ true → (a ls : List JobLine) → 64 ≤ length a → ls ≡ sets a 0 (report_lines p top (positions Jobs)) → map line_longwords (take r.count ls) ≡ reported p top
  unfolding reported
  reported_told f a ls l g =
      let w = lines_within p top (positions Jobs) in
      let h = first_of a (report_lines p top (positions Jobs)) (omega arith) in
      rw (key_is, f, count_is, g, h)
