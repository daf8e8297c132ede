-- Each key of a report is given only for its cause (rule 106), both ways and in order: "an unsound picture answers -16, a top that isn't live -2, a table too short -5; none writes a line".
use Rattle.std.specs.Prelude.{ℕ, ◌≤◌, ◌<◌, ◌≡◌, true, false, List, [], ℤ, length}
use Rattle.picture.specs.Keys.{done, invalid_job, buffer_overflow, not_sound}
use Rattle.picture.specs.Numbers.{position, live}
use Rattle.picture.specs.declared.Table.TheVariants.{Jobs}
use Rattle.sound.specs.Sound.{sound}
use Rattle.tree.specs.Tree.{tree}
use Rattle.report_lines.specs.Order.{size}
use Rattle.report_lines.specs.Report.{tree_lines, report_key, report_lines}
use Rattle.law_report.specs.Lines.{Lines}

-- the key is k exactly where there is this cause
pub record Exactly (cause : Type 0) (key k : ℤ) : Type 0 where
  pub given : cause → key ≡ k
  pub only : key ≡ k → cause

-- the keys of a report of the tree of the job `top`, for a table of `lent` lines
pub record ReportKeys (p : List ℕ) (top lent : ℕ) : Type 0 where
  pub unsound : Exactly (sound p ≡ false) (report_key p top lent) not_sound
  pub dead : Exactly ((sound p ≡ true) × (live p Jobs top ≡ false)) (report_key p top lent) invalid_job
  -- a table too short has fewer lines than the tree has members
  pub short : Exactly ((sound p ≡ true) × ((live p Jobs top ≡ true) × (lent < size (tree p (position top))))) (report_key p top lent) buffer_overflow
  pub told : Exactly ((sound p ≡ true) × ((live p Jobs top ≡ true) × (size (tree p (position top)) ≤ lent))) (report_key p top lent) done
  -- "none writes a line"
  pub no_line : (report_key p top lent ≡ done → ⊥) → report_lines p top lent ≡ []

abbrev pub ReportOnlyForItsCause : Type 0
ReportOnlyForItsCause = (p : List ℕ) (top lent : ℕ) → ReportKeys p top lent

-- the size of the tree of a live job is how many lines the tree has, whatever is lent
abbrev pub AsManyLinesAsMembers : Type 0
AsManyLinesAsMembers = (p : List ℕ) (top : ℕ) → sound p ≡ true → live p Jobs top ≡ true
    → Lines p (position top) (tree_lines p (position top) top) × (length (tree_lines p (position top) top) ≡ size (tree p (position top)))
