-- The report of a tree (rules 106 and 107): "an unsound picture answers -16, a top that isn't live -2, a table too short -5; none writes a line".
use Rattle.std.specs.Prelude.{ℕ, cond, List, [], ◌∷◌, leb, ℤ, ◌≡◌, ◌≤◌, Result, Ok, Err}
use Rattle.words.specs.Signed.{eq_z}
use Rattle.picture.specs.Answers.{refusal_key}
use Rattle.picture.specs.declared.Refusal.{Refusal}
use Rattle.picture.specs.Keys.{done, buffer_overflow, not_sound}
use Rattle.picture.specs.Numbers.{job_at}
use Rattle.sound.specs.Sound.{sound}
use Rattle.calls.specs.Call.{Check, verdict}
use Rattle.calls.specs.Found.{job_check, place_of_job}
use Rattle.tree.specs.Tree.{tree}
use Rattle.report_lines.specs.declared.Lines.{Lines}
use Rattle.report_lines.specs.declared.JobLine.{JobLine}
use Rattle.report_lines.specs.Order.{size, lines_from}

-- a line for each member of the tree of the job at position t, whose number is `top`
unfoldable pub tree_lines : List ℕ → ℕ → ℕ → List JobLine
tree_lines p t top = lines_from (size (tree p t)) p (tree p t) t top

-- the checks in order, for a table of `lent` lines
unfoldable pub report_checks : List ℕ → ℕ → ℕ → List Check
report_checks p top lent =
    (sound p, not_sound) ∷
    job_check (job_at p top) ∷
    (leb (size (tree p (place_of_job p top))) lent, buffer_overflow) ∷ []

unfoldable pub report_key : List ℕ → ℕ → ℕ → ℤ
report_key p top lent = verdict (report_checks p top lent)

-- the lines that are written: none with a refusal
unfoldable pub report_lines : List ℕ → ℕ → ℕ → List JobLine
report_lines p top lent = cond (eq_z (report_key p top lent) done) (tree_lines p (place_of_job p top) top) []

-- the lines that are still to come
abbrev pub lines_left : Lines → List JobLine
lines_left lines = lines_from lines.count lines.picture.now lines.members lines.top lines.number

-- a report that has begun is done, the lines to come are the report's, and so are those of its members below its top from `top` on; one that is refused
-- has the refusal's key, and no line
abbrev pub Begins : List ℕ → ℕ → ℕ → Result Lines Refusal → Type 0
Begins p top lent (Ok lines) = (done ≡ report_key p top lent) × (lines.count ≤ lent) × (lines_left lines ≡ report_lines p top lent)
    × (lines_from lines.count p lines.members lines.top top ≡ report_lines p top lent)
Begins p top lent (Err refusal) = (refusal_key refusal ≡ report_key p top lent) × ([] ≡ report_lines p top lent)
