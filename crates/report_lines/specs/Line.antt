-- One line of a report (rule 107): "number, owner, depth below the top, priority, suspended or not".
use Rattle.std.specs.Prelude.{ℕ, zero, suc, cond, not, List, eqb, pos}
use Rattle.words.specs.Signed.{eq_z}
use Rattle.picture.specs.Layout.{positions}
use Rattle.picture.specs.Records.{owner, priority, timeout}
use Rattle.picture.specs.Numbers.{position}
use Rattle.picture.specs.declared.Table.TheVariants.{Jobs}
use Rattle.report_lines.specs.declared.JobLine.{JobLine}

-- how many steps from a job to its owner lead from position k up to position t, at most n
unfoldable pub depth_within : ℕ → List ℕ → ℕ → ℕ → ℕ
depth_within zero p t k = 0
depth_within (suc n) p t k = let d = depth_within n p t (position (owner p Jobs k)) in cond (eqb k t) 0 (suc d)

-- "depth below the top": in plain words `deeper` of `Lines` (law_report/specs/Lines.antt)
unfoldable pub depth : List ℕ → ℕ → ℕ → ℕ
depth p t k = depth_within (positions Jobs) p t k

-- the line of the job of number n in the tree of the job at position t
unfoldable pub line : List ℕ → ℕ → ℕ → JobLine
line p t n = record {
  number = n;
  owner = owner p Jobs (position n);
  depth = depth p t (position n);
  priority = priority p (position n);
  suspended = not (eq_z (timeout p (position n)) (pos 0));
}
