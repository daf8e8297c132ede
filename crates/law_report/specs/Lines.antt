-- A report in words (rule 107): one line for each member of the tree, "in order of tag", the top first, and a "depth below the top" that is one more than the owner's.
use Rattle.std.specs.Prelude.{ℕ, suc, ◌<◌, ◌≡◌, true, false, List, pos, length, get_or}
use Rattle.picture.specs.Keys.{done}
use Rattle.picture.specs.Records.{number, owner, priority, timeout, used}
use Rattle.picture.specs.Numbers.{tag, position}
use Rattle.picture.specs.declared.Table.TheVariants.{Jobs}
use Rattle.law_owners.specs.Under.{Under}
use Rattle.report_lines.specs.declared.JobLine.{JobLine}
use Rattle.report_lines.specs.Report.{report_key, report_lines}

-- line i, and past the last one a line of zeros
abbrev pub at : List JobLine → ℕ → JobLine
at ls i = get_or ls i (record { number = 0; owner = 0; depth = 0; priority = 0; suspended = false })

-- the line l tells of the live job at position k, in the tree of the job at position t
pub record Tells (p : List ℕ) (t k : ℕ) (l : JobLine) : Type 0 where
  pub lives : used p Jobs k ≡ true
  pub under : Under p t k
  pub its_number : l.number ≡ number p Jobs k
  pub its_owner : l.owner ≡ owner p Jobs k
  pub its_priority : l.priority ≡ priority p k
  pub awake : timeout p k ≡ pos 0 → l.suspended ≡ false
  pub suspended : (timeout p k ≡ pos 0 → ⊥) → l.suspended ≡ true

-- the lines of the tree of the job at position t
pub record Lines (p : List ℕ) (t : ℕ) (ls : List JobLine) : Type 0 where
  -- a line tells of a live job that is the top or under it, and of nobody else
  pub only : (i : ℕ) → i < length ls → (k : ℕ) × Tells p t k (at ls i)
  -- each such job has a line
  pub each : (k : ℕ) → used p Jobs k ≡ true → Under p t k → (i : ℕ) × ((i < length ls) × ((at ls i).number ≡ number p Jobs k))
  -- and just one
  pub once : (i j : ℕ) → i < length ls → j < length ls → (at ls i).number ≡ (at ls j).number → i ≡ j
  -- tags rise from line to line
  pub rising : (i j : ℕ) → i < j → j < length ls → tag (at ls i).number < tag (at ls j).number
  -- the top's line is the first, with depth 0
  pub first : (0 < length ls) × (((at ls 0).number ≡ number p Jobs t) × ((at ls 0).depth ≡ 0))
  -- every other line stands behind its owner's, one deeper
  pub deeper : (i : ℕ) → 0 < i → i < length ls → (j : ℕ) × ((j < i) × (((at ls i).owner ≡ (at ls j).number) × ((at ls i).depth ≡ suc (at ls j).depth)))

-- a report that answers 0 has the lines of the tree of the job `top`
abbrev pub LinesOfTheTree : Type 0
LinesOfTheTree = (p : List ℕ) (top lent : ℕ) → report_key p top lent ≡ done → Lines p (position top) (report_lines p top lent)
