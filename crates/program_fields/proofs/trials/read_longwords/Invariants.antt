use Rattle.std.proofs.Common.{length, ◌-◌, ◌≤◌}
use Rattle.program_fields.proofs.trials.read_longwords.Given as goal

-- the place stays within the field and the count within the picture; the measure is what is left of the field
abbrev pub invariant-loop-place : goal.invariant-loop-place
invariant-loop-place l = (l.place ≤ length l.field) × (l.count ≤ length l.p)

abbrev pub decreases-loop-place : goal.decreases-loop-place
decreases-loop-place l = length l.field - l.place
