use Rattle.std.proofs.Common.{◌≤◌, length}
use Rattle.program_trial.proofs.running.take_all.Given as goal

-- the line stays within its room
abbrev pub invariant-loop-character : goal.invariant-loop-character
invariant-loop-character l = l.kept ≤ length l.line
