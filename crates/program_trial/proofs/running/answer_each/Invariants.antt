use Rattle.std.proofs.Common.{◌≤◌, length}
use Rattle.program_trial.proofs.running.answer_each.Given as goal

-- the line stays within its room
abbrev pub invariant-loop : goal.invariant-loop
invariant-loop l = l.kept ≤ length l.line
