use Rattle.std.proofs.Common.{◌≡◌, ◌≤◌, length, take}
use Rattle.program_session.specs.Rooms.{Roomy, Known}
use Rattle.program_session.proofs.running.answer_each.Given as goal

-- `program_session::running::answer_each` meets its contract: there is an input after which the state is the one that is held. Assumes nothing.
abbrev pub invariant-loop : goal.invariant-loop
invariant-loop l = (l.kept ≤ length l.line) × (Roomy l.line l.out) × (Known l.p (take l.kept l.line) l.written) × (length l.p ≡ length l.initial.p) × (length l.chunk ≡ length l.initial.chunk) × (length l.line ≡ length l.initial.line) × (length l.out ≡ length l.initial.out)
