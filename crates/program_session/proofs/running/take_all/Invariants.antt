use Rattle.std.proofs.Common.{◌≡◌, ◌+◌, ◌-◌, ◌≤◌, length, take}
use Rattle.program_session.specs.Pieces.{with_line, after, gives}
use Rattle.program_session.specs.Rooms.{counted, Roomy, Held}
use Rattle.program_session.proofs.running.take_all.Given as goal

-- `program_session::running::take_all` meets its contract: what is held after each piece is the state after the characters taken, so that what is written out is what they give; the measure is what is left of the chunk. Assumes nothing.
abbrev pub invariant-loop-start : goal.invariant-loop-start
invariant-loop-start l = (l.start ≤ length l.chunk) × (l.filled ≤ length l.line) × (Roomy l.line l.out) × (Held (after (with_line l.initial.p (take l.kept l.initial.line)) (take l.start l.chunk)) l.p (take l.filled l.line)) × (length l.p ≡ length l.initial.p) × (length l.line ≡ length l.initial.line) × (length l.out ≡ length l.initial.out) × (l.written ≡ counted (l.initial.written + length (gives (with_line l.initial.p (take l.kept l.initial.line)) (take l.start l.chunk))))

abbrev pub decreases-loop-start : goal.decreases-loop-start
decreases-loop-start l = length l.chunk - l.start
