use Rattle.std.proofs.Common.{◌≡◌, ◌-◌, length, take}
use Rattle.program_session.specs.Pieces.{with_line}
use Rattle.program_session.proofs.Lines.{Come}
use Rattle.program_session.proofs.running.take_lines.Given as goal

-- `program_session::running::take_lines` meets its contract: after each line what is held and what is written is that of the characters taken; the measure is what is left of the chunk. Assumes nothing.
abbrev pub invariant-loop-end : goal.invariant-loop-end
invariant-loop-end l = (Come (with_line l.initial.p (take l.kept l.initial.line)) l.chunk l.start l.p l.line l.filled l.out l.used) × (length l.p ≡ length l.initial.p) × (length l.line ≡ length l.initial.line) × (length l.out ≡ length l.initial.out)

abbrev pub decreases-loop-end : goal.decreases-loop-end
decreases-loop-end l = length l.chunk - l.start
