use Prim.Native.Nat.{◌+◌, ◌*◌}
use mathlib.Core.Path.{◌≡◌}
use mathlib.Core.List.{◌++◌}
use lib.ListN.{length, take}
use Rattle.program_reports.proofs.Lines.{left, Goes}
use Rattle.program_reports.proofs.write_lines.Given as goal

-- so many lines take so much room, and what is left to write stands behind them
abbrev pub invariant-loop-line : goal.invariant-loop-line
invariant-loop-line l = (l.place ≡ l.used + 41 * l.line-index) × (length l.out ≡ length l.initial.out) × Goes (take l.used l.initial.out ++ left l.lines 0) l.out l.place l.lines l.line-index
