use Rattle.std.proofs.Common.{◌≡◌, ◌≤◌, length}
use Rattle.std.specs.Prelude.{Some}
use Rattle.errors.specs.Text.{nth_at}
use Rattle.errors.proofs.nth_at.Given as goal

abbrev pub invariant-loop : goal.invariant-loop
invariant-loop l = (l.counter ≤ l.n) × (l.at ≤ length l.s) × (nth_at l.s l.counter ≡ Some l.at)
