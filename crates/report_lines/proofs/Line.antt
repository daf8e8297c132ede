-- A line, put together from what was read.
use Prim.Native.Nat.{ℕ}
use mathlib.Core.Path.{◌≡◌}
use mathlib.Core.Bool.{not}
use mathlib.Core.List.{List}
use lib.Dec.{eqb}
use Rattle.words.proofs.Signed.{signed_zero}
use Rattle.picture.specs.Records.{field, owner, priority, timeout_field}
use Rattle.picture.specs.Numbers.{position}
use Rattle.picture.specs.declared.Table.TheVariants.{Jobs}
use Rattle.report_lines.specs.declared.JobLine.{JobLine}
use Rattle.report_lines.specs.Line.{depth, line}

abbrev made : ℕ → ℕ → ℕ → ℕ → ℕ → JobLine
made n o d r x = record { number = n; owner = o; depth = d; priority = r; suspended = not (eqb x 0) }

pub line_is : (p : List ℕ) (t n k o d r x : ℕ) → k ≡ position n → o ≡ owner p Jobs k → d ≡ depth p t k → r ≡ priority p k → x ≡ field p Jobs k timeout_field → made n o d r x ≡ line p t n
unfolding line
line_is p t n k o d r x a b e f g = rw (b, e, f, g, a, signed_zero (field p Jobs (position n) timeout_field))
