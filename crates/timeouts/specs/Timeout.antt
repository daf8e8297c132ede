-- Timeouts in registers (rule 69): "timeouts as signed with -1 without end, words of registers read as signed halves".
use Rattle.std.specs.Prelude.{ℕ, ◌&&◌, cond, ℤ, pos, Option, Some, None}
use Rattle.std.specs.Int.Signed.{le_z}
use Rattle.std.specs.Int.{w16}
use Rattle.std.proofs.Common.{to_z}
use Rattle.words.specs.Words.{low_word}
use Rattle.words.specs.Signed.{eq_z}
use Rattle.picture.specs.Layout.{greatest_timeout, without_end}
use Rattle.timeouts.specs.declared.Timeout.{Timeout}
use Rattle.timeouts.specs.declared.Timeout.TheVariants.{Zero, Frames, Endless}

-- "0 not suspended, -1 without end, else 1 to 32,767 frames left"; any other value is none
unfoldable pub timeout_of : ℤ → Option Timeout
timeout_of z = cond (eq_z z (pos 0)) (Some Zero) (cond (eq_z z without_end) (Some Endless) (cond (le_z (pos 1) z && le_z z (pos greatest_timeout)) (Some (Frames z)) None))

-- a register's low word, read as a signed half
abbrev pub low_half : ℕ → ℤ
low_half register = to_z w16 (low_word register)

-- the timeout in a register
abbrev pub timeout_in : ℕ → Option Timeout
timeout_in register = timeout_of (low_half register)

-- the timeout that a job's record gets; what is none gets into no record
abbrev pub value : Option Timeout → ℤ
value (Some Zero) = pos 0
value (Some (Frames z)) = z
value (Some Endless) = without_end
value None = pos 0
