-- Signed numbers: "The key is a signed 32-bit number", "timeouts as signed" (rules 7 and 62).
use Rattle.std.specs.Prelude.{ℕ, Bool, false, eqb, ℤ, pos, negsuc}
use Rattle.std.specs.Int.{w32}
use Rattle.std.proofs.Common.{to_z, of_z}

-- a longword, read as signed
abbrev pub signed : ℕ → ℤ
signed n = to_z w32 n

-- the longword by which a signed number stands
abbrev pub bits : ℤ → ℕ
bits z = of_z w32 z

-- two signed numbers are the same
abbrev pub eq_z : ℤ → ℤ → Bool
eq_z (pos a) (pos b) = eqb a b
eq_z (pos a) (negsuc b) = false
eq_z (negsuc a) (pos b) = false
eq_z (negsuc a) (negsuc b) = eqb a b
