-- The same done at one position after another.
use Rattle.std.specs.Prelude.{ℕ, zero, suc, List}

-- the picture after the step s at each position below n, from 0 on
unfoldable pub each : (List ℕ → ℕ → List ℕ) → ℕ → List ℕ → List ℕ
each s zero p = p
each s (suc n) p = s (each s n p) n
