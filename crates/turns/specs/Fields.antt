-- A field of every job record set, as pick and tick do (rules 100 and 103).
use Rattle.std.specs.Prelude.{ℕ, zero, suc, List}
use Rattle.picture.specs.Records.{with_field}
use Rattle.picture.specs.declared.Table.TheVariants.{Jobs}

-- the picture with v k as field f of the record of each position k below n
unfoldable pub set_each : List ℕ → ℕ → (ℕ → ℕ) → ℕ → List ℕ
set_each p f v zero = p
set_each p f v (suc n) = with_field (set_each p f v n) Jobs n f (v n)
