-- Document 01 (rule 103): "Tick: each positive timeout falls by 1", of every job, inactive ones too.
use Rattle.std.specs.Prelude.{ℕ, zero, suc, List, ℤ, pos, negsuc}
use Rattle.words.specs.Signed.{bits}
use Rattle.picture.specs.Layout.{positions}
use Rattle.picture.specs.Records.{timeout_field, timeout}
use Rattle.picture.specs.declared.Table.TheVariants.{Jobs}
use Rattle.turns.specs.Fields.{set_each}

-- a timeout after a frame: a positive one falls by 1
unfoldable pub fallen : ℤ → ℤ
fallen (pos zero) = pos zero
fallen (pos (suc n)) = pos n
fallen (negsuc n) = negsuc n

-- the picture after a tick
unfoldable pub ticked : List ℕ → List ℕ
ticked p = set_each p timeout_field (λ (k : ℕ). bits (fallen (timeout p k))) (positions Jobs)
