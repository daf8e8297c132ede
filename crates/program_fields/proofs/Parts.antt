-- Laws of parts of slices and of what fits. Assumes nothing.
use Rattle.std.proofs.Common.{◌≡◌, ℕ, ◌≤◌, sym, arith, List, length, take, length-take-le}
use Rattle.program_fields.specs.declared.Trial.{Trial}
use Rattle.program_fields.specs.declared.Trial.TheVariants.{Call, Report}
use Rattle.program_fields.specs.Within.{Fitting}

-- a part from the start has as many elements as it says
pub counted : (n : ℕ) (l : List ℕ) → n ≤ length l → n ≡ length (take n l)
counted n l h = sym (length-take-le n l h)

-- what fits rooms fits larger ones
pub larger : (t : Trial) (a b d a' b' d' : ℕ) → a ≤ a' → b ≤ b' → d ≤ d' → Fitting t a b d → Fitting t a' b' d'
larger (Call call x y z) a b d a' b' d' l m n f = (omega (arith, f.0), omega (arith, f.1), omega (arith, f.2))
larger (Report top x y) a b d a' b' d' l m n f = (f.0, omega (arith, f.1))
