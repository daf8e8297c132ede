-- Lines, one at a time.
use Prim.Native.Nat.{ℕ, zero, suc, ◌-◌, ◌<◌}
use mathlib.Core.Path.{◌≡◌, refl, ap}
use native.Mathlib.Omega.{arith}
use mathlib.Core.List.{List, [], ◌∷◌}
use lib.ListN.{length}
use Rattle.report_lines.specs.Line.{line}
use Rattle.report_lines.specs.Order.{next, lines_from}

module _ (p : List ℕ) (m t : ℕ) where
  -- the first of the lines, and those behind it
  pub lines_some : (i n : ℕ) → 0 < i → lines_from i p m t n ≡ line p t n ∷ lines_from (i - 1) p m t (next p m n)
  unfolding lines_from
  lines_some i n l = let e : i ≡ suc (i - 1) = omega arith in ap (λ (j : ℕ). lines_from j p m t n) e

  pub lines_none : (i n : ℕ) → i ≡ 0 → lines_from i p m t n ≡ []
  unfolding lines_from
  lines_none i n e = rw e

  -- as many lines as were asked for
  pub length_lines : (i n : ℕ) → length (lines_from i p m t n) ≡ i
  unfolding lines_from
  length_lines zero n = refl
  length_lines (suc i) n = ap suc (length_lines i (next p m n))
