use Rattle.sound_matching.specs.Agreed.{agrees, agreed}
use Rattle.std.proofs.Common.{rules, tests, ◌∙◌, refl}
use Rattle.std.proofs.lemmas.Iterator.{YieldsList-from_range}
use Rattle.std.proofs.lemmas.Iterator.Search.{any_from_yields_List}
use Prim.Native.Nat.{ℕ}
use native.Mathlib.Omega.{arith}
use Rattle.sound_matching.proofs.Ranges.{some_below}
use Rattle.sound_matching.proofs.is_agreed.Goals as goal

pub returns : goal.returns
unfolding agreed
returns c =
    let a = c.args in
    let n = c.positions_of.result in
    rw (← c.positions_of.ensures)
    (any_from_yields_List (λ (k : ℕ). agrees a.p.now a.t k a.i) _ _ _ c.any.ensures.ran (YieldsList-from_range 0 n n refl (omega arith)) (λ x b q k. search (rules, tests))
    ∙ some_below (λ (k : ℕ). agrees a.p.now a.t k a.i) n)
