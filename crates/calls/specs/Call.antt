-- A guarded call: a list of checks, each a test with its key, in document 01's order, and an effect (rule 64).
use Rattle.std.specs.Prelude.{ℕ, Bool, cond, List, [], ◌∷◌, ℤ}
use Rattle.picture.specs.Keys.{done}
use Rattle.calls.specs.Outcome.{Outcome, refuse, succeed}

-- a check: the test that must pass, and the key that is given where it fails
abbrev pub Check : Type 0
Check = Bool × ℤ

-- "checks in order", and the picture and the registers that are left where all pass
pub record Guarded : Type 0 where
  pub checks : List Check
  pub picture : List ℕ
  pub registers : List ℕ

-- a call, by the picture and the registers before it
abbrev pub Call : Type 0
Call = List ℕ → List ℕ → Guarded

-- rules 64 and 65: the refusal of the first check that fails, o where all pass
abbrev pub settled : List Check → List ℕ → List ℕ → Outcome → Outcome
settled [] p d o = o
settled (c ∷ l) p d o = cond c.0 (settled l p d o) (refuse c.1 p d)

-- what a call comes to
unfoldable pub outcome : Call → List ℕ → List ℕ → Outcome
outcome c p d = settled (c p d).checks p d (succeed (c p d).picture (c p d).registers)

-- rule 64: the key of a list of checks: that of the first that fails, 0 where all pass
abbrev pub verdict : List Check → ℤ
verdict [] = done
verdict (c ∷ l) = cond c.0 (verdict l) c.1
