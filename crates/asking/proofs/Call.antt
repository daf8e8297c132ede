-- The ways out of $2, as its code takes them.
use Prim.Native.Nat.{ℕ}
use mathlib.Core.Path.{◌≡◌}
use mathlib.Core.Bool.{true, false}
use mathlib.Core.List.{List}
use Rattle.picture.specs.Keys.{invalid_job}
use Rattle.picture.specs.Numbers.{job_at}
use Rattle.calls.specs.Outcome.{refuse, succeed}
use Rattle.calls.specs.Call.{outcome}
use Rattle.calls.specs.Registers.{D1, D2, meant}
use Rattle.std.proofs.Common.{Some, None}
use Rattle.tree.specs.Tree.{in_tree}
use Rattle.asking.specs.Ask.{answered, ask}

module _ (p d : List ℕ) where
  pub ask_no_top : job_at p (D2 d) ≡ None → outcome ask p d ≡ refuse invalid_job p d
  unfolding ask outcome
  ask_no_top a = rw a

  pub ask_no_job : (t : ℕ) → job_at p (D2 d) ≡ Some t → job_at p (meant p (D1 d)) ≡ None → outcome ask p d ≡ refuse invalid_job p d
  unfolding ask outcome
  ask_no_job t a b = rw (a, b)

  module _ (t k : ℕ) (a : job_at p (D2 d) ≡ Some t) (b : job_at p (meant p (D1 d)) ≡ Some k) where
    pub ask_outside : in_tree p t k ≡ false → outcome ask p d ≡ refuse invalid_job p d
    unfolding ask outcome
    ask_outside c = rw (a, b, c)

    pub ask_answers : in_tree p t k ≡ true → (e : List ℕ) → e ≡ answered p d t k → outcome ask p d ≡ succeed p e
    unfolding ask outcome
    ask_answers c e q = rw (a, b, c, q)
