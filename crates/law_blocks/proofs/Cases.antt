-- What holds of a call's effect where all checks pass holds of the call where it answers 0.
use mathlib.Core.Path.{◌≡◌, sym, subst}
use mathlib.Core.List.{List}
use Prim.Native.Nat.{ℕ}
use Rattle.picture.specs.Keys.{done}
use Rattle.calls.specs.Outcome.{Outcome}
use Rattle.calls.specs.Call.{Call, outcome}
use Rattle.calls.proofs.Call.{Passed, Never, success, where_all_pass, done_only_where_all_pass}

pub where_done : (P : Outcome → Type 0) (c : Call) (p d : List ℕ) → Never done (c p d).checks → (Passed (c p d).checks → P (success (c p d))) → (outcome c p d).key ≡ done → P (outcome c p d)
where_done P c p d never f e = let h = done_only_where_all_pass c p d never e in subst P (sym (where_all_pass c p d h)) (f h)
