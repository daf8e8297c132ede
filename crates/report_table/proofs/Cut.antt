-- Stores into the first part of a row are stores into the whole.
use mathlib.Core.Path.{◌≡◌, refl, ap, ◌∙◌}
use Prim.Native.Nat.{ℕ, suc, ◌+◌, ◌≤◌}
use native.Mathlib.Omega.{arith}
use mathlib.Core.List.{List, [], ◌∷◌, ◌++◌}
use lib.ListN.{length, set, length-set}
use lib.Seq.{sets, set-append_left}

pub sets_front : {X : Type 0} (ls xs ys : List X) (i : ℕ) → i + length ls ≤ length xs → sets (xs ++ ys) i ls ≡ sets xs i ls ++ ys
sets_front [] xs ys i h = refl
sets_front (l ∷ ls) xs ys i h =
    ap (λ r. sets r (suc i) ls) (set-append_left xs ys i l (omega arith))
    ∙ sets_front ls (set xs i l) ys (suc i) (let e = length-set xs i l in omega arith)
