-- What holds of everything behind its number in a list, and of what is taken where the number isn't there, holds of what is found.
use Prim.Native.Nat.{ℕ}
use mathlib.Core.Path.{◌≡◌, refl}
use mathlib.Core.Bool.{Bool, true, false, cond}
use mathlib.Core.List.{List, [], ◌∷◌}
use lib.Dec.{eqb}
use borrow.Author.Tests.{eqb-true}
use Rattle.traps.specs.Traps.{among}

module _ {A : Type 0} (P : A → Type 0) (n : ℕ) where
  -- P holds of each element of a list where its number is n
  abbrev pub Behind : List (ℕ × A) → Type 0
  Behind [] = Unit {0}
  Behind (e ∷ l) = (n ≡ e.0 → P e.1) × Behind l

  pub among_by : (l : List (ℕ × A)) (c : A) → Behind l → P c → P (among n l c)
  among_by [] c b r = r
  among_by (e ∷ l) c b r = go (eqb n e.0) refl (among_by l c b.1 r)
    where
      go : (t : Bool) → eqb n e.0 ≡ t → P (among n l c) → P (cond t e.1 (among n l c))
      go true q z = b.0 (eqb-true n e.0 q)
      go false q z = z
