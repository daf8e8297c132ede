-- A climb, an owner at a time.
use Prim.Native.Nat.{ℕ, zero, suc, ◌-◌, ◌<◌}
use mathlib.Core.Path.{◌≡◌, ap, ◌∙◌}
use mathlib.Core.Bool.{true, false}
use mathlib.Core.List.{List}
use lib.Dec.{eqb}
use native.Mathlib.Omega.{arith}
use borrow.Author.Tests.{eq-eqb, ne_eqb}
use Rattle.picture.specs.Layout.{nobody}
use Rattle.picture.specs.Records.{owner}
use Rattle.picture.specs.Numbers.{position}
use Rattle.picture.specs.declared.Table.TheVariants.{Jobs}
use Rattle.tree.specs.Tree.{climbs}

module _ (n : ℕ) (p : List ℕ) (t k : ℕ) where
  pub climbs_here : k ≡ t → climbs n p t k ≡ true
  unfolding climbs
  climbs_here e = go n
    where
      go : (m : ℕ) → climbs m p t k ≡ true
      go zero = eq-eqb _ _ e
      go (suc m) = rw (eq-eqb k t e)

  pub climbs_ends : n ≡ 0 → climbs n p t k ≡ eqb k t
  unfolding climbs
  climbs_ends e = rw e

  pub climbs_stops : 0 < n → (k ≡ t → ⊥) → owner p Jobs k ≡ nobody → climbs n p t k ≡ false
  unfolding climbs
  climbs_stops l d e = let z : n ≡ suc (n - 1) = omega arith in ap (λ (m : ℕ). climbs m p t k) z ∙ rw (ne_eqb k t d, eq-eqb (owner p Jobs k) nobody e)

  pub climbs_up : 0 < n → (k ≡ t → ⊥) → (owner p Jobs k ≡ nobody → ⊥) → climbs n p t k ≡ climbs (n - 1) p t (position (owner p Jobs k))
  unfolding climbs
  climbs_up l d e = let z : n ≡ suc (n - 1) = omega arith in ap (λ (m : ℕ). climbs m p t k) z ∙ rw (ne_eqb k t d, ne_eqb (owner p Jobs k) nobody e)
