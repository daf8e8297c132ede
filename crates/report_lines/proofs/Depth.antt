-- A depth, an owner at a time.
use Prim.Native.Nat.{ℕ, zero, suc, ◌+◌, ◌-◌, ◌<◌}
use mathlib.Core.Path.{◌≡◌, refl, ap, ◌∙◌}
use mathlib.Core.List.{List}
use native.Mathlib.Omega.{arith}
use borrow.Author.Tests.{eq-eqb, ne_eqb}
use Rattle.picture.specs.Records.{owner}
use Rattle.picture.specs.Numbers.{position}
use Rattle.picture.specs.declared.Table.TheVariants.{Jobs}
use Rattle.report_lines.specs.Line.{depth_within}

module _ (n : ℕ) (p : List ℕ) (t k : ℕ) where
  pub depth_here : k ≡ t → depth_within n p t k ≡ 0
  unfolding depth_within
  depth_here e = go n
    where
      go : (m : ℕ) → depth_within m p t k ≡ 0
      go zero = refl
      go (suc m) = rw (eq-eqb k t e)

  pub depth_up : 0 < n → (k ≡ t → ⊥) → depth_within n p t k ≡ suc (depth_within (n - 1) p t (position (owner p Jobs k)))
  unfolding depth_within
  depth_up l d = let z : n ≡ suc (n - 1) = omega arith in ap (λ (m : ℕ). depth_within m p t k) z ∙ rw (ne_eqb k t d)

-- where n owners are passed, and the depth is n and that of position k within l more
module _ (p : List ℕ) (t k n l d : ℕ) (h : d ≡ n + depth_within l p t k) where
  pub found_here : k ≡ t → n ≡ d
  found_here e = let z = depth_here l p t k e in omega (arith, h)

  pub found_last : l ≡ 0 → n ≡ d
  unfolding depth_within
  found_last e = let z : depth_within l p t k ≡ 0 = rw e in omega (arith, h)

  pub passes_up : 0 < l → (k ≡ t → ⊥) → (w r : ℕ) → w ≡ owner p Jobs k → r ≡ position w → d ≡ n + 1 + depth_within (l - 1) p t r
  passes_up m e w r f g =
      let q : r ≡ position (owner p Jobs k) = g ∙ ap position f in
      let z = depth_up l p t k m e in
      let y = ap (λ (j : ℕ). depth_within (l - 1) p t j) q in
      omega (arith, h)
