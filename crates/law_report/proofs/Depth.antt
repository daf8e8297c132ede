-- A member's depth is one more than its owner's.
use Prim.Native.Nat.{ℕ, zero, suc, ◌-◌}
use mathlib.Core.Path.{◌≡◌, refl, sym, ap, ◌∙◌}
use mathlib.Core.Bool.{Bool, true, false}
use mathlib.Core.List.{List}
use lib.Dec.{eqb}
use native.Mathlib.Omega.{arith}
use borrow.Author.Tests.{eqb-true, eqb-false}
use Rattle.words.proofs.Tests.{both, false_true}
use Rattle.picture.specs.Layout.{nobody, positions}
use Rattle.picture.specs.Records.{number, owner, used}
use Rattle.picture.specs.Numbers.{position}
use Rattle.picture.specs.declared.Table.TheVariants.{Jobs}
use Rattle.sound.specs.Sound.{sound}
use Rattle.tree.specs.Tree.{climbs, in_tree}
use Rattle.tree.proofs.Climb.{climbs_ends, climbs_stops, climbs_up}
use Rattle.law_owners.specs.Under.{Under}
use Rattle.law_owners.proofs.Owners.{nobody_is_no_job, owners_in_order}
use Rattle.law_owners.proofs.Members.{in_tree_has}
use Rattle.report_lines.specs.Line.{depth_within, depth}
use Rattle.report_lines.proofs.Depth.{depth_here, depth_up}

-- where n owners are enough to reach the top, one more doesn't count
depth_settles : (n : ℕ) (p : List ℕ) (t k : ℕ) → climbs n p t k ≡ true → depth_within (suc n) p t k ≡ depth_within n p t k
depth_settles zero p t k h = let e = eqb-true k t (sym (climbs_ends zero p t k refl) ∙ h) in depth_here 1 p t k e ∙ sym (depth_here 0 p t k e)
depth_settles (suc n) p t k h = go (depth_settles n p t (position (owner p Jobs k))) (eqb k t) refl (eqb (owner p Jobs k) nobody) refl
  where
    go : (climbs n p t (position (owner p Jobs k)) ≡ true → depth_within (suc n) p t (position (owner p Jobs k)) ≡ depth_within n p t (position (owner p Jobs k)))
        → (b : Bool) → eqb k t ≡ b → (c : Bool) → eqb (owner p Jobs k) nobody ≡ c → depth_within (suc (suc n)) p t k ≡ depth_within (suc n) p t k
    go again true e c f = let z = eqb-true k t e in depth_here (suc (suc n)) p t k z ∙ sym (depth_here (suc n) p t k z)
    go again false e true f = absurd (false_true (sym (climbs_stops (suc n) p t k (omega arith) (eqb-false k t e) (eqb-true (owner p Jobs k) nobody f)) ∙ h))
    go again false e false f =
        let d = eqb-false k t e in
        let a : suc n - 1 ≡ n = omega arith in
        let b : suc (suc n) - 1 ≡ suc n = omega arith in
        let c : climbs n p t (position (owner p Jobs k)) ≡ true = rw a at (sym (climbs_up (suc n) p t k (omega arith) d (eqb-false (owner p Jobs k) nobody f)) ∙ h) in
        let x = rw b at (depth_up (suc (suc n)) p t k (omega arith) d) in
        let y = rw a at (depth_up (suc n) p t k (omega arith) d) in
        x ∙ ap suc (again c) ∙ sym y

module _ (p : List ℕ) (s : sound p ≡ true) (t : ℕ) where
  pub depth_of_top : depth p t t ≡ 0
  unfolding depth
  depth_of_top = depth_here (positions Jobs) p t t refl

  -- the job at position k, which isn't the top, is owned by the job at position j
  pub depth_of_owned : (k j : ℕ) → (k ≡ t → ⊥) → used p Jobs k ≡ true → Under p t k → used p Jobs j ≡ true → owner p Jobs k ≡ number p Jobs j → depth p t k ≡ suc (depth p t j)
  unfolding depth in_tree
  depth_of_owned k j d u w v e =
      let O = owners_in_order p s in
      let z : position (owner p Jobs k) ≡ j = ap position e ∙ O.place j v in
      let c = (both (used p Jobs k) _ (in_tree_has p O t k u w)).1 in
      let up = climbs_up (positions Jobs) p t k (omega arith) d (λ y. nobody_is_no_job p j O v (sym e ∙ y)) in
      let r : climbs (positions Jobs - 1) p t j ≡ true = rw z at (sym up ∙ c) in
      (rw z at (depth_up (positions Jobs) p t k (omega arith) d)) ∙ ap suc (sym (depth_settles (positions Jobs - 1) p t j r))
