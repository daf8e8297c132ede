-- The test of $4's last check: it fails exactly where a member of the tree is active.
use Prim.Native.Nat.{ℕ, zero, suc, ◌<◌}
use mathlib.Core.Path.{◌≡◌, refl, sym}
use mathlib.Core.Bool.{Bool, true, false, ◌&&◌, not}
use mathlib.Core.List.{List}
use native.Mathlib.Omega.{arith}
use Rattle.words.specs.Bits.{bit}
use Rattle.words.specs.Each.{every}
use Rattle.words.proofs.Tests.{both, false_true}
use Rattle.words.proofs.Each.{every_not}
use Rattle.picture.specs.Layout.{positions}
use Rattle.picture.specs.Records.{used, active}
use Rattle.picture.specs.declared.Table.TheVariants.{Jobs}
use Rattle.picture.proofs.Records.{used_below}
use Rattle.sound.specs.Sound.{sound}
use Rattle.tree.specs.Tree.{tree}
use Rattle.law_owners.specs.Under.{Under}
use Rattle.law_owners.proofs.Members.{tree_says, tree_has}
use Rattle.ending.specs.Remove.{at_rest, inactive}
use Rattle.law_ending.specs.Promise.{ActiveMember}
use Rattle.law_owners.proofs.Owners.{owners_in_order}

-- where not every number passes, one fails
some_fails : (f : ℕ → Bool) (n : ℕ) → every f n ≡ false → (k : ℕ) × ((k < n) × (f k ≡ false))
some_fails f zero h = absurd (false_true (sym h))
some_fails f (suc n) h = go (every f n) (f n) refl refl h (λ y. some_fails f n y)
  where
    go : (b c : Bool) → every f n ≡ b → f n ≡ c → b && c ≡ false → (every f n ≡ false → (k : ℕ) × ((k < n) × (f k ≡ false))) → (k : ℕ) × ((k < suc n) × (f k ≡ false))
    go true true x y z ih = absurd (false_true (sym z))
    go true false x y z ih = (n, (omega arith, y))
    go false c x y z ih = let s = ih x in let l = s.1.0 in (s.0, (omega arith, s.1.1))

not_false_is : (b : Bool) → not b ≡ false → b ≡ true
not_false_is true h = refl
not_false_is false h = absurd (false_true (sym h))

module _ (p : List ℕ) (s : sound p ≡ true) (t : ℕ) where
  pub active_member : inactive p (tree p t) ≡ false → ActiveMember p t
  unfolding inactive at_rest
  active_member h =
      let x = some_fails (at_rest p (tree p t)) (positions Jobs) h in
      let y = both (bit (tree p t) x.0) (active p x.0) (not_false_is _ x.1.1) in
      let z = tree_says p (owners_in_order p s) t x.0 x.1.0 y.0 in
      record { who = x.0; lives = z.0; under = z.1; acts = y.1 }

  pub not_inactive : ActiveMember p t → inactive p (tree p t) ≡ false
  unfolding inactive at_rest
  not_inactive A = every_not (at_rest p (tree p t)) (positions Jobs) A.who (used_below p Jobs A.who A.lives)
      (rw (tree_has p (owners_in_order p s) t A.who A.lives A.under, A.acts))
