-- Which blocks go.
use Prim.Native.Nat.{ℕ}
use mathlib.Core.Path.{◌≡◌, refl}
use mathlib.Core.Bool.{Bool, true, false, ◌&&◌, ◌||◌, not}
use mathlib.Core.List.{List}
use mathlib.Core.Logic.{⊎_elim, ◌⊎◌, inl, inr}
use lib.Dec.{eqb}
use borrow.Author.Tests.{eq-eqb, ne_eqb, eqb-true}
use Rattle.words.proofs.Tests.{both, either, false_true}
use Rattle.blocks.specs.Header.{free, holder}
use Rattle.freeing.specs.Sweep.{named, goes}

module _ (p : List ℕ) (m a i : ℕ) where
  pub goes_used : goes p m a i ≡ true → free p i ≡ false
  unfolding goes
  goes_used h = go (free p i) (both (not (free p i)) _ h).0
    where
      go : (b : Bool) → not b ≡ true → b ≡ false
      go true z = absurd (false_true z)
      go false z = refl

  pub goes_at_or_owned : goes p m a i ≡ true → (i ≡ a) ⊎ (named m (holder p i) ≡ true)
  unfolding goes
  goes_at_or_owned h = ⊎_elim (λ (z : eqb i a ≡ true). inl (eqb-true i a z)) (λ z. inr z) (either (eqb i a) (named m (holder p i)) (both (not (free p i)) _ h).1)

  pub the_block_at_that_place_goes : free p i ≡ false → i ≡ a → goes p m a i ≡ true
  unfolding goes
  the_block_at_that_place_goes f z = rw (f, eq-eqb i a z)

  pub a_block_owned_by_the_set_goes : free p i ≡ false → named m (holder p i) ≡ true → goes p m a i ≡ true
  unfolding goes
  a_block_owned_by_the_set_goes f n = rw (f, n) (go (eqb i a))
    where
      go : (b : Bool) → b || true ≡ true
      go true = refl
      go false = refl

  pub a_block_owned_from_outside_stays : (i ≡ a → ⊥) → named m (holder p i) ≡ false → goes p m a i ≡ false
  unfolding goes
  a_block_owned_from_outside_stays x n = rw (ne_eqb i a x, n) (go (not (free p i)))
    where
      go : (b : Bool) → b && false ≡ false
      go true = refl
      go false = refl
