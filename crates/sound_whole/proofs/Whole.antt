-- The rules of the picture as a whole, taken apart.
use Prim.Native.Nat.{ℕ}
use mathlib.Core.Path.{◌≡◌}
use mathlib.Core.Bool.{true}
use mathlib.Core.List.{List}
use Rattle.words.proofs.Tests.{parts, both_true}
use Rattle.picture.specs.declared.Table.{Table}
use Rattle.picture.specs.declared.Table.TheVariants.{Jobs, Channels}
use Rattle.sound_whole.specs.Whole.{size_stated, seven_zero, heap_stated, last_within, current_ready, whole_fine}

module _ (p : List ℕ) where
  pub record Whole : Type 0 where
    pub size : size_stated p ≡ true
    pub nought : seven_zero p ≡ true
    pub heap : heap_stated p ≡ true
    pub last : (t : Table) → last_within p t ≡ true
    pub current : current_ready p ≡ true

  of_both : last_within p Jobs ≡ true → last_within p Channels ≡ true → (t : Table) → last_within p t ≡ true
  of_both a b Jobs = a
  of_both a b Channels = b

  pub whole_is : whole_fine p ≡ true → Whole
  unfolding whole_fine
  whole_is h = search (parts, of_both) depth 12

  pub is_whole : Whole → whole_fine p ≡ true
  unfolding whole_fine
  is_whole w = search (both_true, w.last) depth 12
