-- What ending a tree promises holds of every sound picture.
use Prim.Native.Nat.{ℕ}
use mathlib.Core.Path.{◌≡◌}
use mathlib.Core.Bool.{true}
use mathlib.Core.List.{List}
use Rattle.picture.specs.Records.{used}
use Rattle.picture.specs.declared.Table.TheVariants.{Jobs}
use Rattle.sound.specs.Sound.{sound}
use Rattle.sound_facts.proofs.View.{view}
use Rattle.ending.specs.Ended.{ended}
use Rattle.law_ending.specs.Promise.{Leaves, Takes}
use Rattle.law_ending.proofs.Leaving.{leaves}
use Rattle.law_ending.proofs.Taking.{takes}

-- every entry and block whose owner is outside the tree is, longword for longword, what it was
pub ending_leaves_others : (p : List ℕ) (t key : ℕ) → sound p ≡ true → used p Jobs t ≡ true → (t ≡ 0 → ⊥) → Leaves p (ended p t key) t key
ending_leaves_others p t key s u n = leaves p (view p s) t key u n

-- the tree is gone with all that it owns, and nothing is new
pub ending_takes_the_tree : (p : List ℕ) (t key : ℕ) → sound p ≡ true → used p Jobs t ≡ true → (t ≡ 0 → ⊥) → Takes p (ended p t key) t
ending_takes_the_tree p t key s u n = takes p (view p s) t key u n
