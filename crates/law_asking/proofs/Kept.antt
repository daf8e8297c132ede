-- $2 leaves the picture as it is, so it stays sound and its tags don't move.
use Prim.Native.Nat.{ℕ}
use mathlib.Core.Path.{◌≡◌, refl}
use mathlib.Core.Bool.{true}
use mathlib.Core.List.{List}
use Rattle.picture.specs.declared.Table.{Table}
use Rattle.sound.specs.Sound.{sound}
use Rattle.sound_facts.proofs.Ages.{Ages, ages_still}
use Rattle.calls.specs.Outcome.{Outcome}
use Rattle.calls.specs.Call.{outcome}
use Rattle.calls.proofs.Call.{of_each_way}
use Rattle.asking.specs.Ask.{ask}

pub ask_leaves_the_picture : (p d : List ℕ) → (outcome ask p d).picture ≡ p
unfolding ask
ask_leaves_the_picture p d = of_each_way ask p d (λ (o : Outcome). o.picture ≡ p) (λ k. refl) (λ h. refl)

pub ask_keeps_sound : (p d : List ℕ) → sound p ≡ true → sound (outcome ask p d).picture ≡ true
ask_keeps_sound p d s = rw (ask_leaves_the_picture p d) s

pub ask_ages : (p d : List ℕ) → sound p ≡ true → (t : Table) → Ages p (outcome ask p d).picture t
ask_ages p d s t = rw (ask_leaves_the_picture p d) (ages_still p t)
