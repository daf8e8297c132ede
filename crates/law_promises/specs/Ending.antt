-- Demand 2 (rule 80): "Ending a job takes that job, its descendants and what they own, and no more", of trap 1 $4 and $5 and over any history.
use Rattle.std.specs.Prelude.{ℕ, ◌≡◌, true, ◌⊎◌, List, [], ◌∷◌}
use Rattle.words.specs.Words.{word}
use Rattle.picture.specs.Keys.{done}
use Rattle.picture.specs.Numbers.{position, live}
use Rattle.picture.specs.declared.Table.TheVariants.{Jobs}
use Rattle.sound.specs.Sound.{sound}
use Rattle.calls.specs.Outcome.{Outcome}
use Rattle.calls.specs.Registers.{D1, D3, meant}
use Rattle.law_ending.specs.Promise.{Leaves, Takes}
use Rattle.manager.specs.Door.{called}
use Rattle.law_promises.specs.History.{Event, run}

-- where the job stands that D1 means
abbrev pub top : List ℕ → List ℕ → ℕ
top p d = position (meant p (D1 d))

-- the outcome o of a call with registers d on the picture p ends the job that D1 means: a live job other than job 0
pub record Ends (p d : List ℕ) (o : Outcome) : Type 0 where
  pub lives : live p Jobs (meant p (D1 d)) ≡ true
  pub other : top p d ≡ 0 → ⊥
  -- what the tree of that job does not own is left, with D3 delivered to those who waited
  pub leaves : Leaves p o.picture (top p d) (D3 d)
  -- the tree and what it owns is taken
  pub takes : Takes p o.picture (top p d)
  -- D0 to A3 are 0
  pub registers : o.registers ≡ 0 ∷ 0 ∷ 0 ∷ 0 ∷ 0 ∷ 0 ∷ 0 ∷ 0 ∷ []

-- the registers ask for an ending: ordinary removal, $4, or forced removal, $5
abbrev pub AsksForAnEnding : List ℕ → Type 0
AsksForAnEnding d = (word d 0 ≡ 0x4) ⊎ (word d 0 ≡ 0x5)

-- ENDING TAKES THE TREE AND NO MORE
abbrev pub EndingTakesTheTree : Type 0
EndingTakesTheTree = (p d name : List ℕ) → AsksForAnEnding d → (called 1 p d name).key ≡ done → Ends p d (called 1 p d name)

-- the same after any history from any sound picture, the picture being sound all through
abbrev pub EndingTakesTheTreeInAnyHistory : Type 0
EndingTakesTheTreeInAnyHistory = (p : List ℕ) → sound p ≡ true → (events : List Event) (d name : List ℕ) → AsksForAnEnding d → (called 1 (run events p) d name).key ≡ done
    → (sound (run events p) ≡ true) × Ends (run events p) d (called 1 (run events p) d name)
