-- Demand 3: "Take document 01's pick rule and any stretch of picks from a sound picture, with only trap calls and ticks between them. A job
-- that stays ready all through, at one priority p from 1 to 127, with no priority call naming it, is picked at least once in every
-- 2 + floor(3810 / p) picks in a row, whatever the other jobs create, end, suspend or raise meanwhile."
use Rattle.std.specs.Prelude.{ℕ, ◌<◌, ◌≤◌, ◌≡◌, true, List, [], ◌∷◌}
use Rattle.words.specs.Words.{word}
use Rattle.picture.specs.Layout.{positions, greatest_priority}
use Rattle.picture.specs.declared.Table.TheVariants.{Jobs}
use Rattle.sound.specs.Sound.{sound}
use Rattle.calls.specs.Registers.{D1, meant}
use Rattle.law_fairness.specs.Law.{InEvery}
use Rattle.manager.specs.Turn.{pick_answer}
use Rattle.law_picks.specs.Stretch.{Stands, pick_bound}
use Rattle.law_promises.specs.History.{Event, trap, pick, tick, after}

-- the trap and the code of the priority call
abbrev pub priority_trap : ℕ
priority_trap = 1

abbrev pub priority_code : ℕ
priority_code = 0xB

-- the event is no priority call that names the job with number n: in D1 itself, or as the current job by bit 15
abbrev pub Unnamed : ℕ → List ℕ → Event → Type 0
Unnamed n p (trap t d name) = t ≡ priority_trap → word d 0 ≡ priority_code → meant p (D1 d) ≡ n → ⊥
Unnamed n p pick = Unit {0}
Unnamed n p tick = Unit {0}

-- the job with number n stands at position j, ready at priority g, in every picture of a history from p on, and no priority call names it
pub data Stays (n j g : ℕ) : List ℕ → List Event → Type 0 where
  end : {p : List ℕ} → Stands n j g p → Stays n j g p []
  step : {p : List ℕ} {e : Event} {events : List Event} → Stands n j g p → Unnamed n p e → Stays n j g (after e p) events → Stays n j g p (e ∷ events)

-- the numbers that the picks of a history answer, in order
abbrev pub answers : List Event → List ℕ → List ℕ
answers [] p = []
answers (trap t d name ∷ events) p = answers events (after (trap t d name) p)
answers (pick ∷ events) p = (pick_answer p).number ∷ answers events (after pick p)
answers (tick ∷ events) p = answers events (after tick p)

-- A TURN THAT CAN'T BE LOST
abbrev pub TurnNotLost : Type 0
TurnNotLost = (n j g : ℕ) → j < positions Jobs → 0 < g → g ≤ greatest_priority → (p : List ℕ) → sound p ≡ true → (events : List Event) → Stays n j g p events → InEvery (pick_bound g) n (answers events p)
