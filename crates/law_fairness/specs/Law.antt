-- "A job that stays ready all through, at one priority p from 1 to 127, .. is picked at least once in every 2 + floor(3810 / p) picks in a row":
-- the law over any number of positions n, any greatest priority g and any hold h.
use Rattle.std.specs.Prelude.{◌≡◌, ℕ, ◌+◌, ◌*◌, ◌-◌, ◌/◌, ◌≤◌, ◌<◌, length, take, drop}
use mathlib.Core.List.{List, Memᴰ}
use Rattle.law_fairness.specs.Turns.{Turns}
use Rattle.picture.specs.Layout.{greatest_priority, hold}

-- of so many picks in a row one is the job's
abbrev pub within : ℕ → ℕ → ℕ → ℕ
within n g p = 2 + g * (n - 2) / p

-- j is in every row of w elements of a list
abbrev pub InEvery : ℕ → ℕ → List ℕ → Type 0
InEvery w j taken = (k : ℕ) → k + w ≤ length taken → Memᴰ j (take w (drop k taken))

-- the job at position j, ready at priority p, is picked in every row of w picks
abbrev pub PickedWithin : ℕ → ℕ → ℕ → ℕ → ℕ → ℕ → Type 0
PickedWithin n g h j p w = (a : ℕ → ℕ) (taken : List ℕ) → Turns n g h j p a taken → InEvery w j taken

-- THE LAW OF TURNS: the hold must be more than the greatest priority times the number of positions but two
abbrev pub LawOfTurns : Type 0
LawOfTurns = (n g h : ℕ) → g * (n - 2) < h → (j p : ℕ) → j < n → 0 < p → p ≤ g → PickedWithin n g h j p (within n g p)

-- among 32 positions, and among 64
abbrev pub LawOfTurns_32 : Type 0
LawOfTurns_32 = (j p : ℕ) → j < 32 → 0 < p → p ≤ greatest_priority → PickedWithin 32 greatest_priority hold j p (2 + 3810 / p)

abbrev pub LawOfTurns_64 : Type 0
LawOfTurns_64 = (j p : ℕ) → j < 64 → 0 < p → p ≤ greatest_priority → PickedWithin 64 greatest_priority hold j p (2 + 7874 / p)

-- w picks in a row can all pass the job at the last position, ready at priority p
abbrev pub CanWait : ℕ → ℕ → ℕ → ℕ → ℕ → Type 0
CanWait n g h p w = (a : ℕ → ℕ) × (taken : List ℕ) × Turns n g h (n - 1) p a taken × (length taken ≡ w) × (Memᴰ (n - 1) taken → ⊥)

-- the figure is the least: one pick less may not be enough
abbrev pub LeastFigure : Type 0
LeastFigure = (n g h p : ℕ) → 2 ≤ n → 0 < p → CanWait n g h p (1 + g * (n - 2) / p)

-- the hold is the least: with a lower one a job can wait without end
abbrev pub LeastHold : Type 0
LeastHold = (n g h p : ℕ) → 2 ≤ n → h ≤ g * (n - 2) → (w : ℕ) → CanWait n g h p w
