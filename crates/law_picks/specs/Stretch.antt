-- Demand 3: "Take document 01's pick rule and any stretch of picks from a sound picture, with only trap calls and ticks between them. A job
-- that stays ready all through, at one priority p from 1 to 127, with no priority call naming it, is picked at least once in every
-- 2 + floor(3810 / p) picks in a row, whatever the other jobs create, end, suspend or raise meanwhile."
use Rattle.std.specs.Prelude.{ℕ, ◌<◌, ◌≤◌, ◌≡◌, ◌≢◌, true, false, List, [], ◌∷◌, length}
use Rattle.picture.specs.Layout.{positions}
use Rattle.picture.specs.Records.{slot, number, priority, accumulated, ready}
use Rattle.picture.specs.declared.Table.TheVariants.{Jobs}
use Rattle.picture.specs.Layout.{greatest_priority}
use Rattle.law_fairness.specs.Law.{within, InEvery}
use Rattle.turns.specs.Pick.{picked, picked_number}

-- the rule in words, among the positions below n: the job at m is ready, no ready job has accumulated more, and one at a lower position less
pub record Chosen (p : List ℕ) (n m : ℕ) : Type 0 where
  pub inside : m < n
  pub is_ready : ready p m ≡ true
  pub most : (i : ℕ) → i < n → ready p i ≡ true → accumulated p i ≤ accumulated p m
  pub lowest : (i : ℕ) → i < m → ready p i ≡ true → accumulated p i < accumulated p m

-- what the law needs of a sound picture: all job records are there, accumulated is 0 unless ready, and no priority passes 127
pub record Orderly (p : List ℕ) : Type 0 where
  pub whole : slot Jobs (positions Jobs) ≤ length p
  pub idle : (i : ℕ) → i < positions Jobs → ready p i ≡ false → accumulated p i ≡ 0
  pub low : (i : ℕ) → i < positions Jobs → priority p i ≤ greatest_priority

-- the job with number n stands at position j, ready at priority g
pub record Stands (n j g : ℕ) (p : List ℕ) : Type 0 where
  pub names : number p Jobs j ≡ n
  pub is_ready : ready p j ≡ true
  pub at : priority p j ≡ g

-- what happens between two picks, from p to q, is quiet for the job at position j: it loses nothing accumulated, and no other job gains any
pub record Quiet (j : ℕ) (p q : List ℕ) : Type 0 where
  pub own : accumulated p j ≤ accumulated q j
  pub others : (i : ℕ) → i < positions Jobs → i ≢ j → accumulated q i ≤ accumulated p i

-- picks in a row from p on, with anything quiet before, between and after them, and the numbers that they answer; the job stands at each pick
pub data Stretch (n j g : ℕ) : List ℕ → List ℕ → Type 0 where
  over : {p : List ℕ} → Stretch n j g p []
  pick : {p numbers : List ℕ} → Orderly p → Stands n j g p → Stretch n j g (picked p) numbers → Stretch n j g p (picked_number p ∷ numbers)
  quiet : {p q numbers : List ℕ} → Quiet j p q → Stretch n j g q numbers → Stretch n j g p numbers

-- "2 + floor(3810 / p)": of so many picks in a row one is the job's, ready at priority g
abbrev pub pick_bound : ℕ → ℕ
pick_bound g = within (positions Jobs) greatest_priority g

-- A TURN THAT CAN'T BE LOST: the job's number is among every so many answers in a row
abbrev pub NoTurnLost : Type 0
NoTurnLost = (n j g : ℕ) → j < positions Jobs → 0 < g → g ≤ greatest_priority → (p numbers : List ℕ) → Stretch n j g p numbers → InEvery (pick_bound g) n numbers
