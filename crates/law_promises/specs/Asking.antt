-- Rule 78, of the call: trap 1 $2 answers for the members of a tree and for no other job, and with the next greater tag.
use Rattle.std.specs.Prelude.{ℕ, ◌≤◌, ◌≡◌, true, List}
use Rattle.words.specs.Words.{word}
use Rattle.picture.specs.Keys.{done}
use Rattle.picture.specs.Numbers.{position, live}
use Rattle.picture.specs.declared.Table.TheVariants.{Jobs}
use Rattle.calls.specs.Outcome.{Outcome}
use Rattle.calls.specs.Registers.{D1, D2, meant}
use Rattle.law_owners.specs.Under.{Under}
use Rattle.law_asking.specs.Answer.{Answers}
use Rattle.manager.specs.Door.{called}

-- the outcome o of a call with registers d on the picture p answers for the job that D1 means, a member of the tree of the job D2
pub record Asked (p d : List ℕ) (o : Outcome) : Type 0 where
  pub top_lives : live p Jobs (D2 d) ≡ true
  pub job_lives : live p Jobs (meant p (D1 d)) ≡ true
  pub under : Under p (position (D2 d)) (position (meant p (D1 d)))
  pub answers : Answers p (position (D2 d)) (position (meant p (D1 d))) o.registers
  -- "success sets D0 to 0"; A2 and A3 and the picture stay
  pub done_told : word o.registers 0 ≡ 0
  pub others : (i : ℕ) → 6 ≤ i → word o.registers i ≡ word d i
  pub picture : o.picture ≡ p

abbrev pub AskingTells : Type 0
AskingTells = (p d name : List ℕ) → word d 0 ≡ 0x2 → (called 1 p d name).key ≡ done → Asked p d (called 1 p d name)
