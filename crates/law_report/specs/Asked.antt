-- A report says what $2 says (rule 109): asked for the top, then for each answer until that is 0, $2 meets the jobs of the lines in their order, and tells of each what its line tells.
use Rattle.std.specs.Prelude.{ℕ, ◌+◌, ◌≡◌, cond, List, [], ◌∷◌, length}
use Rattle.words.specs.Words.{word}
use Rattle.picture.specs.Layout.{nobody}
use Rattle.picture.specs.Keys.{done}
use Rattle.calls.specs.Outcome.{Outcome}
use Rattle.calls.specs.Registers.{D1, D2, D3, caller}
use Rattle.manager.specs.Door.{called}
use Rattle.report_lines.specs.declared.JobLine.{JobLine}
use Rattle.report_lines.specs.Report.{report_key, report_lines}

-- the registers d ask $2 for the job x in the tree of the job `top`
pub record Asks (top x : ℕ) (d : List ℕ) : Type 0 where
  pub eight : length d ≡ 8
  pub code : word d 0 ≡ 0x2
  pub job : D1 d ≡ x
  pub tree : D2 d ≡ top

-- the outcome o of a call on the picture p tells what the line l tells, and answers y
pub record Said (p : List ℕ) (l : JobLine) (y : ℕ) (o : Outcome) : Type 0 where
  pub is_done : o.key ≡ done
  pub answer : D1 o.registers ≡ y
  pub its_owner : D2 o.registers ≡ l.owner
  -- "D3 $FF000000 if suspended, plus priority"
  pub standing : D3 o.registers ≡ cond l.suspended 0xFF00_0000 0 + l.priority
  pub picture : o.picture ≡ p

-- $2 tells of the job of the line l, and answers y, whatever the other registers and the name are
abbrev pub Answered : List ℕ → ℕ → JobLine → ℕ → Type 0
Answered p top l y = (d name : List ℕ) → Asks top l.number d → Said p l y (called 1 p d name)

-- asked for the job x, then for each answer until that is 0, $2 meets these lines and no other; the top may be job 0, so that only answers end it
pub data Meets (p : List ℕ) (top : ℕ) : ℕ → List JobLine → Type 0 where
  last : {x : ℕ} {l : JobLine} → l.number ≡ x → Answered p top l 0 → Meets p top x (l ∷ [])
  more : {x y : ℕ} {l : JobLine} {ls : List JobLine} → l.number ≡ x → Answered p top l y → (y ≡ 0 → ⊥) → Meets p top y ls → Meets p top x (l ∷ ls)

-- where a report answers 0 and some job is current
abbrev pub AskingMeetsTheLines : Type 0
AskingMeetsTheLines = (p : List ℕ) (top lent : ℕ) → report_key p top lent ≡ done → (caller p ≡ nobody → ⊥) → Meets p top top (report_lines p top lent)
