-- The session program (rule 117): what a line gives, and the picture that it leaves.
use Rattle.std.specs.Prelude.{ℕ, ◌≤◌, ◌≡◌, List, [], ◌∷◌, length, take, drop}
use Rattle.words.specs.Signed.{bits}
use Rattle.picture.specs.Keys.{bad_parameter}
use Rattle.program_lines.specs.Frames.{Frame, bad, picks, ticks, reports, traps}
use Rattle.program_reports.specs.Reports.{reported}
use Rattle.manager.specs.Door.{called}
use Rattle.program_replies.specs.declared.Answer.{Answer}
use Rattle.program_replies.specs.declared.Answer.TheVariants.{Longwords, Report}
use Rattle.manager.specs.Turn.{pick_answer, pick_picture, tick_key, ticking}

-- the lines of an answer, each by its longwords
pub record Reply : Type 0 where
  pub lines : List (List ℕ)
  pub picture : List ℕ

-- an answer of one line
abbrev pub one_line : List ℕ → List ℕ → Reply
one_line longwords p = record { lines = longwords ∷ []; picture = p }

-- "Each line gives eight registers ..; F0 gives number and key; F1 gives the key; a bad line .. gives FFFFFFF1 and changes nothing."
-- F2 gives a line for each member of the tree, or the key
abbrev pub reply : Frame → List ℕ → Reply
reply bad p = one_line (bits bad_parameter ∷ []) p
reply picks p = one_line ((pick_answer p).number ∷ bits (pick_answer p).key ∷ []) (pick_picture p)
reply ticks p = one_line (bits (tick_key p) ∷ []) (ticking p)
reply (reports top) p = record { lines = reported p top; picture = p }
reply (traps n registers name) p = one_line (called n p registers name).registers (called n p registers name).picture

-- a reply of one line is given: q is its picture, and its r longwords stand first in d, which was a; behind them it is as it was
pub record Replied (y : Reply) (r : ℕ) (q a d : List ℕ) : Type 0 where
  pub counts : r ≤ length d
  pub leaves : q ≡ y.picture
  pub gives : y.lines ≡ take r d ∷ []
  pub keeps : drop r d ≡ drop r a

-- what a frame comes to on the picture p: a reply of one line, or a report that is still to be written, on the same picture
abbrev pub Comes : Frame → List ℕ → Answer → List ℕ → List ℕ → List ℕ → Type 0
Comes f p (Longwords r) q a d = Replied (reply f p) r q a d
Comes f p (Report top) q a d = (f ≡ reports top) × (q ≡ p)
