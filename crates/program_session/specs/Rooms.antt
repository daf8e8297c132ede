-- A session in the rooms that are lent: the picture, the line as far as it is kept, and the output's text.
use Rattle.std.specs.Prelude.{◌≡◌, ℕ, ◌+◌, ◌%◌, ◌^◌, ◌<◌, ◌≤◌, List, ◌++◌, length, take, Result, Ok, Err}
use Rattle.program_reports.specs.Reports.{longest_report}
use Rattle.program_pieces.specs.declared.Unwritten.{Unwritten}
use Rattle.program_session.specs.Session.{line_text, line_picture}
use Rattle.program_session.specs.Pieces.{State, start, after, gives, last_feed, at_end}

-- how much of a line is kept: one character more than a good line may have
abbrev pub most_kept : ℕ
most_kept = 513

-- the longest answer is a report: an answer of one line has at most eight longwords of eight digits, and a line feed
abbrev pub longest_answer : ℕ
longest_answer = longest_report

-- the rooms for the line and for the output have these lengths
pub record Roomy (line out : List ℕ) : Type 0 where
  pub for_line : most_kept ≡ length line
  pub for_answer : longest_answer ≤ length out

-- a state is held: p is its picture, and k is what is kept of its line
pub record Held (a : State) (p k : List ℕ) : Type 0 where
  pub pictures : p ≡ a.picture
  pub keeps : k ≡ take most_kept a.line

-- a line is answered: q is the picture that it leaves of p, and its text stands behind the first n characters of a in b, of which r are used
pub record Answered (line p q a : List ℕ) (n : ℕ) (b : List ℕ) (r : ℕ) : Type 0 where
  pub leaves : q ≡ line_picture line p
  pub puts : take r b ≡ take n a ++ line_text line p
  pub within : r ≤ n + longest_answer

-- the first n characters of a piece are taken: the state after them is held in q and the first k characters of d, and what they give is the first r characters of b
pub record Taken (a : State) (s : List ℕ) (n : ℕ) (q d : List ℕ) (k : ℕ) (b : List ℕ) (r : ℕ) : Type 0 where
  pub inside : n ≤ length s
  pub some : 0 < length s → 0 < n
  pub short : k ≤ length d
  pub holds : Held (after a (take n s)) q (take k d)
  pub fits : r ≤ length b
  pub puts : take r b ≡ gives a (take n s)

-- a count of characters written, which comes round at 2^64
abbrev pub counted : ℕ → ℕ
counted n = n % 2 ^ 64

-- a piece is taken, and as many characters more are written as it gives; or the output failed when n characters of it were
abbrev pub TakenAll : State → List ℕ → List ℕ → List ℕ → ℕ → ℕ → Result ℕ Unwritten → Type 0
TakenAll a s q d v w (Ok k) = (k ≤ length d) × (Held (after a s) q (take k d)) × (w ≡ counted (v + length (gives a s)))
TakenAll a s q d v w (Err _) = (n : ℕ) × (q ≡ (after a (take n s)).picture)

-- the end of input is answered: q is the picture after it, and what it gives is the first r characters of b
pub record Ended (a : State) (q b : List ℕ) (r : ℕ) : Type 0 where
  pub leaves : q ≡ (after a (last_feed a)).picture
  pub fits : r ≤ length b
  pub puts : take r b ≡ at_end a

-- what is held is the state after some input, and w counts the characters that this input gives
abbrev pub Known : List ℕ → List ℕ → ℕ → Type 0
Known p k w = (input : List ℕ) × (Held (after start input) p k) × (w ≡ counted (length (gives start input)))

-- a text is what some piece of input gives after some input, and w counts the characters that this input gives: so it is the next of the whole output behind w characters
abbrev pub Given : List ℕ → ℕ → Type 0
Given text w = (input : List ℕ) × (piece : List ℕ) × (text ≡ gives (after start input) piece) × (w ≡ counted (length (gives start input)))

-- a picture is the one after some input
abbrev pub Reached : List ℕ → Type 0
Reached p = (input : List ℕ) × (p ≡ (after start input).picture)
