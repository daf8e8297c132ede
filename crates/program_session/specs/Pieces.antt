-- A session whose input comes in pieces: what is known after an input, and what a further piece gives.
use Rattle.std.specs.Prelude.{ℕ, List, [], ◌∷◌, ◌++◌, length, ◌==◌}
use Rattle.program_digits.specs.Digits.{pick}
use Rattle.program_session.specs.Session.{first_picture, line_text, line_picture}

-- the picture, and the characters since the last line feed
pub record State : Type 0 where
  pub picture : List ℕ
  pub line : List ℕ

abbrev pub with_line : List ℕ → List ℕ → State
with_line p line = record { picture = p; line = line }

-- before any input
unfoldable pub start : State
start = with_line first_picture []

-- a line feed has the line answered, and any other character is one more of it
unfoldable pub step : State → ℕ → State
step a c = pick (c == 10) (with_line (line_picture a.line a.picture) []) (with_line a.picture (a.line ++ c ∷ []))

-- what a character gives: a line feed the line's text, any other nothing
unfoldable pub step_text : State → ℕ → List ℕ
step_text a c = pick (c == 10) (line_text a.line a.picture) []

-- the state after a piece of input
unfoldable pub after : State → List ℕ → State
after a [] = a
after a (c ∷ s) = after (step a c) s

-- what a piece of input gives
unfoldable pub gives : State → List ℕ → List ℕ
gives a [] = []
gives a (c ∷ s) = step_text a c ++ gives (step a c) s

-- the end of input ends a line that has characters, as a line feed does
unfoldable pub last_feed : State → List ℕ
last_feed a = pick (length a.line == 0) [] (10 ∷ [])

-- what the end of input gives
abbrev pub at_end : State → List ℕ
at_end a = gives a (last_feed a)
