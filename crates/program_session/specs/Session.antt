-- Document 01, the session program (rules 113, 116 and 117): the whole output as a function of the whole input.
use Rattle.std.specs.Prelude.{ℕ, List, [], ◌∷◌, ◌++◌, ◌==◌}
use Rattle.fresh.specs.Fresh.{fresh}
use Rattle.program_digits.specs.Digits.{pick}
use Rattle.program_writing.specs.Texts.{answers_text}
use Rattle.program_lines.specs.Frames.{frame}
use Rattle.program_replies.specs.Reply.{reply}

-- "The picture starts fresh, N 1,024, H 256."
abbrev pub first_size : ℕ
first_size = 1024

abbrev pub first_heap : ℕ
first_heap = 256

unfoldable pub first_picture : List ℕ
first_picture = fresh first_size first_heap

-- what a line gives on a picture, as it is written: each line of its reply, its longwords "in capitals" and a line feed
unfoldable pub line_text : List ℕ → List ℕ → List ℕ
line_text line p = answers_text (reply (frame line) p).lines

-- the picture that a line leaves
unfoldable pub line_picture : List ℕ → List ℕ → List ℕ
line_picture line p = (reply (frame line) p).picture

-- a character before the first of some lines, which is a line by itself where there are none
abbrev pub with_first : ℕ → List (List ℕ) → List (List ℕ)
with_first c [] = (c ∷ []) ∷ []
with_first c (line ∷ lines) = (c ∷ line) ∷ lines

-- "A line ends at a line feed or the end of input; nothing after the last line feed is no line."
unfoldable pub lines : List ℕ → List (List ℕ)
lines [] = []
lines (c ∷ s) = let rest = lines s in pick (c == 10) ([] ∷ rest) (with_first c rest)

-- what lines give, one after the other, each on the picture that those before it left
unfoldable pub texts : List ℕ → List (List ℕ) → List ℕ
texts p [] = []
texts p (line ∷ lines) = line_text line p ++ texts (line_picture line p) lines

-- the whole output of a session by its whole input
unfoldable pub session : List ℕ → List ℕ
session input = texts first_picture (lines input)
