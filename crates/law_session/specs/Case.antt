-- The session program (rules 118 and 119): document 01's whole case, its sentences about lines, and a report, worked out.
use Rattle.std.specs.Prelude.{◌≡◌, List, [], ◌∷◌, ◌++◌, ℕ, replicate}
use Rattle.program_session.specs.Session.{session}

-- n zeros
abbrev pub zeros : ℕ → List ℕ
zeros n = replicate n 48

-- "the two lines 01 00000018 00000064 0 .. 0 and F0", without the blanks
abbrev pub case_input : List ℕ
case_input = 48 ∷ 49 ∷ zeros 6 ++ 49 ∷ 56 ∷ zeros 6 ++ 54 ∷ 52 ∷ zeros 48 ++ 10 ∷ 70 ∷ 48 ∷ 10 ∷ []

-- "write 00000000 00000070 0 .. 0 00000630 0 .. 0 and 00000000 00000000"
abbrev pub case_output : List ℕ
case_output = zeros 14 ++ 55 ∷ zeros 22 ++ 54 ∷ 51 ∷ zeros 25 ++ 10 ∷ zeros 16 ++ 10 ∷ []

abbrev pub WholeCase : Type 0
WholeCase = session case_input ≡ case_output

-- nothing gives nothing
abbrev pub NoInput : Type 0
NoInput = session [] ≡ []

-- "a bad line (empty, ..) gives FFFFFFF1"
abbrev pub EmptyLine : Type 0
EmptyLine = session (10 ∷ []) ≡ 70 ∷ 70 ∷ 70 ∷ 70 ∷ 70 ∷ 70 ∷ 70 ∷ 49 ∷ 10 ∷ []

-- F2 and the number of job 0: a line for it, number 0, unowned, depth 0, priority 32, not suspended
abbrev pub ReportOfJobZero : Type 0
ReportOfJobZero = session (70 ∷ 50 ∷ zeros 8 ++ 10 ∷ []) ≡ zeros 8 ++ replicate 8 70 ++ zeros 14 ++ 50 ∷ zeros 9 ++ 10 ∷ []

-- and of a job that isn't there, -2
abbrev pub ReportOfNobody : Type 0
ReportOfNobody = session (70 ∷ 50 ∷ zeros 7 ++ 49 ∷ 10 ∷ []) ≡ replicate 7 70 ++ 69 ∷ 10 ∷ []

-- "A line ends at a line feed or the end of input"; "Small letters are read too": f0 without a line feed
abbrev pub LineAtEnd : Type 0
LineAtEnd = session (102 ∷ 48 ∷ []) ≡ zeros 16 ++ 10 ∷ []
