-- An input may come in any pieces: what is written for them, and at the end of input, put together is the session of the whole input.
use Rattle.std.specs.Prelude.{◌≡◌, List, [], ◌∷◌, ◌++◌, ℕ, take}
use Rattle.program_session.specs.Session.{session}
use Rattle.program_session.specs.Pieces.{State, with_line, start, after, gives, at_end}
use Rattle.program_session.specs.Rooms.{most_kept}

-- pieces put together
unfoldable pub together : List (List ℕ) → List ℕ
together [] = []
together (s ∷ pieces) = s ++ together pieces

-- what is written: for each piece what it gives after those before it, and then what the end of input gives
unfoldable pub written : State → List (List ℕ) → List ℕ
written a [] = at_end a
written a (s ∷ pieces) = gives a s ++ written (after a s) pieces

abbrev pub CutAnywhere : Type 0
CutAnywhere = (pieces : List (List ℕ)) → written start pieces ≡ session (together pieces)

-- of a line as many characters as are kept are enough: whatever comes, what is written is the same
abbrev pub KeptIsEnough : Type 0
KeptIsEnough = (a : State) (pieces : List (List ℕ)) → written (with_line a.picture (take most_kept a.line)) pieces ≡ written a pieces
