-- rule 63: "Registers are lent as eight longwords, D0 to D3, A0 to A3."
use Rattle.std.specs.Prelude.{ℕ, cond, List}
use Rattle.words.specs.Words.{word, put, clear}
use Rattle.words.specs.Bits.{bit}
use Rattle.picture.specs.Layout.{current_word}

abbrev pub D1 : List ℕ → ℕ
D1 d = word d 1

abbrev pub D2 : List ℕ → ℕ
D2 d = word d 2

abbrev pub D3 : List ℕ → ℕ
D3 d = word d 3

abbrev pub A0 : List ℕ → ℕ
A0 d = word d 4

abbrev pub A1 : List ℕ → ℕ
A1 d = word d 5

-- the registers with a new value in one of them
abbrev pub with_D1 : ℕ → List ℕ → List ℕ
with_D1 v d = put d 1 v

abbrev pub with_D2 : ℕ → List ℕ → List ℕ
with_D2 v d = put d 2 v

abbrev pub with_D3 : ℕ → List ℕ → List ℕ
with_D3 v d = put d 3 v

abbrev pub with_A0 : ℕ → List ℕ → List ℕ
with_A0 v d = put d 4 v

abbrev pub with_A1 : ℕ → List ℕ → List ℕ
with_A1 v d = put d 5 v

-- rule 79: "D1 to A3 become 0"
abbrev pub cleared : List ℕ → List ℕ
cleared d = clear 7 d 1

-- the number of the current job
abbrev pub caller : List ℕ → ℕ
caller p = word p current_word

-- rule 67: "a number whose low word has bit 15 set means the current job"
unfoldable pub meant : List ℕ → ℕ → ℕ
meant p n = cond (bit n 15) (caller p) n
