-- What is written is read back as the same numbers (rule 117): the statements.
use Rattle.std.specs.Prelude.{◌≡◌, List, Some, ℕ, ◌+◌, ◌*◌, ◌^◌, ◌≤◌, ◌<◌, length, get_or}
use Rattle.program_digits.specs.Digits.{read, numbers}
use Rattle.program_writing.specs.Texts.{with_number, with_answer}

-- a number of at most eight digits
abbrev pub NumberComesBack : Type 0
NumberComesBack =
    (s : List ℕ) (i n x : ℕ) → i + n ≤ length s → n ≤ 8 → x < 16 ^ n → read (with_number s i n x) i n ≡ Some x

-- the words of an answer, such as eight registers
abbrev pub AnswerComesBack : Type 0
AnswerComesBack =
    (s : List ℕ) (i : ℕ) (ws : List ℕ) →
    i + 8 * length ws < length s → ((k : ℕ) → get_or ws k 0 < 2 ^ 32) → numbers (with_answer s i ws) i 8 (length ws) ≡ ws
