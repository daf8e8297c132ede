-- Hexadecimal as it is written (rule 117): capitals, by itself and at a place of a text that is lent.
use Rattle.std.specs.Prelude.{ℕ, zero, suc, ◌+◌, ◌*◌, ◌/◌, ◌%◌, Bool, List, [], ◌∷◌, ◌++◌, leb, ltb, length, set}
use Rattle.program_digits.specs.Digits.{pick}

-- the character of a digit
unfoldable pub capital : ℕ → ℕ
capital d = pick (ltb d 10) (d + 48) (d + 55)

-- the last n digits of x, highest first
unfoldable pub spelled : ℕ → ℕ → List ℕ
spelled zero x = []
spelled (suc n) x = spelled n (x / 16) ++ capital (x % 16) ∷ []

-- words, eight digits each
unfoldable pub spelled_words : List ℕ → List ℕ
spelled_words [] = []
spelled_words (x ∷ xs) = spelled 8 x ++ spelled_words xs

-- an answer: words and a line feed
unfoldable pub answer_text : List ℕ → List ℕ
answer_text xs = spelled_words xs ++ 10 ∷ []

-- answers, one after the other
unfoldable pub answers_text : List (List ℕ) → List ℕ
answers_text [] = []
answers_text (xs ∷ rest) = answer_text xs ++ answers_text rest

-- n characters from place i on lie in the text
abbrev pub fits : List ℕ → ℕ → ℕ → Bool
fits s i n = leb (i + n) (length s)

-- the place behind n characters from place i on, where they fit
unfoldable pub past : List ℕ → ℕ → ℕ → ℕ
past s i n = pick (fits s i n) (i + n) i

-- the text with the last n digits of x from place i on
unfoldable pub written : List ℕ → ℕ → ℕ → ℕ → List ℕ
written s i zero x = s
written s i (suc n) x = written (set s (i + n) (capital (x % 16))) i n (x / 16)

-- the text with words from place i on, eight digits each
unfoldable pub written_words : List ℕ → ℕ → List ℕ → List ℕ
written_words s i [] = s
written_words s i (x ∷ xs) = written_words (written s i 8 x) (i + 8) xs

-- the same where they fit, and the text as it was where they do not
unfoldable pub with_number : List ℕ → ℕ → ℕ → ℕ → List ℕ
with_number s i n x = pick (fits s i n) (written s i n x) s

unfoldable pub with_words : List ℕ → ℕ → List ℕ → List ℕ
with_words s i xs = pick (fits s i (8 * length xs)) (written_words s i xs) s

-- the text with an answer from place i on
unfoldable pub with_answer : List ℕ → ℕ → List ℕ → List ℕ
with_answer s i xs = set (with_words s i xs) (past s i (8 * length xs)) 10
