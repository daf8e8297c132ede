-- Hexadecimal as it is read (rule 114). A text is a list of characters, and a place counts characters.
use Rattle.std.specs.Prelude.{ℕ, zero, suc, ◌+◌, ◌-◌, ◌*◌, Bool, true, false, List, [], ◌∷◌, Option, Some, None, is_some, unwrap_or, leb, ltb, get_or}

abbrev pub pick : {A : Type 0} → Bool → A → A → A
pick true a b = a
pick false a b = b

-- the value of a digit: 0 to 9, A to F, a to f
unfoldable pub digit : ℕ → Option ℕ
digit c =
    pick (ltb c 48) None
    (pick (ltb c 58) (Some (c - 48))
    (pick (ltb c 65) None
    (pick (ltb c 71) (Some (c - 55))
    (pick (ltb c 97) None
    (pick (ltb c 103) (Some (c - 87)) None)))))

-- the n characters from place i on are digits
unfoldable pub digits : List ℕ → ℕ → ℕ → Bool
digits s i zero = true
digits s i (suc n) = pick (is_some (digit (get_or s i 0))) (digits s (i + 1) n) false

-- the number that the n digits from place i on say, highest first
unfoldable pub number : List ℕ → ℕ → ℕ → ℕ
number s i zero = 0
number s i (suc n) = number s i n * 16 + unwrap_or (digit (get_or s (i + n) 0)) 0

-- a number of n digits, at most eight, at place i
unfoldable pub read : List ℕ → ℕ → ℕ → Option ℕ
read s i n = pick (leb n 8) (pick (digits s i n) (Some (number s i n)) None) None

-- the n numbers of w digits each from place i on
unfoldable pub numbers : List ℕ → ℕ → ℕ → ℕ → List ℕ
numbers s i w zero = []
numbers s i w (suc n) = number s i w ∷ numbers s (i + w) w n
