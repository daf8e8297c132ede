-- Where the lines of a text end (rule 113).
use Rattle.std.specs.Prelude.{List, [], ◌∷◌, ℕ, suc, ◌+◌, eqb, drop}
use Rattle.program_digits.specs.Digits.{pick}

-- how many characters stand before the first line feed, all where there is none
unfoldable pub before_feed : List ℕ → ℕ
before_feed [] = 0
before_feed (c ∷ s) = pick (eqb c 10) 0 (suc (before_feed s))

-- the place of the first line feed from place i on, the length where there is none, and i where that is past the end
unfoldable pub line_end : List ℕ → ℕ → ℕ
line_end s i = i + before_feed (drop i s)
