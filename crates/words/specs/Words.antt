-- Longwords of a picture (rule 3). A picture is a list of longwords, and an index counts longwords.
use Rattle.std.specs.Prelude.{ℕ, zero, suc, ◌+◌, ◌%◌, List, get_or, set}

-- the longword at i, 0 past the end
abbrev pub word : List ℕ → ℕ → ℕ
word p i = get_or p i 0

-- the picture with v at i
abbrev pub put : List ℕ → ℕ → ℕ → List ℕ
put p i v = set p i v

-- rule 69: the low word of a register
abbrev pub low_word : ℕ → ℕ
low_word register = register % 65536

-- rule 97: the picture with n longwords from i on cleared
unfoldable pub clear : ℕ → List ℕ → ℕ → List ℕ
clear zero p i = p
clear (suc n) p i = clear n (put p i 0) (i + 1)
