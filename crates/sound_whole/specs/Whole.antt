-- The rules of soundness for the picture as a whole.
use Rattle.std.specs.Prelude.{ℕ, ◌+◌, ◌%◌, Bool, ◌&&◌, ◌||◌, List, length, leb, eqb}
use Rattle.words.specs.Words.{word}
use Rattle.picture.specs.Layout.{nobody, size_word, least_size, greatest_size, current_word, last_word, greatest_tag, heap_word, zero_word, heap_base}
use Rattle.picture.specs.Records.{ready}
use Rattle.picture.specs.Numbers.{position, live}
use Rattle.picture.specs.declared.Table.{Table}
use Rattle.picture.specs.declared.Table.TheVariants.{Jobs, Channels}

-- rule 3: "N of them: 1,024 to 16,384, a multiple of 4"
abbrev pub size_within : ℕ → Bool
size_within n = leb least_size n && (leb n greatest_size && eqb (n % 4) 0)

-- rule 6: "H is a multiple of 4, at least 4, and leaves the transient area at least 4"
abbrev pub heap_within : ℕ → ℕ → Bool
heap_within n h = eqb (h % 4) 0 && (leb 4 h && leb (heap_base + h + 4) n)

-- rule 17: longword 0 holds N, the lent length, and N is within its limits
unfoldable pub size_stated : List ℕ → Bool
size_stated p = eqb (word p size_word) (length p) && size_within (length p)

-- rule 18: longword 7 holds 0
unfoldable pub seven_zero : List ℕ → Bool
seven_zero p = eqb (word p zero_word) 0

-- rule 19: longword 4 holds H, and H is within its limits
unfoldable pub heap_stated : List ℕ → Bool
heap_stated p = heap_within (word p size_word) (word p heap_word)

-- rules 53 and 54: "the last given, which is at most 32,767"
unfoldable pub last_within : List ℕ → Table → Bool
last_within p t = leb (word p (last_word t)) greatest_tag

-- rule 55: "longword 1 is nobody or a ready job"
unfoldable pub current_ready : List ℕ → Bool
current_ready p = eqb (word p current_word) nobody || (live p Jobs (word p current_word) && ready p (position (word p current_word)))

-- all of them
unfoldable pub whole_fine : List ℕ → Bool
whole_fine p = size_stated p && (seven_zero p && (heap_stated p && (last_within p Jobs && (last_within p Channels && current_ready p))))
