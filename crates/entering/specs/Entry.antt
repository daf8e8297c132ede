-- A new entry of a table: its position, its tag, and what is written for it.
use Rattle.std.specs.Prelude.{ℕ, ◌+◌, Bool, List, ltb}
use Rattle.words.specs.Words.{word, put, clear}
use Rattle.picture.specs.Layout.{positions, width, last_word, greatest_tag}
use Rattle.picture.specs.Records.{slot, members, with_members, with_number, with_owner, with_base}
use Rattle.picture.specs.Numbers.{number_of, free_position}
use Rattle.picture.specs.declared.Table.{Table}
use Rattle.masks.specs.Masks.{with_bit}

-- rule 71: "Position (the lowest clear bit of the job mask)", and of the channel mask: one is free
unfoldable pub has_position : List ℕ → Table → Bool
has_position p t = ltb (free_position p t) (positions t)

-- rules 10 and 71: "tags run from 1 to 32,767, rising": one is left
unfoldable pub has_tag : List ℕ → Table → Bool
has_tag p t = ltb (word p (last_word t)) greatest_tag

abbrev pub next_tag : List ℕ → Table → ℕ
next_tag p t = word p (last_word t) + 1

abbrev pub next_number : List ℕ → Table → ℕ
next_number p t = number_of (next_tag p t) (free_position p t)

-- rule 77: the record of position k: "all but number, owner and base 0"
unfoldable pub recorded : List ℕ → Table → ℕ → ℕ → ℕ → ℕ → List ℕ
recorded p t k n o b = with_base (with_owner (with_number (clear (width t) p (slot t k)) t k n) t k o) t k b

-- rule 71: position k is in use, and g is the last tag given
unfoldable pub counted : List ℕ → Table → ℕ → ℕ → List ℕ
counted p t k g = put (with_members p t (with_bit (members p t) k)) (last_word t) g

-- the entry with tag g at position k, of owner o and base b
unfoldable pub entered : List ℕ → Table → ℕ → ℕ → ℕ → ℕ → List ℕ
entered p t k g o b = counted (recorded p t k (number_of g k) o b) t k g
