-- Document 01 (rules 9, 11 and 12): "A number is tag × 65,536 + position. .. Within its kind a number names exactly one live entry or names none."
use Rattle.std.specs.Prelude.{ℕ, ◌+◌, ◌*◌, ◌/◌, ◌%◌, Bool, ◌&&◌, cond, List, eqb, Option, Some, None}
use Rattle.masks.specs.Masks.{lowest_clear}
use Rattle.picture.specs.Layout.{positions}
use Rattle.picture.specs.Records.{number, members, used}
use Rattle.picture.specs.declared.Table.{Table}
use Rattle.picture.specs.declared.Table.TheVariants.{Jobs, Channels}

abbrev pub tag_weight : ℕ
tag_weight = 65536

abbrev pub tag : ℕ → ℕ
tag n = n / tag_weight

abbrev pub position : ℕ → ℕ
position n = n % tag_weight

abbrev pub number_of : ℕ → ℕ → ℕ
number_of g k = g * tag_weight + k

-- rule 12: the number n names a live entry of the table
unfoldable pub live : List ℕ → Table → ℕ → Bool
live p t n = used p t (position n) && eqb (number p t (position n)) n

-- rules 11 and 12: the position of the entry that n names in its table, of the job that n names, and of the channel that n names
unfoldable pub entry_at : List ℕ → Table → ℕ → Option ℕ
entry_at p t n = cond (live p t n) (Some (position n)) None

abbrev pub job_at : List ℕ → ℕ → Option ℕ
job_at p n = entry_at p Jobs n

abbrev pub channel_at : List ℕ → ℕ → Option ℕ
channel_at p n = entry_at p Channels n

-- rule 71: "the lowest clear bit of the mask": the free position, or the number of positions for none
unfoldable pub free_position : List ℕ → Table → ℕ
free_position p t = lowest_clear (positions t) (members p t)
