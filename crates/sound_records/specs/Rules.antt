-- The rules of soundness for the record of position k, in document 01's order.
use Rattle.std.specs.Prelude.{ℕ, Bool, true, false, ◌&&◌, ◌||◌, not, List, leb, ltb, eqb, pos}
use Rattle.std.specs.Int.Signed.{le_z}
use Rattle.words.specs.Words.{word}
use Rattle.words.specs.Each.{every}
use Rattle.words.specs.Signed.{eq_z}
use Rattle.picture.specs.Layout.{nobody, last_word, greatest_tag, greatest_priority, hold, greatest_timeout, without_end}
use Rattle.picture.specs.Records.{all_zero, number, owner, base, priority, accumulated, timeout, waited_for, ending, used, ready}
use Rattle.picture.specs.Numbers.{tag, position, live}
use Rattle.picture.specs.declared.Table.{Table}
use Rattle.picture.specs.declared.Table.TheVariants.{Jobs, Channels}
use Rattle.sound_matching.specs.Match.{has_block}

-- rule 20: "block base (0 for job 0)"
unfoldable pub zero_base : List ℕ → ℕ → Bool
zero_base p k = not (eqb k 0) || eqb (base p Jobs k) 0

-- rule 21: "priority 0 to 127"
unfoldable pub priority_within : List ℕ → ℕ → Bool
priority_within p k = leb (priority p k) greatest_priority

-- rule 22: "accumulated 0 to 8,191"
unfoldable pub accumulated_within : List ℕ → ℕ → Bool
accumulated_within p k = leb (accumulated p k) hold

-- rule 23: "timeout (signed: 0 not suspended, -1 without end, else 1 to 32,767 frames left)"
unfoldable pub timeout_within : List ℕ → ℕ → Bool
timeout_within p k = le_z without_end (timeout p k) && le_z (timeout p k) (pos greatest_timeout)

-- rule 24: "Channel record: number, owner, block base, 1"
unfoldable pub ends_in_one : List ℕ → ℕ → Bool
ends_in_one p k = not (used p Channels k) || eqb (ending p k) 1

-- rules 25 and 26: "Unused records are all zero"
unfoldable pub blank : List ℕ → Table → ℕ → Bool
blank p t k = used p t k || all_zero p t k

-- rules 27 and 28: "A number is tag × 65,536 + position"
unfoldable pub positioned : List ℕ → Table → ℕ → Bool
positioned p t k = not (used p t k) || eqb (position (number p t k)) k

-- rule 29: "Job 0 has number 0 and always exists"
unfoldable pub zero_exists : List ℕ → ℕ → Bool
zero_exists p k = not (eqb k 0) || (used p Jobs k && eqb (number p Jobs k) 0)

-- rules 30 and 31: "Other tags run from 1 to 32,767"
unfoldable pub tag_within : List ℕ → Table → ℕ → Bool
tag_within p t k = not (has_block p t k) || (leb 1 (tag (number p t k)) && leb (tag (number p t k)) greatest_tag)

-- rules 32 and 33: "none is used twice": no lower position in use has the same tag
unfoldable pub tags_differ : List ℕ → Table → ℕ → ℕ → Bool
tags_differ p t k j = not (used p t j) || not (eqb (tag (number p t j)) (tag (number p t k)))

unfoldable pub tag_once : List ℕ → Table → ℕ → Bool
tag_once p t k = not (used p t k) || every (tags_differ p t k) k

-- rules 46 and 47: "every owner is live, or $FFFFFFFF for a job"
abbrev pub may_be_unowned : Table → Bool
may_be_unowned Jobs = true
may_be_unowned Channels = false

unfoldable pub owner_live : List ℕ → Table → ℕ → Bool
owner_live p t k = not (used p t k) || ((may_be_unowned t && eqb (owner p t k) nobody) || live p Jobs (owner p t k))

-- rule 49: "a job's owner has a smaller tag"
unfoldable pub owner_older : List ℕ → ℕ → Bool
owner_older p k = not (used p Jobs k) || (eqb (owner p Jobs k) nobody || ltb (tag (owner p Jobs k)) (tag (number p Jobs k)))

-- rule 50: "job 0 is unowned"
unfoldable pub zero_unowned : List ℕ → ℕ → Bool
zero_unowned p k = not (eqb k 0) || eqb (owner p Jobs k) nobody

-- rules 51 and 52: "tags don't pass the last given"
unfoldable pub tag_given : List ℕ → Table → ℕ → Bool
tag_given p t k = not (used p t k) || leb (tag (number p t k)) (word p (last_word t))

-- rule 56: "a job waits only for a live job other than 0 or itself, and only with timeout -1"
unfoldable pub wait_allowed : List ℕ → ℕ → Bool
wait_allowed p k = eqb (waited_for p k) 0 || (live p Jobs (waited_for p k) && (not (eqb (waited_for p k) (number p Jobs k)) && eq_z (timeout p k) without_end))

-- rule 57: "accumulated is 0 unless ready"
unfoldable pub idle_zero : List ℕ → ℕ → Bool
idle_zero p k = eqb (accumulated p k) 0 || ready p k
