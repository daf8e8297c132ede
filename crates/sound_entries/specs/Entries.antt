-- Needs no belief: the test of which it is a part is equal to `sound`, by `tested_is` (sound/proofs/Fused.antt).
-- What the test for soundness computes of a table: every record keeps its rules, and how many entries have a block.
use Rattle.std.specs.Prelude.{ℕ, ◌+◌, ◌-◌, ◌%◌, Bool, true, ◌&&◌, cond, List, Option, Some, None, leb, ltb, get_or, set}
use Rattle.words.specs.Each.{every, count}
use Rattle.picture.specs.Layout.{positions}
use Rattle.picture.specs.Records.{number, all_zero, used}
use Rattle.picture.specs.Numbers.{tag}
use Rattle.picture.specs.declared.Table.{Table}
use Rattle.picture.specs.declared.Table.TheVariants.{Jobs, Channels}
use Rattle.sound_matching.specs.Match.{first, has_block}
use Rattle.sound_entries.specs.declared.Note.{Note}
use Rattle.sound_entries.specs.declared.Note.TheVariants.{Nothing, At, Several}
use Rattle.sound_records.specs.Rules.{zero_base, priority_within, accumulated_within, timeout_within, ends_in_one, positioned, zero_exists, tag_within, tags_differ, tag_once, owner_live, owner_older, zero_unowned, tag_given, wait_allowed, idle_zero}

-- the rules that a record of either table keeps
unfoldable pub entry_fine : List ℕ → Table → ℕ → Bool
entry_fine p t k = positioned p t k && (tag_within p t k && (tag_given p t k && owner_live p t k))

-- the rules of job 0
unfoldable pub zero_fine : List ℕ → ℕ → Bool
zero_fine p k = zero_exists p k && (zero_base p k && zero_unowned p k)

-- the rules of a record in use, but that its tag is used once
unfoldable pub live_fine : List ℕ → Table → ℕ → Bool
live_fine p Jobs k = entry_fine p Jobs k && (zero_fine p k && (priority_within p k && (accumulated_within p k && (timeout_within p k
    && (owner_older p k && (wait_allowed p k && idle_zero p k))))))
live_fine p Channels k = entry_fine p Channels k && ends_in_one p k

-- a record not in use is all zero, and not job 0's
unfoldable pub blank_fine : List ℕ → Table → ℕ → Bool
blank_fine p t k = leb (first t) k && all_zero p t k

-- the note of lower positions under the last six bits of the tag at k
abbrev pub note_of : List ℕ → Table → ℕ → List Note → Note
note_of p t k seen = get_or seen (tag (number p t k) % 64) Nothing

-- what a note says of the tag at k: that no lower position in use has its last six bits, that j alone has them, or that several may
unfoldable pub told_once : List ℕ → Table → ℕ → Note → Bool
told_once p t k Nothing = true
told_once p t k (At j) = cond (ltb j k) (tags_differ p t k j) (every (tags_differ p t k) k)
told_once p t k Several = every (tags_differ p t k) k

-- a note once position k has its bits too
abbrev pub noted_too : Note → ℕ → Note
noted_too Nothing k = At k
noted_too (At j) k = Several
noted_too Several k = Several

unfoldable pub with_note : List ℕ → Table → ℕ → List Note → List Note
with_note p t k seen = set seen (tag (number p t k) % 64) (noted_too (note_of p t k seen) k)

-- the rules of a record
unfoldable pub record_fine : List ℕ → Table → ℕ → Bool
record_fine p t k = cond (used p t k) (live_fine p t k && tag_once p t k) (blank_fine p t k)

-- a walk over the table: none where a record breaks a rule, or how many entries have a block
unfoldable pub entries_walked : List ℕ → Table → Option ℕ
entries_walked p t = cond (every (record_fine p t) (positions t)) (Some (count (has_block p t) (positions t))) None
