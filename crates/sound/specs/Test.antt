-- Needs no belief: `tested_is` (sound/proofs/Fused.antt) makes it equal to `sound` (rule 16).
-- What the test computes: the same rules in one pass over each table and one walk of each area.
use Rattle.std.specs.Prelude.{ℕ, Bool, false, ◌&&◌, List, Option, Some, None, eqb}
use Rattle.picture.specs.Layout.{from, upto}
use Rattle.picture.specs.declared.Table.{Table}
use Rattle.picture.specs.declared.Table.TheVariants.{Jobs, Channels}
use Rattle.sound_matching.specs.Match.{area_of}
use Rattle.sound_entries.specs.Entries.{entries_walked}
use Rattle.sound_walks.specs.Walks.{blocks_walked}
use Rattle.sound_whole.specs.Whole.{whole_fine}

-- both walks count, and as many
abbrev pub as_many : Option ℕ → Option ℕ → Bool
as_many None w = false
as_many (Some n) None = false
as_many (Some n) (Some m) = eqb n m

-- the rules of a table and of its area
unfoldable pub half_fine : List ℕ → Table → Bool
half_fine p t = as_many (entries_walked p t) (blocks_walked p t (from p (area_of t)) (upto p (area_of t)))

unfoldable pub tested : List ℕ → Bool
tested p = whole_fine p && (half_fine p Jobs && half_fine p Channels)
