-- Document 01 (rules 42 to 45): "live jobs other than 0 and kind 3 blocks match one to one, channels and kind 2 blocks too,
-- the record's base being the header's first byte and owners equal".
use Rattle.std.specs.Prelude.{ℕ, ◌*◌, Bool, ◌&&◌, ◌||◌, not, List, leb, eqb}
use Rattle.words.specs.Each.{count, any}
use Rattle.picture.specs.Layout.{positions}
use Rattle.picture.specs.Records.{owner, base, used}
use Rattle.picture.specs.declared.Table.{Table}
use Rattle.picture.specs.declared.Table.TheVariants.{Jobs, Channels}
use Rattle.picture.specs.declared.Area.{Area}
use Rattle.picture.specs.declared.Area.TheVariants.{Heap, Transient}
use Rattle.blocks.specs.Header.{kind, holder, kind_of}
use Rattle.blocks.specs.Walk.{blocks}

-- the first position whose entry has a block: job 0 has none
abbrev pub first : Table → ℕ
first Jobs = 1
first Channels = 0

-- the area where a table's blocks lie
abbrev pub area_of : Table → Area
area_of Jobs = Transient
area_of Channels = Heap

-- the entry at position k is live and has a block
unfoldable pub has_block : List ℕ → Table → ℕ → Bool
has_block p t k = leb (first t) k && used p t k

-- the block at i is that of the entry at position k: base and owner agree
unfoldable pub pair : List ℕ → Table → ℕ → ℕ → Bool
pair p t k i = eqb (base p t k) (4 * i) && (has_block p t k && eqb (owner p t k) (holder p i))

-- rules 42 and 44: a block of the table's kind is that of exactly one entry
unfoldable pub block_matched : List ℕ → Table → ℕ → Bool
block_matched p t i = not (eqb (kind p i) (kind_of t)) || eqb (count (λ (k : ℕ). pair p t k i) (positions t)) 1

-- the block at i is of the table's kind and that of the entry at position k
unfoldable pub matches : List ℕ → Table → ℕ → ℕ → Bool
matches p t k i = eqb (kind p i) (kind_of t) && pair p t k i

-- rules 43 and 45: an entry that has a block finds it in the table's area
unfoldable pub entry_matched : List ℕ → Table → ℕ → Bool
entry_matched p t k = not (has_block p t k) || any (matches p t k) (blocks p (area_of t))
