-- Needs no belief: the test of which it is a part is equal to `sound`, by `tested_is` (sound/proofs/Fused.antt).
-- What the test for soundness computes of an area: every block keeps its rules, and how many blocks are of the table's kind.
use Rattle.std.specs.Prelude.{ℕ, Bool, ◌&&◌, cond, List, Option, Some, None, eqb}
use Rattle.words.specs.Each.{one, all, total}
use Rattle.picture.specs.Numbers.{live}
use Rattle.picture.specs.declared.Table.{Table}
use Rattle.picture.specs.declared.Table.TheVariants.{Jobs, Channels}
use Rattle.blocks.specs.Header.{kind, plain_kind, queue_kind, job_kind, free, holder, start, kind_of}
use Rattle.blocks.specs.Walk.{starts}
use Rattle.sound_matching.specs.Agreed.{agreed}
use Rattle.sound_areas.specs.Rules.{length_whole, free_blank, queue_room, tiles, untouched}

-- the rules of a free block, in an area that ends at e
unfoldable pub free_fine : List ℕ → ℕ → ℕ → Bool
free_fine p e i = free_blank p i && untouched p e i

-- the rules of a block that is not free: a job's in the transient area, plain or a queue's in the heap
unfoldable pub held_fine : List ℕ → Table → ℕ → Bool
held_fine p Jobs i = eqb (kind p i) job_kind && agreed p Jobs i
held_fine p Channels i = eqb (start p i) 0
    && cond (eqb (kind p i) plain_kind) (live p Jobs (holder p i)) (eqb (kind p i) queue_kind && (queue_room p i && agreed p Channels i))

-- the rules of a block of the table's area, which ends at e
unfoldable pub block_fine : List ℕ → Table → ℕ → ℕ → Bool
block_fine p t e i = length_whole p i && (tiles p e i && cond (free p i) (free_fine p e i) (held_fine p t i))

-- a walk over the blocks of the table's area: none where one breaks a rule, or how many blocks of the table's kind there are
unfoldable pub blocks_walked : List ℕ → Table → ℕ → ℕ → Option ℕ
blocks_walked p t b e = cond (all (block_fine p t e) (starts p b e)) (Some (total (λ (i : ℕ). one (eqb (kind p i) (kind_of t))) (starts p b e))) None
