-- Document 01 (rule 98): "Freeing merges with free neighbours in the area; an absorbed header becomes four zeros, other old bytes stay."
-- One sweep gives back all blocks that go: one block, or those of a set of owners. In plain words: a block given back is `released` (law_freeing/specs/Merge.antt),
-- longword by longword, by `sweeping_one_block_releases_it` (law_freeing/proofs/Merged.antt); what any sweep leaves is `sweeping_keeps_the_area` (Swept.antt).
use Rattle.std.specs.Prelude.{ℕ, ◌-◌, ◌*◌, Bool, ◌&&◌, ◌||◌, not, cond, List, [], ◌∷◌, ltb, eqb}
use Rattle.words.specs.Words.{put}
use Rattle.words.specs.Bits.{bit}
use Rattle.picture.specs.Layout.{positions}
use Rattle.picture.specs.Numbers.{position}
use Rattle.picture.specs.declared.Table.TheVariants.{Jobs}
use Rattle.blocks.specs.Header.{size, free, holder}
use Rattle.blocks.specs.Walk.{next, starts}
use Rattle.headers.specs.Header.{header}

-- The number o names a member of the set m, by its position. Where m is a tree of a sound picture and o is live or nobody, as every owner and every job waited
-- for is there, that is so exactly where the whole number is a member's: `a_member_is_named` and `a_live_number_named_is_a_member` (law_ending/proofs/Owned.antt).
abbrev pub named : ℕ → ℕ → Bool
named m o = ltb (position o) (positions Jobs) && bit m (position o)

-- rule 80: the block at i goes: it is in use, and it is the one at a or its owner's position is in the set m
unfoldable pub goes : List ℕ → ℕ → ℕ → ℕ → Bool
goes p m a i = not (free p i) && (eqb i a || named m (holder p i))

-- the block at i is free if it goes: its header is length, 0, 0, 0
unfoldable pub freed : List ℕ → ℕ → ℕ → ℕ → List ℕ
freed p m a i = cond (goes p m a i) (header p i (size p i) 0 0 0) p

-- the free block at r reaches to the end of the block at i; the absorbed header becomes four zeros
unfoldable pub absorbed : List ℕ → ℕ → ℕ → ℕ → List ℕ
absorbed p e r i = put (header p i 0 0 0 0) r ((next p i e - r) * 4)

-- the block at i merges with the run of free blocks from r up to it
unfoldable pub joined : List ℕ → ℕ → ℕ → ℕ → List ℕ
joined p e r i = cond (free p i && ltb r i) (absorbed p e r i) p

-- where the run of free blocks that ends with the block at i starts, e where that block is in use; r: the same of the block before
unfoldable pub run : List ℕ → ℕ → ℕ → ℕ → ℕ
run p e r i = cond (free p i) (cond (ltb r i) r i) e

-- a sweep over a list of blocks
abbrev pub sweep : List ℕ → ℕ → ℕ → ℕ → ℕ → List ℕ → List ℕ
sweep p e m a r [] = p
sweep p e m a r (i ∷ l) = sweep (joined (freed p m a i) e r i) e m a (run (freed p m a i) e r i) l

-- a sweep of the area from base to e
unfoldable pub swept : List ℕ → ℕ → ℕ → ℕ → ℕ → List ℕ
swept p base e m a = sweep p e m a e (starts p base e)
