-- The walk over the blocks of an area that ends at longword e (rule 15).
use Rattle.std.specs.Prelude.{ℕ, zero, suc, ◌+◌, ◌-◌, ◌/◌, ◌%◌, Bool, ◌&&◌, cond, List, [], ◌∷◌, leb, ltb, eqb}
use Rattle.picture.specs.Layout.{from, upto}
use Rattle.picture.specs.declared.Area.{Area}
use Rattle.blocks.specs.Header.{size}
use Rattle.blocks.specs.declared.Blocks.{Blocks}

-- the block at i is whole: its length is a multiple of 16, at least 16, and it ends within the area
unfoldable pub good : List ℕ → ℕ → ℕ → Bool
good p i e = eqb (size p i % 16) 0 && (leb 16 (size p i) && leb (size p i / 4) (e - i))

-- where the block after the one at i starts; a block that isn't good ends the walk
unfoldable pub next : List ℕ → ℕ → ℕ → ℕ
next p i e = cond (good p i e) (i + size p i / 4) e

-- the starts of the blocks from i to e, at most n of them
unfoldable pub starts_within : ℕ → List ℕ → ℕ → ℕ → List ℕ
starts_within zero p i e = []
starts_within (suc n) p i e = let l = i ∷ starts_within n p (next p i e) e in cond (ltb i e) l []

-- the starts of the blocks from i to e
unfoldable pub starts : List ℕ → ℕ → ℕ → List ℕ
starts p i e = starts_within (e - i) p i e

-- the blocks of an area
abbrev pub blocks : List ℕ → Area → List ℕ
blocks p a = starts p (from p a) (upto p a)

-- the starts that are left of a walk
abbrev pub left : Blocks → List ℕ
left walk = starts walk.picture.now walk.start walk.end
