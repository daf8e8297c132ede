-- Document 01 (rule 98): "Freeing merges with free neighbours in the area; an absorbed header becomes four zeros, other old bytes stay."
-- Here one block of the area from base to e is given back, the one at i.
use Rattle.std.specs.Prelude.{ℕ, ◌-◌, ◌*◌, ◌&&◌, cond, List, [], ◌∷◌, ltb, eqb}
use Rattle.blocks.specs.Header.{free}
use Rattle.blocks.specs.Walk.{next, starts}
use Rattle.headers.specs.Header.{header}

-- the block of a list before i, d where i is the first
abbrev pub before : ℕ → ℕ → List ℕ → ℕ
before i d [] = d
before i d (k ∷ l) = cond (eqb k i) d (before i k l)

-- where the merged block starts: at the block before the one at i if that is free, else at i
unfoldable pub low_end : List ℕ → ℕ → ℕ → ℕ → ℕ
low_end p base e i = cond (ltb (before i e (starts p base e)) e && free p (before i e (starts p base e))) (before i e (starts p base e)) i

-- where it ends: with the block at j behind the one at i if that is free, else before it
unfoldable pub high_end : List ℕ → ℕ → ℕ → ℕ
high_end p e j = cond (ltb j e && free p j) (next p j e) j

-- the picture with one free block from a up to b; the headers at i and j within it are absorbed
unfoldable pub merged : List ℕ → ℕ → ℕ → ℕ → ℕ → List ℕ
merged p a i j b = header (cond (ltb j b) (header (header p i 0 0 0 0) j 0 0 0 0) (header p i 0 0 0 0)) a ((b - a) * 4) 0 0 0

-- the picture with the block at i given back
unfoldable pub released : List ℕ → ℕ → ℕ → ℕ → List ℕ
released p base e i = merged p (low_end p base e i) i (next p i e) (high_end p e (next p i e))
