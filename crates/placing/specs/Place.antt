-- Document 01 (rule 97): "Placing takes the low end of the lowest free block whose length is enough; the rest stays free; room is cleared."
-- An area is the longwords from base up to e. In plain words: `placed_at_the_lowest` (law_placing/proofs/Rule.antt).
use Rattle.std.specs.Prelude.{ℕ, ◌+◌, ◌-◌, ◌/◌, ◌≡◌, Bool, ◌&&◌, cond, List, [], ◌∷◌, leb, ltb, Option, Some, None}
use Rattle.words.specs.Words.{clear}
use Rattle.blocks.specs.Header.{header_width, size, free}
use Rattle.blocks.specs.Walk.{starts}
use Rattle.headers.specs.Header.{header}

-- the block at i is free and its length is enough for n bytes
unfoldable pub fits : List ℕ → ℕ → ℕ → Bool
fits p n i = free p i && leb n (size p i)

-- the first of a list that passes f, e for none
abbrev pub first : (ℕ → Bool) → ℕ → List ℕ → ℕ
first f e [] = e
first f e (i ∷ l) = cond (f i) i (first f e l)

-- rule 97: the lowest free block whose length is enough for n bytes, e for none
unfoldable pub chosen : List ℕ → ℕ → ℕ → ℕ → ℕ
chosen p base e n = first (fits p n) e (starts p base e)

-- rule 97: the rest of the block at i after n bytes stays free
unfoldable pub split : List ℕ → ℕ → ℕ → List ℕ
split p i n = cond (ltb n (size p i)) (header p (i + n / 4) (size p i - n) 0 0 0) p

-- a block of n bytes, kind k, owner o and start address s at the low end of the free block at i; its room is cleared
unfoldable pub placed : List ℕ → ℕ → ℕ → ℕ → ℕ → ℕ → List ℕ
placed p i n k o s = clear (n / 4 - header_width) (header (split p i n) i n k o s) (i + header_width)

-- the answer
unfoldable pub answer : List ℕ → ℕ → ℕ → ℕ → Option ℕ
answer p base e n = cond (ltb (chosen p base e n) e) (Some (chosen p base e n)) None

-- the picture after it
unfoldable pub after : List ℕ → ℕ → ℕ → ℕ → ℕ → ℕ → ℕ → List ℕ
after p base e n k o s = cond (ltb (chosen p base e n) e) (placed p (chosen p base e n) n k o s) p

pub record Placing (p : List ℕ) (base e n k o s : ℕ) (r : Option ℕ) (q : List ℕ) : Type 0 where
  pub answers : r ≡ answer p base e n
  pub leaves : q ≡ after p base e n k o s

-- the length of the block at i if it is free and longer than b, else b
unfoldable pub longer : List ℕ → ℕ → ℕ → ℕ
longer p b i = cond (free p i && ltb b (size p i)) (size p i) b

-- the length of the longest free block of a list, b where none is longer than b
abbrev pub longest_of : List ℕ → ℕ → List ℕ → ℕ
longest_of p b [] = b
longest_of p b (i ∷ l) = longest_of p (longer p b i) l

-- rule 82: the length of the longest free block of an area, 0 for none: in plain words `no_free_block_is_longer` and `the_longest_is_a_free_block`
-- (law_placing/proofs/Longest.antt)
unfoldable pub longest : List ℕ → ℕ → ℕ → ℕ
longest p base e = longest_of p 0 (starts p base e)
