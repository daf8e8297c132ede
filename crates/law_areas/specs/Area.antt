-- What document 01 says of the blocks of an area, here the longwords from base up to e.
use Rattle.std.specs.Prelude.{ℕ, ◌<◌, ◌≡◌, true, false, cond, List}
use Rattle.words.specs.Each.{In, total}
use Rattle.blocks.specs.Header.{size, free, holder, start}
use Rattle.blocks.specs.Walk.{good, next, starts}

-- rule 39: "blocks tile each area exactly": each block that the walk meets is whole
abbrev pub Tiled : List ℕ → ℕ → ℕ → Type 0
Tiled p base e = (i : ℕ) → In i (starts p base e) → good p i e ≡ true

-- rule 40: "no two free blocks touch within an area"
abbrev pub Apart : List ℕ → ℕ → ℕ → Type 0
Apart p base e = (i : ℕ) → In i (starts p base e) → free p i ≡ true → next p i e < e → free p (next p i e) ≡ false

-- rule 37: "a free header is length, 0, 0, 0"
abbrev pub Blank : List ℕ → ℕ → ℕ → Type 0
Blank p base e = (i : ℕ) → In i (starts p base e) → free p i ≡ true → (holder p i ≡ 0) × (start p i ≡ 0)

-- the bytes of the blocks of an area
abbrev pub bytes : List ℕ → ℕ → ℕ → ℕ
bytes p base e = total (size p) (starts p base e)

-- the bytes of a block if it is free
abbrev pub free_size : List ℕ → ℕ → ℕ
free_size p i = cond (free p i) (size p i) 0

-- the bytes of a block if it is in use
abbrev pub used_size : List ℕ → ℕ → ℕ
used_size p i = cond (free p i) 0 (size p i)

-- the free bytes of an area
abbrev pub free_bytes : List ℕ → ℕ → ℕ → ℕ
free_bytes p base e = total (free_size p) (starts p base e)

-- the bytes in use of an area
abbrev pub used_bytes : List ℕ → ℕ → ℕ → ℕ
used_bytes p base e = total (used_size p) (starts p base e)
