-- Rule 97 in words, once over both areas: "Placing takes the low end of the lowest free block whose length is enough". An area is the longwords from base up to e.
use Rattle.std.specs.Prelude.{ℕ, ◌≤◌, ◌<◌, ◌≡◌, true, List, Some}
use Rattle.words.specs.Each.{In}
use Rattle.blocks.specs.Header.{size, free}
use Rattle.blocks.specs.Walk.{starts}
use Rattle.placing.specs.Place.{answer}

-- the block at i is free and long enough for n bytes, and no lower free block would have been enough
pub record LowestEnough (p : List ℕ) (base e n i : ℕ) : Type 0 where
  pub there : In i (starts p base e)
  pub is_free : free p i ≡ true
  pub enough : n ≤ size p i
  pub lowest : (j : ℕ) → In j (starts p base e) → j < i → free p j ≡ true → size p j < n

-- PLACING: a block is placed there and nowhere else
abbrev pub PlacedAtTheLowest : Type 0
PlacedAtTheLowest = (p : List ℕ) (base e n i : ℕ) → (answer p base e n ≡ Some i → LowestEnough p base e n i) × (LowestEnough p base e n i → answer p base e n ≡ Some i)
