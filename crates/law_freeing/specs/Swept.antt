-- Rule 98 in words: what giving blocks back in an area leaves. An area is the longwords from base up to e.
use Rattle.std.specs.Prelude.{ℕ, ◌+◌, ◌/◌, ◌≤◌, ◌<◌, ◌≡◌, false, cond, List, length}
use Rattle.words.specs.Words.{word}
use Rattle.words.specs.Each.{In, total}
use Rattle.blocks.specs.Header.{size, free}
use Rattle.blocks.specs.Walk.{starts}
use Rattle.headers.specs.Header.{Outside}
use Rattle.law_areas.specs.Area.{Tiled, Apart, Blank, bytes, free_bytes, used_bytes}
use Rattle.freeing.specs.Sweep.{goes}

-- the bytes of a block if it goes
abbrev pub given_size : List ℕ → ℕ → ℕ → ℕ → ℕ
given_size p m a i = cond (goes p m a i) (size p i) 0

-- the bytes of the blocks of an area that go
abbrev pub given_bytes : List ℕ → ℕ → ℕ → ℕ → ℕ → ℕ
given_bytes p base e m a = total (given_size p m a) (starts p base e)

-- q is p after a sweep of the area from base to e that gives back the block at a and those of the owners in the set m
pub record Swept (p q : List ℕ) (base e m a : ℕ) : Type 0 where
  pub as_long : length q ≡ length p
  pub outside : (k : ℕ) → Outside base e k → word q k ≡ word p k
  -- blocks tile the area, no two free ones touch, and free headers are length, 0, 0, 0
  pub tiled : Tiled q base e
  pub apart : Apart q base e
  pub blank : Blank p base e → Blank q base e
  -- the blocks in use are those that were and do not go, each with every longword
  pub stays : (i : ℕ) → In i (starts p base e) → free p i ≡ false → goes p m a i ≡ false → In i (starts q base e)
  pub keeps : (i : ℕ) → In i (starts p base e) → free p i ≡ false → goes p m a i ≡ false → (k : ℕ) → i ≤ k → k < i + size p i / 4 → word q k ≡ word p k
  pub only : (i : ℕ) → In i (starts q base e) → free q i ≡ false → In i (starts p base e) × ((free p i ≡ false) × (goes p m a i ≡ false))
  -- every block starts where one did; an absorbed header is four zeros, other old bytes stay
  pub were : (i : ℕ) → In i (starts q base e) → In i (starts p base e)
  pub absorbed : (i : ℕ) → In i (starts p base e) → (In i (starts q base e) → ⊥) → (k : ℕ) → i ≤ k → k < i + 4 → word q k ≡ 0
  pub rooms : (i : ℕ) → In i (starts p base e) → (k : ℕ) → i + 4 ≤ k → k < i + size p i / 4 → word q k ≡ word p k
  -- the bytes stay the same; those of the blocks that go are no longer in use but free
  pub same_bytes : bytes q base e ≡ bytes p base e
  pub more_free : free_bytes q base e ≡ free_bytes p base e + given_bytes p base e m a
  pub less_used : used_bytes q base e + given_bytes p base e m a ≡ used_bytes p base e
